use Rattle.std.proofs.Common.{◌≡◌, ◌++◌, ap, ◌∙◌}
use Rattle.st_emit.specs.inside.NameViews.{scope_view, frame_view}
use Rattle.st_emit.proofs.Scopes.{scope_view_push}
use Rattle.st_emit.proofs.names.inner_scope.Goals as goal

pub returns : goal.returns
returns c =
    let outer = c.in_ok-inner.inner.items in
    let copied : outer ≡ c.args.scope.now = c.in_ok-inner.ensures.items_if_clones_equal (λ x y same. same) in
    ap scope_view c.in_ok-push.ensures.items ∙ scope_view_push outer c.args.frame ∙ ap (λ fs. scope_view fs ++ frame_view c.args.frame) copied
