use Rattle.std.proofs.Common.{◌≡◌, replicate, None, refl, sym, subst, ap, ◌∙◌}
use Rattle.st_model.specs.Machine.{Head}
use Rattle.st_model.specs.Settled.{is_marked}
use Rattle.st_model.specs.View.{IsComplete, empty_view, head_of, nothing_held}
use Rattle.st_clean.proofs.Below.{fills_none, complete_only}
use Rattle.st_clean.proofs.filling.restricted.Goals as goal

empty_objects : (h : Head) → (empty_view h).objects ≡ replicate 32768 None
unfolding empty_view
empty_objects h = refl

empty_held : (h : Head) → (empty_view h).held ≡ nothing_held
unfolding empty_view
empty_held h = refl

empty_head : (h : Head) → (empty_view h).head ≡ h
unfolding empty_view
empty_head h = refl

pub fill-requires-clause-empty : goal.fill-requires-clause-empty
fill-requires-clause-empty g c =
    let v = g.M.Memory.view c.args.m.now in
    let h = head_of c.capacity.result c.globals.result c.symbols.result in
    let e = c.in_ok-loader.ensures in
    let cap = c.capacity.ensures in
    fills_none (is_marked c.args.marks.now) v (g.L.Loader.loaded c.in_ok-loader.loader)
    (ap (λ w. w.objects) e ∙ (empty_objects h ∙ ap (λ n. replicate n None) (sym (g.met.M.Memory.whole c.args.m.now).places)))
    (ap (λ w. w.held) e ∙ empty_held h)
    (ap (λ w. w.head) e ∙ (empty_head h ∙ (λ t. record { entries = (ap (λ d. d.entries) cap) t; words = (ap (λ d. d.words) cap) t; globals = c.globals.ensures t; symbols = c.symbols.ensures t })))

pub finish-requires : goal.finish-requires
finish-requires g c =
    subst IsComplete (sym c.fill.ensures) (complete_only (g.M.Memory.view c.args.m.now) (is_marked c.args.marks.now) (g.met.M.Memory.whole c.args.m.now) c.requires.closed)
