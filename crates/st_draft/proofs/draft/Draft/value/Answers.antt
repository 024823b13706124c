use Rattle.std.proofs.Common.{◌≡◌, ap, ◌∙◌, arith}
use Rattle.st_model.specs.Values.{word}
use Rattle.st_draft.specs.inside.Drafts.{with_made, field_value, replayed}
use Rattle.st_draft.proofs.draft.Draft.value.Goals as goal

pub returns : goal.returns
unfolding replayed
returns g c =
    let d = c.args.self.now in
    let start = with_made (g.M.Memory.view d.base.now).objects d.notes.made d.notes.made_count in
    let none : c.loop-k.k ≡ 0 = omega arith in
    c.loop-k.invariant.same ∙ ap (λ k. field_value (replayed start d.notes.changes k) (word c.loop-k.o) c.loop-k.at) none ∙ c.first_value.ensures
