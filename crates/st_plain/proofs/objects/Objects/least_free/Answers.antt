use Rattle.std.proofs.Common.{◌≡◌, ℕ, ◌≤◌, ◌<◌, true, sym, ◌∙◌, is_some, arith}
use Rattle.std.specs.Prelude.{None}
use Rattle.std.proofs.lemmas.Grind.{common_steps}
use Rattle.st_model.specs.Table.{entry}
use Rattle.st_model.proofs.Making.{first_free_is}
use Rattle.st_plain.specs.inside.Lists.{slot}
use Rattle.st_plain.specs.inside.ListsPlain.{objects_of}
use Rattle.st_plain.proofs.Closed.{entry_none}
use Rattle.st_plain.proofs.Slots.{is_some-entry}
use Rattle.st_plain.proofs.objects.Objects.least_free.Goals as goal

pub returns-clause-least : goal.returns-clause-least
returns-clause-least c =
    let o = c.args.self.now in
    let k = c.loop-k.k in
    let none : slot o.entries.items k ≡ None = grind (arith, common_steps) in
    let full : (j : ℕ) → 1 ≤ j → j < k → is_some (entry (objects_of o) j) ≡ true = λ j low high.
    is_some-entry o.pointers.items o.units.items o.entries.items j ∙ c.loop-k.invariant.full j low high
    in
    sym (first_free_is (objects_of o) k c.loop-k.invariant.start (entry_none o k none) full)
