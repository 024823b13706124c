use Rattle.std.proofs.Common.{◌≡◌, ℕ, true, ◌∙◌, subst, sym, inl, inr}
use Rattle.std.proofs.lemmas.Bool.{cases_eq}
use Rattle.st_lookup.specs.inside.Remembered.{on}
use Rattle.st_lookup.proofs.Watching.{on_value}
use Rattle.st_lookup.proofs.watch.Watch.add.Goals as goal

pub returns-clause-on : goal.returns-clause-on
returns-clause-on c =
    let ws = c.set_bit.new.words.items in
    on_value ws c.args.o.0 (subst (λ (j : ℕ). on ws j ≡ true) c.from.ensures c.set_bit.ensures.set)

pub returns-clause-grows : goal.returns-clause-grows
returns-clause-grows c j h =
    let ws = c.set_bit.new.words.items in
    elim (cases_eq j c.from.result) [
      | inl e ↦ subst (λ (i : ℕ). on ws i ≡ true) (sym e) c.set_bit.ensures.set
      | inr d ↦ c.set_bit.ensures.others j d ∙ h
    ]
