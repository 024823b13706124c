use Rattle.std.proofs.Common.{◌≡◌, ℕ, length, ap, ◌∙◌, inl, inr, arith}
use Rattle.std.specs.Prelude.{None}
use Rattle.std.specs.Option.{option_map}
use Rattle.std.specs.Vec.{with_items}
use Rattle.std.proofs.lemmas.Bool.{cases_lt}
use Rattle.std.proofs.lemmas.Grind.{common_steps}
use Rattle.st_plain.specs.inside.Lists.{slot, entry_object}
use Rattle.st_plain.proofs.Counting.{none_counted}
use Rattle.st_plain.proofs.Placing.{none_laid_out}
use Rattle.st_plain.proofs.Slots.{entry-listed}
use Rattle.st_plain.proofs.objects.Objects.clear.Goals as goal

pub invariant_of-self : goal.invariant_of-self
invariant_of-self c =
    let o = c.args.self.now in
    let new = c.clear_places.new.entries in
    let es = (with_items o.entries new).items in
    let read : c.as_mut_slice.result.now ≡ o.entries.items = grind (arith, common_steps) in
    let left : es ≡ new = grind (arith, common_steps) in
    let none : (k : ℕ) → slot es k ≡ None = λ k. ap (λ xs. slot xs k) left ∙ elim (cases_lt k o.table_end) [
      | inl l ↦ c.clear_places.ensures.below k l
      | inr l ↦ c.clear_places.ensures.above k l ∙ ap (λ xs. slot xs k) read ∙ o.laid_out.empty k l
    ] in
    let long : length es ≡ 32768 = ap length left ∙ c.clear_places.auto.entries ∙ ap length read ∙ o.laid_out.places in
    record {
      laid_out = none_laid_out es (length o.pointers.items) (length o.units.items) long none o.laid_out.bounded;
      counted = none_counted es none;
      full = λ k low high. absurd (omega (arith, low, high));
    }

pub returns-clause-empty : goal.returns-clause-empty
returns-clause-empty c = λ k.
    let o = c.args.self.now in
    let new = c.clear_places.new.entries in
    let read : c.as_mut_slice.result.now ≡ o.entries.items = grind (arith, common_steps) in
    let left : (with_items o.entries new).items ≡ new = grind (arith, common_steps) in
    let none : slot new k ≡ None = elim (cases_lt k o.table_end) [
      | inl l ↦ c.clear_places.ensures.below k l
      | inr l ↦ c.clear_places.ensures.above k l ∙ ap (λ xs. slot xs k) read ∙ o.laid_out.empty k l
    ] in
    entry-listed o.pointers.items o.units.items (with_items o.entries new).items k ∙ ap (λ xs. option_map (entry_object o.pointers.items o.units.items) (slot xs k)) left ∙ ap (option_map (entry_object o.pointers.items o.units.items)) none
