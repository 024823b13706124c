use Rattle.st_model.specs.Limits.{most_words}
use Rattle.std.proofs.Common.{◌*◌, ◌≤◌, length, ap, ◌∙◌, arith}
use Rattle.std.specs.Option.{option_map}
use Rattle.st_plain.specs.inside.Lists.{entry_object}
use Rattle.st_plain.proofs.Counting.{none_counted}
use Rattle.st_plain.proofs.Placing.{none_laid_out}
use Rattle.st_plain.proofs.Slots.{entry-listed}
use Rattle.st_plain.proofs.objects.Objects.new.Goals as goal

pub returns-clause-empty : goal.returns-clause-empty
returns-clause-empty c = λ k.
    let p = c.in_ok-pointers.pointers.items in
    let u = c.in_ok-units.units.items in
    entry-listed p u c.in_ok-entries.entries.items k ∙ ap (option_map (entry_object p u)) (c.in_ok-entries.ensures.empty k)

pub invariant_of-result : goal.invariant_of-result
invariant_of-result c =
    let es = c.in_ok-entries.entries.items in
    let none = c.in_ok-entries.ensures.empty in
    let few = c.requires in
    let fields : length c.in_ok-pointers.pointers.items ≤ most_words = let n = c.in_ok-pointers.ensures.len in omega (arith, n, few) in
    let units : length c.in_ok-units.units.items ≤ 2 * most_words = let n = c.in_ok-units.ensures in omega (arith, n, few) in
    record {
      laid_out = none_laid_out es (length c.in_ok-pointers.pointers.items) (length c.in_ok-units.units.items) c.in_ok-entries.ensures.len none (record { fields_most = fields; units_most = units });
      counted = none_counted es none;
      full = λ k low high. absurd (omega (arith, low, high));
    }
