use Rattle.std.proofs.Common.{◌≡◌, length, set, sym, subst, arith}
use Rattle.std.specs.Prelude.{Some, None}
use Rattle.std.proofs.lemmas.Grind.{common_steps}
use Rattle.st_plain.specs.inside.Lists.{slot, one_entry, entry_words, IsFull}
use Rattle.st_plain.proofs.Counting.{total-without}
use Rattle.st_plain.proofs.Sweeping.{removed_laid_out, full_less, set_none_same}
use Rattle.st_plain.proofs.objects.Objects.remove.Goals as goal

pub overflow_sub-self : goal.overflow_sub-self
overflow_sub-self c =
    let o = c.args.self.now in
    let there : slot o.entries.items c.args.k ≡ Some c.in-Some.e = grind (arith, common_steps) in
    let left = total-without one_entry o.entries.items c.args.k c.in-Some.e there in
    let counted = o.counted.count in
    omega (arith, left, counted)

pub overflow_sub-self-in-Some : goal.overflow_sub-self-in-Some
overflow_sub-self-in-Some c =
    let o = c.args.self.now in
    let there : slot o.entries.items c.args.k ≡ Some c.in-Some.e = grind (arith, common_steps) in
    let left = total-without entry_words o.entries.items c.args.k c.in-Some.e there in
    let counted = o.counted.words in
    let is = c.words.ensures.words in
    omega (arith, left, counted, is)

pub invariant_of-self : goal.invariant_of-self
invariant_of-self c =
    let o = c.args.self.now in
    let es = o.entries.items in
    let k = c.args.k in
    let there : slot es k ≡ Some c.in-Some.e = grind (arith, common_steps) in
    let one = total-without one_entry es k c.in-Some.e there in
    let words = total-without entry_words es k c.in-Some.e there in
    let count = o.counted.count in
    let all = o.counted.words in
    let is = c.words.ensures.words in
    record {
      laid_out = removed_laid_out es (length o.pointers.items) (length o.units.items) o.table_end o.next_field o.next_unit k o.laid_out;
      counted = record { count = omega (arith, one, count); words = omega (arith, words, all, is) };
      full = subst (IsFull (set es k None)) (sym c.min-self.ensures) (full_less es k o.full_end o.full);
    }

pub returns-in_default-clause-entries : goal.returns-in_default-clause-entries
returns-in_default-clause-entries c =
    let o = c.args.self.now in
    let none : slot o.entries.items c.args.k ≡ None = grind (arith, common_steps) in
    sym (set_none_same o.entries.items c.args.k none)
