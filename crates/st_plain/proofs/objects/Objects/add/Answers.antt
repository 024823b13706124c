use Rattle.std.proofs.Common.{◌+◌, ◌<◌, ◌≤◌, length, sym, ap, ◌∙◌, arith}
use Rattle.std.specs.Prelude.{Some}
use Rattle.std.specs.Option.{option_map}
use Rattle.std.proofs.lemmas.List.{map-set}
use Rattle.st_plain.specs.inside.Lists.{new_entry, entry_object, one_entry, entry_words}
use Rattle.st_plain.proofs.Counting.{count_bound, words_bound, total-with}
use Rattle.st_plain.proofs.Placing.{place_laid_out, full_more}
use Rattle.st_plain.proofs.objects.Objects.add.Goals as goal

pub overflow_add-self-3 : goal.overflow_add-self-3
overflow_add-self-3 c =
    let o = c.args.self.now in
    let most = count_bound o.entries.items (length o.pointers.items) (length o.units.items) o.table_end o.next_field o.next_unit o.laid_out in
    omega (arith, most, o.counted.count)

pub overflow_add-self-4 : goal.overflow_add-self-4
overflow_add-self-4 c =
    let o = c.args.self.now in
    let most = words_bound o.entries.items (length o.pointers.items) (length o.units.items) o.table_end o.next_field o.next_unit o.laid_out in
    omega (arith, most, o.counted.words, c.words.ensures.small)

pub invariant_of-self : goal.invariant_of-self
invariant_of-self c =
    let o = c.args.self.now in
    let es = o.entries.items in
    let k = c.args.k in
    let top = c.max-self.result in
    let e = new_entry c.args.class c.args.kind o.next_field c.args.fields o.next_unit c.args.units in
    let below : k < top = let m = c.max-self.ensures in omega (arith, m) in
    let above : o.table_end ≤ top = let m = c.max-self.ensures in omega (arith, m) in
    let within : top ≤ 32768 = let a = o.laid_out.within in let m = c.max-self.ensures in let w = c.requires.within in omega (arith, a, m, w) in
    let in_table : k < length es = let a = o.laid_out.places in let w = c.requires.within in omega (arith, a, w) in
    let r = c.requires in
    record {
      laid_out = place_laid_out es (length o.pointers.items) (length o.units.items) o.table_end o.next_field o.next_unit o.laid_out c.args.class c.args.kind c.args.fields c.args.units r.fields_end r.units_end k top r.class r.small r.parts below above within;
      counted = record {
        count = ap (λ n. n + 1) o.counted.count ∙ sym (total-with one_entry es k e in_table r.free);
        words = (λ i. o.counted.words i + c.words.ensures.words i) ∙ sym (total-with entry_words es k e in_table r.free);
      };
      full = full_more es k o.full_end e in_table o.full;
    }

pub returns-clause-objects : goal.returns-clause-objects
returns-clause-objects c =
    let o = c.args.self.now in
    map-set (option_map (entry_object o.pointers.items o.units.items)) o.entries.items c.args.k (Some (new_entry c.args.class c.args.kind o.next_field c.args.fields o.next_unit c.args.units))
