use Rattle.std.proofs.Common.{◌≡◌, ◌/◌, sym, ◌∙◌, arith}
use Rattle.std.proofs.lemmas.Grind.{common_steps}
use Rattle.st_model.specs.Values.{value}
use Rattle.st_plain.specs.inside.Lists.{one_entry, entry_words}
use Rattle.st_plain.proofs.Slots.{slot_half}
use Rattle.st_plain.proofs.Exchanging.{exchanged_total, exchanged_full, exchanged_laid_out, exchanged_objects}
use Rattle.st_plain.proofs.objects.Objects.exchange.Goals as goal

pub invariant_of-self : goal.invariant_of-self
invariant_of-self c =
    let o = c.args.self.now in
    let es = o.entries.items in
    let a = c.from.result in
    let b = c.from-2.result in
    let e = c.live_entry-first.result in
    let f = c.live_entry-second.result in
    let half_a : a ≡ c.args.a.0 / 2 = grind (arith, common_steps) in
    let half_b : b ≡ c.args.b.0 / 2 = grind (arith, common_steps) in
    let at_a = (slot_half es c.args.a.0 a e half_a c.live_entry-first.ensures.entry).1 in
    let at_b = (slot_half es c.args.b.0 b f half_b c.live_entry-second.ensures.entry).1 in
    record {
      laid_out = exchanged_laid_out es a b e f at_a at_b _ _ o.table_end o.next_field o.next_unit o.laid_out;
      counted = record {
        count = o.counted.count ∙ sym (exchanged_total es a b e f at_a at_b one_entry);
        words = o.counted.words ∙ sym (exchanged_total es a b e f at_a at_b entry_words);
      };
      full = exchanged_full es a b e f at_a at_b o.full_end o.full;
    }

pub returns-clause-objects : goal.returns-clause-objects
returns-clause-objects c =
    let o = c.args.self.now in
    let es = o.entries.items in
    let a = c.from.result in
    let b = c.from-2.result in
    let half_a : a ≡ c.args.a.0 / 2 = grind (arith, common_steps) in
    let half_b : b ≡ c.args.b.0 / 2 = grind (arith, common_steps) in
    let first = slot_half es c.args.a.0 a c.live_entry-first.result half_a c.live_entry-first.ensures.entry in
    let second = slot_half es c.args.b.0 b c.live_entry-second.result half_b c.live_entry-second.ensures.entry in
    exchanged_objects o.pointers.items o.units.items es (value c.args.a) (value c.args.b) a b c.live_entry-first.result c.live_entry-second.result first.0 second.0 first.1 second.1
