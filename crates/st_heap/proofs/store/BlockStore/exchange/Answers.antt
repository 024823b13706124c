use Rattle.std.proofs.Common.{◌/◌, List, Option, Some, None, length, get_or, set, is_some, refl, sym, ap, ◌∙◌, subst, length-set}
use Rattle.st_table.specs.declared.entry.Entry.{Entry}
use Rattle.st_heap.specs.inside.Blocks.{exchanged_entries, entry_at, moved_entry, IsTied}
use Rattle.st_heap.specs.inside.Heaps.{words_of, blocks_of}
use Rattle.st_heap.specs.inside.Links.{next_in, before_in}
use Rattle.st_heap.specs.inside.Stored.{stored_at, used_of}
use Rattle.st_heap.specs.inside.Stores.{stored_of}
use Rattle.st_heap.proofs.Laying.{entry_inside}
use Rattle.st_heap.proofs.Linking.{set_twice}
use Rattle.st_heap.proofs.Storing.{slot_entry}
use Rattle.st_heap.proofs.Swapping.{crossed, entries_crossed, stored_crossed, exchanged_first, exchanged_second}
use Rattle.st_heap.proofs.Totals.{used_exchanged}
use Rattle.st_heap.proofs.Tying.{are_tied, tied_entry}
use Rattle.st_heap.proofs.store.BlockStore.exchange.Goals as goal

pub set_entry-requires-2 : goal.set_entry-requires-2
set_entry-requires-2 c =
    let s = c.args.self.now in
    let e = c.entry-first.result in
    let f = c.entry-second.result in
    let second = exchanged_second s.table c.args.a c.args.b e f c.entry-first.ensures c.entry-second.ensures (crossed e f) refl in
    let is = c.set_entry.ensures ∙ ap (λ es. set es (c.args.a.0 / 2) (Some (crossed e f))) c.exchange.ensures.entries in
    record { even = c.requires.second.even; entered = ap (λ es. is_some (get_or es (c.args.b.0 / 2) None)) is ∙ ap is_some second.1 }

pub invariant_of-self : goal.invariant_of-self
invariant_of-self c =
    let s = c.args.self.now in
    let a = c.args.a.0 / 2 in
    let b = c.args.b.0 / 2 in
    let e = c.entry-first.result in
    let f = c.entry-second.result in
    let bs = blocks_of c.exchange.new.self in
    let moved = exchanged_entries s.table c.args.a c.args.b in
    let first = exchanged_first s.table c.args.a c.args.b e f c.entry-first.ensures c.entry-second.ensures in
    let second = exchanged_second s.table c.args.a c.args.b e f c.entry-first.ensures c.entry-second.ensures (crossed e f) refl in
    let is = entries_crossed s c.args.a c.args.b e f c.exchange.new.t c.set_entry.new.self c.set_entry-2.new.self c.exchange.ensures.entries c.set_entry.ensures c.set_entry-2.ensures in
    let now = stored_crossed s c.args.a c.args.b e f c.exchange.new.t c.set_entry.new.self c.set_entry-2.new.self c.exchange.ensures.entries c.set_entry.ensures c.set_entry-2.ensures c.exchange.new.self c.entry-first.ensures c.entry-second.ensures c.exchange.ensures.words c.exchange.ensures.blocks in
    let tied : IsTied moved bs = subst (λ (es : List (Option Entry)). IsTied es bs) c.exchange.ensures.entries c.exchange.ensures.tied in
    let once = tied_entry moved bs a first.0 (crossed e f) tied first.1 (sym first.2) in
    let twice = tied_entry (set moved a (Some (crossed e f))) bs b second.0 (crossed f e) once second.1 (sym second.2) in
    record {
      tied = are_tied c.set_entry-2.new.self bs (subst (λ (es : List (Option Entry)). IsTied es bs) (sym is) twice);
      places = ap (λ (es : List (Option Entry)). length es) is ∙ length-set (set moved a (Some (crossed e f))) b (Some (crossed f e)) ∙ length-set moved a (Some (crossed e f))
          ∙ length-set (set s.table a (moved_entry (get_or s.table a None) (entry_at (get_or s.table b None)))) b (moved_entry (get_or s.table b None) (entry_at (get_or s.table a None)))
          ∙ length-set s.table a (moved_entry (get_or s.table a None) (entry_at (get_or s.table b None))) ∙ s.places;
      counted = s.counted ∙ sym (ap used_of now ∙ used_exchanged (stored_of s) a b (stored_at (words_of s.heap) (blocks_of s.heap) e) (stored_at (words_of s.heap) (blocks_of s.heap) f) (slot_entry (words_of s.heap) (blocks_of s.heap) s.table a e c.entry-first.ensures) (slot_entry (words_of s.heap) (blocks_of s.heap) s.table b f c.entry-second.ensures));
      held = c.exchange.ensures.held ∙ s.held;
    }

pub returns-clause-stored : goal.returns-clause-stored
returns-clause-stored c =
    let s = c.args.self.now in
    let e = c.entry-first.result in
    let f = c.entry-second.result in
    stored_crossed s c.args.a c.args.b e f c.exchange.new.t c.set_entry.new.self c.set_entry-2.new.self c.exchange.ensures.entries c.set_entry.ensures c.set_entry-2.ensures c.exchange.new.self c.entry-first.ensures c.entry-second.ensures c.exchange.ensures.words c.exchange.ensures.blocks

pub returns-clause-links : goal.returns-clause-links
returns-clause-links c =
    let s = c.args.self.now in
    let a = c.args.a.0 / 2 in
    let b = c.args.b.0 / 2 in
    let e = c.entry-first.result in
    let f = c.entry-second.result in
    let is = entries_crossed s c.args.a c.args.b e f c.exchange.new.t c.set_entry.new.self c.set_entry-2.new.self c.exchange.ensures.entries c.set_entry.ensures c.set_entry-2.ensures in
    let u = moved_entry (get_or s.table a None) (entry_at (get_or s.table b None)) in
    let v = moved_entry (get_or s.table b None) (entry_at (get_or s.table a None)) in
    let ina = entry_inside s.table a e c.entry-first.ensures in
    let inb = entry_inside s.table b f c.entry-second.ensures in
    record {
      next = λ j. ap (λ (es : List (Option Entry)). next_in (get_or es j None)) is ∙ set_twice next_in s.table a b u v (Some (crossed e f)) (Some (crossed f e)) ina inb (ap next_in (sym c.entry-first.ensures)) (ap next_in (sym c.entry-second.ensures)) j;
      before = λ j. ap (λ (es : List (Option Entry)). before_in (get_or es j None)) is ∙ set_twice before_in s.table a b u v (Some (crossed e f)) (Some (crossed f e)) ina inb (ap before_in (sym c.entry-first.ensures)) (ap before_in (sym c.entry-second.ensures)) j;
    }
