use Rattle.std.proofs.Common.{◌≡◌, ◌≢◌, ℕ, get_or, ◌-◌, ◌/◌, List, Option, None, length, set, sym, ap, ◌∙◌, arith, length-set}
use Rattle.std.proofs.lemmas.List.{get_or-set_other}
use Rattle.st_table.specs.declared.entry.Entry.{Entry}
use Rattle.st_heap.specs.inside.Heaps.{words_of, blocks_of}
use Rattle.st_heap.specs.inside.Links.{next_in, before_in}
use Rattle.st_heap.specs.inside.Places.{place_in}
use Rattle.st_heap.specs.inside.Stored.{total, one_stored, stored_words, used_of}
use Rattle.st_heap.specs.inside.Stores.{stored_of}
use Rattle.st_heap.proofs.Laying.{entered_owner}
use Rattle.st_heap.proofs.Placed.{places_without}
use Rattle.st_heap.proofs.Standing.{entries_left, words_left, freed}
use Rattle.st_heap.proofs.Storing.{length_entry}
use Rattle.st_heap.proofs.Taking.{tied_given}
use Rattle.st_heap.proofs.Tying.{tied_of, are_tied}
use Rattle.st_heap.proofs.store.BlockStore.free.Goals as goal

pub give-requires : goal.give-requires
give-requires c =
    let s = c.args.self.now in
    let bs = blocks_of s.heap in
    let k = c.args.o.0 / 2 in
    let tied = tied_of s.table bs s.tied in
    let long = length_entry (words_of s.heap) bs s.table k c.entry-at.result c.entry-at.ensures in
    let size = c.requires.size in
    record {
      owned = entered_owner s.table bs k c.entry-at.result tied c.entry-at.ensures;
      there = (tied.placed k c.entry-at.result c.entry-at.ensures).1;
      long = sym long ∙ sym size;
    }

pub overflow_sub-self : goal.overflow_sub-self
overflow_sub-self c = let left = entries_left c.args.self.now (c.args.o.0 / 2) c.entry-at.result.at (ap place_in c.entry-at.ensures) in omega (arith, left)

pub invariant_of-self : goal.invariant_of-self
invariant_of-self c =
    let s = c.args.self.now in
    let k = c.args.o.0 / 2 in
    let e = c.entry-at.result in
    let size = c.requires.size in
    let entries = entries_left s k e.at (ap place_in c.entry-at.ensures) in
    let words = words_left s k e.at (ap place_in c.entry-at.ensures) in
    let left = c.give.ensures.held in
    let was = s.held in
    let one : s.used.entries - 1 ≡ total one_stored (set (stored_of s) k None) = omega (arith, entries) in
    let rest : s.used.words - c.args.n ≡ total stored_words (set (stored_of s) k None) = omega (arith, words, size) in
    record {
      tied = are_tied c.free_entry.new.self (blocks_of c.give.new.self) (rw (c.free_entry.ensures, c.give.ensures.blocks) (tied_given (words_of s.heap) (blocks_of s.heap) s.heap.end s.heap.free s.table c.args.o e s.heap.laid (tied_of s.table (blocks_of s.heap) s.tied) c.entry-at.ensures));
      places = ap (λ (es : List (Option Entry)). length es) c.free_entry.ensures ∙ length-set s.table k None ∙ s.places;
      counted = (λ i. record { entries = one i; words = rest i }) ∙ sym (ap used_of (freed s c.give.new.self c.free_entry.new.self k e.at c.give.ensures.words c.give.ensures.blocks c.free_entry.ensures));
      held = omega (arith, left, was);
    }

pub returns-clause-stored : goal.returns-clause-stored
returns-clause-stored c = freed c.args.self.now c.give.new.self c.free_entry.new.self (c.args.o.0 / 2) c.entry-at.result.at c.give.ensures.words c.give.ensures.blocks c.free_entry.ensures

pub returns-clause-links : goal.returns-clause-links
returns-clause-links c =
    let s = c.args.self.now in
    let k = c.args.o.0 / 2 in
    let now = λ (j : ℕ) (ne : j ≢ k). ap (λ (es : List (Option Entry)). get_or es j None) c.free_entry.ensures ∙ get_or-set_other s.table k j None None ne in
    record { next = λ j ne. ap next_in (now j ne); before = λ j ne. ap before_in (now j ne) }

pub returns-clause-places : goal.returns-clause-places
returns-clause-places c = λ k other. places_without c.args.self.now.table c.free_entry.new.self (c.args.o.0 / 2) k c.free_entry.ensures other
