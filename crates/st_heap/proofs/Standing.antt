-- A block of a store that stands at a place: where its words are in the heap, what is read of them, and what a write leaves.
use Rattle.std.proofs.Common.{◌≡◌, ℕ, ◌+◌, ◌/◌, ◌<◌, ◌≤◌, ◌^◌, List, Option, Some, None, length, take, drop, get_or, set, refl, sym, ap, ◌∙◌, subst, arith, length-set}
use Rattle.st_cells.specs.inside.Words.{byte_of, with_run, with_bytes}
use Rattle.st_cells.proofs.Written.{length-with_run, length-with_bytes}
use Rattle.st_model.specs.declared.demand.Demand.{Demand}
use Rattle.st_table.specs.declared.entry.Entry.{Entry}
use Rattle.st_heap.specs.declared.block.Block.{Block}
use Rattle.st_heap.specs.declared.heap.Heap.{Heap}
use Rattle.st_heap.specs.declared.store.BlockStore.{BlockStore}
use Rattle.st_heap.specs.inside.Blocks.{block_at, given_back, with_owner, held, HoldsPlace, HoldsRun, IsTied}
use Rattle.st_heap.specs.inside.Heaps.{words_of, blocks_of}
use Rattle.st_heap.specs.inside.Places.{place_at}
use Rattle.st_heap.specs.inside.Stored.{Stored, stored_at, stored_all, stored, slot, with_cell, with_cells, used_of, total, one_stored, stored_words, AreTied}
use Rattle.st_heap.specs.inside.Stores.{stored_of}
use Rattle.st_heap.proofs.Placed.{Entered, entered}
use Rattle.st_heap.proofs.Runs.{get_or-run}
use Rattle.st_heap.proofs.Storing.{entry_below, within_words, holds_entry, stored_entry, slot_entry, length_entry, word_set, words_set, lengths_all, set_all, same_all}
use Rattle.st_heap.proofs.Stretches.{holds_run, run_within, run_read, byte_read, run_stored, bytes_stored}
use Rattle.st_heap.proofs.Swapping.{owner_set}
use Rattle.st_heap.proofs.Totals.{used_kept, total_gone, slot_inside}
use Rattle.st_heap.proofs.Tying.{tied_of}

-- what a store says of itself, of a heap with other words and the same blocks
pub record Stays (s : BlockStore) (h : Heap) : Type 0 where
  pub tied : AreTied s.table (blocks_of h)
  pub counted : s.used ≡ used_of (stored_all (words_of h) (blocks_of h) s.table)
  pub held : held (blocks_of h) ≡ s.used.words

module _ (s : BlockStore) (k at : ℕ) (stands : place_at s k ≡ Some at) where
  abbrev ws : List ℕ
  ws = words_of s.heap

  abbrev bs : List Block
  bs = blocks_of s.heap

  abbrev here : Stored
  here = stored (stored_of s) k

  x : Entered (get_or s.table k None) at
  x = entered (get_or s.table k None) at stands

  tied : IsTied s.table bs
  tied = tied_of s.table bs s.tied

  same_here : stored_at ws bs x.entry ≡ here
  same_here = sym (stored_entry ws bs s.table k x.entry x.is)

  slot_here : slot (stored_of s) k ≡ Some here
  slot_here = slot_entry ws bs s.table k x.entry x.is ∙ ap Some same_here

  -- one word

  word_below : (i : ℕ) → i < length here.cells → i < (block_at bs x.entry.at).len
  word_below i range = entry_below ws bs s.table k x.entry i x.is range

  pub word_held : (i : ℕ) → i < length here.cells → HoldsPlace bs (at + i)
  word_held i range = subst (λ a. HoldsPlace bs (a + i)) x.same (holds_entry ws bs s.heap.end s.heap.free s.table s.heap.laid tied k x.entry i x.is (word_below i range))

  pub word_small : (i : ℕ) → i < length here.cells → at + i < 2 ^ 32
  word_small i range =
      let within = within_words ws bs s.heap.end s.heap.free s.table s.heap.laid tied k x.entry i x.is (word_below i range) in
      let small = s.heap.laid.small in
      let same = x.same in
      omega (arith, within, small, same)

  pub word_read : (i : ℕ) → i < length here.cells → get_or ws (at + i) 0 ≡ get_or here.cells i 0
  word_read i range = ap (λ a. get_or ws (a + i) 0) (sym x.same) ∙ sym (ap (λ (t : Stored). get_or t.cells i 0) (sym same_here) ∙ get_or-run _ _ i 0 (word_below i range))

  pub word_written : (h : Heap) (i w : ℕ) → i < length here.cells → words_of h ≡ set ws (at + i) w → blocks_of h ≡ bs → stored_all (words_of h) (blocks_of h) s.table ≡ set (stored_of s) k (Some (with_cell here i w))
  word_written h i w range words blocks =
      words_set s.heap h s.table x.entry i w (words ∙ ap (λ a. set ws (a + i) w) (sym x.same)) blocks
      ∙ word_set ws bs s.heap.end s.heap.free s.table s.heap.laid tied k x.entry i w x.is (word_below i range)
      ∙ ap (λ (t : Stored). set (stored_of s) k (Some (with_cell t i w))) same_here

  -- a range of words, in which bytes are two to a word

  range_below : (i n : ℕ) → i + n ≤ length here.cells → i + n ≤ (block_at bs x.entry.at).len
  range_below i n range = let long = length_entry ws bs s.table k x.entry x.is in omega (arith, range, long)

  pub range_held : (i n : ℕ) → i + n ≤ length here.cells → HoldsRun bs (at + i) n
  range_held i n range = subst (λ a. HoldsRun bs (a + i) n) x.same (holds_run bs s.heap.end s.heap.free s.table tied k x.entry x.is i n (range_below i n range))

  pub range_small : (i n : ℕ) → i + n ≤ length here.cells → at + i + n < 2 ^ 32
  range_small i n range =
      let within = run_within bs s.heap.end s.heap.free s.table tied k x.entry x.is ws s.heap.laid i n (range_below i n range) in
      let small = s.heap.laid.small in
      let same = x.same in
      omega (arith, within, small, same)

  pub range_read : (i n : ℕ) → i + n ≤ length here.cells → take n (drop (at + i) ws) ≡ take n (drop i here.cells)
  range_read i n range =
      ap (λ a. take n (drop (a + i) ws)) (sym x.same)
      ∙ run_read bs s.heap.end s.heap.free s.table tied k x.entry x.is ws s.heap.laid i n (range_below i n range)
      ∙ ap (λ (t : Stored). take n (drop i t.cells)) same_here

  pub range_written : (h : Heap) (i : ℕ) (xs : List ℕ) → i + length xs ≤ length here.cells → words_of h ≡ with_run ws (at + i) xs → blocks_of h ≡ bs → stored_all (words_of h) (blocks_of h) s.table ≡ set (stored_of s) k (Some (with_cells here (with_run here.cells i xs)))
  range_written h i xs range words blocks =
      (λ j. stored_all ((words ∙ ap (λ a. with_run ws (a + i) xs) (sym x.same)) j) (blocks j) s.table)
      ∙ run_stored bs s.heap.end s.heap.free s.table tied k x.entry x.is ws s.heap.laid i xs (range_below i (length xs) range)
      ∙ ap (λ (t : Stored). set (stored_of s) k (Some (with_cells t (with_run t.cells i xs)))) same_here

  pub byte_in : (i : ℕ) → 2 + i / 2 < length here.cells → byte_of (get_or ws (at + 2 + i / 2) 0) i ≡ byte_of (get_or here.cells (2 + i / 2) 0) i
  byte_in i range =
      ap (λ a. byte_of (get_or ws (a + 2 + i / 2) 0) i) (sym x.same)
      ∙ byte_read bs s.heap.end s.heap.free s.table tied k x.entry x.is ws i (word_below (2 + i / 2) range)
      ∙ ap (λ (t : Stored). byte_of (get_or t.cells (2 + i / 2) 0) i) same_here

  pub bytes_written : (h : Heap) (i : ℕ) (xs : List ℕ) → 2 + (i + length xs + 1) / 2 ≤ length here.cells → words_of h ≡ with_bytes ws (at + 2) i xs → blocks_of h ≡ bs → stored_all (words_of h) (blocks_of h) s.table ≡ set (stored_of s) k (Some (with_cells here (with_bytes here.cells 2 i xs)))
  bytes_written h i xs range words blocks =
      (λ j. stored_all ((words ∙ ap (λ a. with_bytes ws (a + 2) i xs) (sym x.same)) j) (blocks j) s.table)
      ∙ bytes_stored bs s.heap.end s.heap.free s.table tied k x.entry x.is ws s.heap.laid i xs (range_below 2 ((i + length xs + 1) / 2) range)
      ∙ ap (λ (t : Stored). set (stored_of s) k (Some (with_cells t (with_bytes t.cells 2 i xs)))) same_here

  -- a write that leaves as many words leaves the store as it says of itself
  stays : (h : Heap) (cells : List ℕ) → blocks_of h ≡ bs → stored_all (words_of h) (blocks_of h) s.table ≡ set (stored_of s) k (Some (with_cells here cells)) → length cells ≡ length here.cells → Stays s h
  stays h cells blocks now same = record {
    tied = subst (λ (b : List Block). AreTied s.table b) (sym blocks) s.tied;
    counted = s.counted ∙ sym (ap used_of now ∙ used_kept (stored_of s) k here (with_cells here cells) slot_here same);
    held = ap held blocks ∙ s.held;
  }

  pub word_stays : (h : Heap) (i w : ℕ) → i < length here.cells → words_of h ≡ set ws (at + i) w → blocks_of h ≡ bs → Stays s h
  word_stays h i w range words blocks = stays h (set here.cells i w) blocks (word_written h i w range words blocks) (length-set here.cells i w)

  pub range_stays : (h : Heap) (i : ℕ) (xs : List ℕ) → i + length xs ≤ length here.cells → words_of h ≡ with_run ws (at + i) xs → blocks_of h ≡ bs → Stays s h
  range_stays h i xs range words blocks = stays h (with_run here.cells i xs) blocks (range_written h i xs range words blocks) (length-with_run here.cells i xs)

  pub bytes_stay : (h : Heap) (i : ℕ) (xs : List ℕ) → 2 + (i + length xs + 1) / 2 ≤ length here.cells → words_of h ≡ with_bytes ws (at + 2) i xs → blocks_of h ≡ bs → Stays s h
  bytes_stay h i xs range words blocks = stays h (with_bytes here.cells 2 i xs) blocks (bytes_written h i xs range words blocks) (length-with_bytes here.cells 2 i xs)

  -- what is left without it

  gone : (weight : Stored → ℕ) → total weight (set (stored_of s) k None) + weight here ≡ total weight (stored_of s)
  gone weight = total_gone weight (stored_of s) k here (slot_inside (stored_of s) k here slot_here) slot_here

  pub entries_left : total one_stored (set (stored_of s) k None) + 1 ≡ s.used.entries
  entries_left = gone one_stored ∙ sym (ap (λ (d : Demand). d.entries) s.counted)

  pub words_left : total stored_words (set (stored_of s) k None) + length here.cells ≡ s.used.words
  words_left = gone stored_words ∙ sym (ap (λ (d : Demand). d.words) s.counted)

-- what is stored once a block was given back and its entry is none
pub freed : (s : BlockStore) (h : Heap) (es : List (Option Entry)) (k at : ℕ) → words_of h ≡ words_of s.heap → blocks_of h ≡ given_back (blocks_of s.heap) at → es ≡ set s.table k None → stored_all (words_of h) (blocks_of h) es ≡ set (stored_of s) k None
freed s h es k at words blocks entries =
    let bs = blocks_of s.heap in
    same_all (words_of s.heap) (words_of h) (given_back bs at) (blocks_of h) (set s.table k None) es words blocks entries
    ∙ lengths_all (words_of s.heap) bs (given_back bs at) (set s.table k None) (λ j. owner_set bs (at / 2) (with_owner (record { 0 = 0 }) (block_at bs at)) j refl)
    ∙ set_all (words_of s.heap) bs s.table k None
