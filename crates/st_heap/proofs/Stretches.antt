-- Words and bytes that are read and written one behind the other in a block.
use Rattle.std.proofs.Common.{◌≡◌, ℕ, suc, zero, ◌+◌, ◌*◌, ◌/◌, ◌<◌, ◌≤◌, ◌^◌, List, [], ◌∷◌, Option, Some, None, length, take, drop, get_or, set, refl, sym, ap, ◌∙◌, subst, arith, length-set}
use Rattle.std.proofs.lemmas.List.{ext_get_or, length-drop, length-take-le, get_or-take, get_or-drop}
use Rattle.st_cells.specs.inside.Words.{byte_of, with_byte, with_run, with_bytes}
use Rattle.st_table.specs.declared.entry.Entry.{Entry}
use Rattle.st_heap.specs.declared.block.Block.{Block}
use Rattle.st_heap.specs.inside.Blocks.{block_at, HoldsRun, IsLaid, IsTied}
use Rattle.st_heap.proofs.Laying.{entered_owner}
use Rattle.st_heap.specs.inside.Stored.{Stored, stored_at, stored_all, slot, with_cell, with_cells}
use Rattle.st_heap.proofs.Runs.{length-run, get_or-run}
use Rattle.st_heap.proofs.Storing.{word_set, stored_set, slot_entry}

set_again : {A : Type 0} (xs : List A) (k : ℕ) (a b : A) → set (set xs k a) k b ≡ set xs k b
set_again [] k a b = refl
set_again (x ∷ xs) zero a b = refl
set_again (x ∷ xs) (suc k) a b = ap (λ q. x ∷ q) (set_again xs k a b)

set_slot : (all : List (Option Stored)) (k : ℕ) (s : Stored) → slot all k ≡ Some s → set all k (Some s) ≡ all
set_slot [] k s h = refl
set_slot (x ∷ all) zero s h = ap (λ y. y ∷ all) (sym h)
set_slot (x ∷ all) (suc k) s h = ap (λ q. x ∷ q) (set_slot all k s h)

length-taken : (xs : List ℕ) (i n : ℕ) → i + n ≤ length xs → length (take n (drop i xs)) ≡ n
length-taken xs i n l = length-take-le n (drop i xs) (let d = length-drop i xs in omega (arith, d, l))

laid_set : (ws : List ℕ) (bs : List Block) (end free j x : ℕ) → IsLaid ws bs end free → IsLaid (set ws j x) bs end free
laid_set ws bs end free j x laid =
    let same = sym (length-set ws j x) in
    record {
      size = subst (λ n. n < 2 * length bs) same laid.size;
      small = subst (λ n. n < 2 ^ 32) same laid.small;
      last = subst (λ n. end ≤ n) same laid.last;
      owned = laid.owned;
      half = laid.half;
      long = laid.long;
      within = laid.within;
      apart = laid.apart;
      sum = laid.sum ∙ same;
    }

module _ (bs : List Block) (end free : ℕ) (es : List (Option Entry)) (tied : IsTied es bs) (k : ℕ) (e : Entry) (is : get_or es k None ≡ Some e) where
  -- where the words of an entry are
  pub holds_run : (i n : ℕ) → i + n ≤ (block_at bs e.at).len → HoldsRun bs (e.at + i) n
  holds_run i n l =
      let there = (tied.placed k e is).1 in
      (e.at / 2, entered_owner es bs k e tied is, omega (arith, there), omega (arith, there, l))

  pub run_within : (ws : List ℕ) → IsLaid ws bs end free → (i n : ℕ) → i + n ≤ (block_at bs e.at).len → e.at + i + n ≤ length ws
  run_within ws laid i n l =
      let there = (tied.placed k e is).1 in
      let within = laid.within (e.at / 2) (laid.owned (e.at / 2) (entered_owner es bs k e tied is)) in
      let last = laid.last in
      omega (arith, there, l, within, last)

  -- what is read
  pub run_read : (ws : List ℕ) → IsLaid ws bs end free → (i n : ℕ) → i + n ≤ (block_at bs e.at).len → take n (drop (e.at + i) ws) ≡ take n (drop i (stored_at ws bs e).cells)
  run_read ws laid i n l =
      let cells = (stored_at ws bs e).cells in
      let within = run_within ws laid i n l in
      let long : length cells ≡ (block_at bs e.at).len = length-run (λ j. get_or ws (e.at + j) 0) (block_at bs e.at).len in
      let a = length-taken ws (e.at + i) n within in
      let b = length-taken cells i n (omega (arith, l, long)) in
      ext_get_or 0 (take n (drop (e.at + i) ws)) (take n (drop i cells)) (a ∙ sym b) (λ j h.
      let low : j < n = omega (arith, h, a) in
      let step : e.at + i + j ≡ e.at + (i + j) = omega arith in
      get_or-take n (drop (e.at + i) ws) j 0 low ∙ get_or-drop (e.at + i) ws j 0 ∙ ap (λ p. get_or ws p 0) step
      ∙ sym (get_or-take n (drop i cells) j 0 low ∙ get_or-drop i cells j 0 ∙ get_or-run (λ p. get_or ws (e.at + p) 0) (block_at bs e.at).len (i + j) 0 (omega (arith, low, l))))

  pub byte_read : (ws : List ℕ) (i : ℕ) → 2 + i / 2 < (block_at bs e.at).len → byte_of (get_or ws (e.at + 2 + i / 2) 0) i ≡ byte_of (get_or (stored_at ws bs e).cells (2 + i / 2) 0) i
  byte_read ws i l =
      let step : e.at + 2 + i / 2 ≡ e.at + (2 + i / 2) = omega arith in
      ap (λ w. byte_of w i) (ap (λ p. get_or ws p 0) step ∙ sym (get_or-run (λ p. get_or ws (e.at + p) 0) (block_at bs e.at).len (2 + i / 2) 0 l))

  -- what is written
  pub run_stored : (ws : List ℕ) → IsLaid ws bs end free → (i : ℕ) (xs : List ℕ) → i + length xs ≤ (block_at bs e.at).len
      → stored_all (with_run ws (e.at + i) xs) bs es ≡ set (stored_all ws bs es) k (Some (with_cells (stored_at ws bs e) (with_run (stored_at ws bs e).cells i xs)))
  run_stored ws laid i [] l = sym (set_slot (stored_all ws bs es) k (stored_at ws bs e) (slot_entry ws bs es k e is))
  run_stored ws laid i (x ∷ xs) l =
      let below : i < (block_at bs e.at).len = omega (arith, l) in
      let now : List ℕ = set ws (e.at + i) x in
      let step : suc (e.at + i) ≡ e.at + suc i = omega arith in
      let all = word_set ws bs end free es laid tied k e i x is below in
      let one = stored_set ws bs end free es laid tied k e i x is below in
      ap (λ j. stored_all (with_run now j xs) bs es) step
      ∙ run_stored now (laid_set ws bs end free (e.at + i) x laid) (suc i) xs (omega (arith, l))
      ∙ (λ t. set (all t) k (Some (with_cells (one t) (with_run (one t).cells (suc i) xs))))
      ∙ set_again (stored_all ws bs es) k (Some (with_cell (stored_at ws bs e) i x)) (Some (with_cells (stored_at ws bs e) (with_run (stored_at ws bs e).cells i (x ∷ xs))))

  pub bytes_stored : (ws : List ℕ) → IsLaid ws bs end free → (i : ℕ) (xs : List ℕ) → 2 + (i + length xs + 1) / 2 ≤ (block_at bs e.at).len
      → stored_all (with_bytes ws (e.at + 2) i xs) bs es ≡ set (stored_all ws bs es) k (Some (with_cells (stored_at ws bs e) (with_bytes (stored_at ws bs e).cells 2 i xs)))
  bytes_stored ws laid i [] l = sym (set_slot (stored_all ws bs es) k (stored_at ws bs e) (slot_entry ws bs es k e is))
  bytes_stored ws laid i (b ∷ xs) l =
      let at : ℕ = 2 + i / 2 in
      let below : at < (block_at bs e.at).len = omega (arith, l) in
      let step : e.at + 2 + i / 2 ≡ e.at + at = omega arith in
      let old : get_or ws (e.at + 2 + i / 2) 0 ≡ get_or (stored_at ws bs e).cells at 0 =
      ap (λ p. get_or ws p 0) step ∙ sym (get_or-run (λ p. get_or ws (e.at + p) 0) (block_at bs e.at).len at 0 below) in
      let w : ℕ = with_byte (get_or (stored_at ws bs e).cells at 0) i b in
      let now : List ℕ = set ws (e.at + at) w in
      let same : set ws (e.at + 2 + i / 2) (with_byte (get_or ws (e.at + 2 + i / 2) 0) i b) ≡ now = λ t. set ws (step t) (with_byte (old t) i b) in
      let all = word_set ws bs end free es laid tied k e at w is below in
      let one = stored_set ws bs end free es laid tied k e at w is below in
      ap (λ v. stored_all (with_bytes v (e.at + 2) (suc i) xs) bs es) same
      ∙ bytes_stored now (laid_set ws bs end free (e.at + at) w laid) (suc i) xs (omega (arith, l))
      ∙ (λ t. set (all t) k (Some (with_cells (one t) (with_bytes (one t).cells 2 (suc i) xs))))
      ∙ set_again (stored_all ws bs es) k (Some (with_cell (stored_at ws bs e) at w)) (Some (with_cells (stored_at ws bs e) (with_bytes (stored_at ws bs e).cells 2 i (b ∷ xs))))
