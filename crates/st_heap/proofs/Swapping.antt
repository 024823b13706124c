-- Two places exchange what is stored at them.
use Rattle.std.proofs.Common.{◌≡◌, ◌≢◌, ℕ, ◌/◌, ◌<◌, zero, suc, Bool, true, false, List, [], ◌∷◌, length, Option, Some, None, get_or, set, refl, sym, ap, ◌∙◌, subst, arith, length-set}
use Rattle.std.specs.Prelude.{◌==◌}
use Rattle.std.proofs.lemmas.List.{set-set, set_comm, get_or-set_same, get_or-set_other}
use Rattle.st_model.specs.declared.oop.Oop.{Oop}
use Rattle.st_table.specs.declared.entry.Entry.{Entry}
use Rattle.st_heap.specs.declared.block.Block.{Block}
use Rattle.st_heap.specs.declared.heap.Heap.{Heap}
use Rattle.st_heap.specs.declared.store.BlockStore.{BlockStore}
use Rattle.st_heap.specs.inside.Heaps.{words_of, blocks_of}
use Rattle.st_heap.specs.inside.Stores.{stored_of}
use Rattle.st_heap.specs.inside.Blocks.{block, block_at, entry_at, moved_entry, with_owner, exchanged_entries, exchanged_blocks}
use Rattle.st_heap.proofs.Laying.{entry_inside}
use Rattle.st_heap.specs.inside.Stored.{stored_at, stored_all, exchanged_stored}
use Rattle.st_heap.proofs.Storing.{slot_entry, lengths_all, set_all, same_all}

-- two places that are set twice
pub set_twice : {A : Type 0} (l : List A) (a b : ℕ) (p q x y : A) → set (set (set (set l a p) b q) a x) b y ≡ set (set l a x) b y
set_twice l a b p q x y = by_case (a == b) refl
  where
    by_case : (t : Bool) → (a == b) ≡ t → set (set (set (set l a p) b q) a x) b y ≡ set (set l a x) b y
    by_case true m =
        let z : a ≡ b = grind (arith, m) in
        let P : ℕ → Type 0 = λ i. set (set (set (set l a p) i q) a x) i y ≡ set (set l a x) i y in
        subst P z (set-set (set (set l a p) a q) a x y ∙ set-set (set l a p) a q y ∙ set-set l a p y ∙ sym (set-set l a x y))
    by_case false m =
        let ne : b ≢ a = λ z. grind (arith, m, z) in
        ap (λ xs. set xs b y) (set_comm (set l a p) b a q x ne ∙ ap (λ xs. set xs b q) (set-set l a p x)) ∙ set-set (set l a x) b q y

-- another block of the same length
pub owner_set : (cs : List Block) (k : ℕ) (x : Block) (i : ℕ) → x.len ≡ (block cs k).len → (block (set cs k x) i).len ≡ (block cs i).len
owner_set [] k x i same = refl
owner_set (c ∷ cs) zero x zero same = same
owner_set (c ∷ cs) zero x (suc i) same = refl
owner_set (c ∷ cs) (suc k) x zero same = refl
owner_set (c ∷ cs) (suc k) x (suc i) same = owner_set cs k x i same

-- the lengths of the blocks at each place stand
pub same_lengths : (bs : List Block) (es : List (Option Entry)) (a b : Oop) (j : ℕ) → (block (exchanged_blocks bs es a b) j).len ≡ (block bs j).len
same_lengths bs es a b j =
    owner_set (set bs (at_a / 2) (with_owner b (block_at bs at_a))) (at_b / 2) (with_owner a (block_at bs at_b)) j (sym (owner_set bs (at_a / 2) (with_owner b (block_at bs at_a)) (at_b / 2) refl))
    ∙ owner_set bs (at_a / 2) (with_owner b (block_at bs at_a)) j refl
  where
    at_a : ℕ
    at_a = entry_at (get_or es (a.0 / 2) None)

    at_b : ℕ
    at_b = entry_at (get_or es (b.0 / 2) None)

-- where two entries have exchanged their places
module _ (es : List (Option Entry)) (a b : Oop) (e f : Entry) (is_e : get_or es (a.0 / 2) None ≡ Some e) (is_f : get_or es (b.0 / 2) None ≡ Some f) where
  at_e : entry_at (get_or es (a.0 / 2) None) ≡ e.at
  at_e = ap entry_at is_e

  at_f : entry_at (get_or es (b.0 / 2) None) ≡ f.at
  at_f = ap entry_at is_f

  place_after : (x : Option Entry) (g : Entry) (at : ℕ) → x ≡ Some g → (h : Entry) × (moved_entry x at ≡ Some h) × (h.at ≡ at)
  place_after None g at is = cc
  place_after (Some h) g at is = (record { at = at; kind = h.kind; odd = h.odd; next = h.next; before = h.before }, refl, refl)

  inside_a : a.0 / 2 < length es
  inside_a = entry_inside es (a.0 / 2) e is_e

  inside_b : b.0 / 2 < length es
  inside_b = entry_inside es (b.0 / 2) f is_f

  abbrev first_moved : Option Entry
  first_moved = moved_entry (get_or es (a.0 / 2) None) (entry_at (get_or es (b.0 / 2) None))

  abbrev second_moved : Option Entry
  second_moved = moved_entry (get_or es (b.0 / 2) None) (entry_at (get_or es (a.0 / 2) None))

  second_there : get_or (exchanged_entries es a b) (b.0 / 2) None ≡ second_moved
  second_there = let long = length-set es (a.0 / 2) first_moved in get_or-set_same (set es (a.0 / 2) first_moved) (b.0 / 2) second_moved None (omega (arith, inside_b, long))

  -- the first entry has the second's place
  pub exchanged_first : (h : Entry) × (get_or (exchanged_entries es a b) (a.0 / 2) None ≡ Some h) × (h.at ≡ f.at)
  exchanged_first = by_case (a.0 / 2 == b.0 / 2) refl
    where
      by_case : (t : Bool) → (a.0 / 2 == b.0 / 2) ≡ t → (h : Entry) × (get_or (exchanged_entries es a b) (a.0 / 2) None ≡ Some h) × (h.at ≡ f.at)
      by_case true m =
          let z : a.0 / 2 ≡ b.0 / 2 = grind (arith, m) in
          let r = place_after (get_or es (b.0 / 2) None) f (entry_at (get_or es (a.0 / 2) None)) is_f in
          (r.0, ap (λ i. get_or (exchanged_entries es a b) i None) z ∙ second_there ∙ r.1, r.2 ∙ ap (λ i. entry_at (get_or es i None)) z ∙ at_f)
      by_case false m =
          let ne : a.0 / 2 ≢ b.0 / 2 = λ z. grind (arith, m, z) in
          let r = place_after (get_or es (a.0 / 2) None) e (entry_at (get_or es (b.0 / 2) None)) is_e in
          (r.0, get_or-set_other (set es (a.0 / 2) first_moved) (b.0 / 2) (a.0 / 2) second_moved None ne ∙ get_or-set_same es (a.0 / 2) first_moved None inside_a ∙ r.1, r.2 ∙ at_f)

  -- and the second the first's, also once the first is written anew with its place
  pub exchanged_second : (x : Entry) → x.at ≡ f.at → (h : Entry) × (get_or (set (exchanged_entries es a b) (a.0 / 2) (Some x)) (b.0 / 2) None ≡ Some h) × (h.at ≡ e.at)
  exchanged_second x at = by_case (a.0 / 2 == b.0 / 2) refl
    where
      long : length (exchanged_entries es a b) ≡ length es
      long = length-set (set es (a.0 / 2) first_moved) (b.0 / 2) second_moved ∙ length-set es (a.0 / 2) first_moved

      by_case : (t : Bool) → (a.0 / 2 == b.0 / 2) ≡ t → (h : Entry) × (get_or (set (exchanged_entries es a b) (a.0 / 2) (Some x)) (b.0 / 2) None ≡ Some h) × (h.at ≡ e.at)
      by_case true m =
          let z : a.0 / 2 ≡ b.0 / 2 = grind (arith, m) in (
            x,
            ap (λ i. get_or (set (exchanged_entries es a b) (a.0 / 2) (Some x)) i None) (sym z) ∙ get_or-set_same (exchanged_entries es a b) (a.0 / 2) (Some x) None (omega (arith, inside_a, long)),
            at ∙ sym at_f ∙ ap (λ i. entry_at (get_or es i None)) (sym z) ∙ at_e,
          )
      by_case false m =
          let ne : b.0 / 2 ≢ a.0 / 2 = λ z. grind (arith, m, z) in
          let r = place_after (get_or es (b.0 / 2) None) f (entry_at (get_or es (a.0 / 2) None)) is_f in
          (r.0, get_or-set_other (exchanged_entries es a b) (a.0 / 2) (b.0 / 2) (Some x) None ne ∙ second_there ∙ r.1, r.2 ∙ at_e)

-- once both entries also have each other's kind and mark, what is stored at them is exchanged
pub exchanged_all : (ws : List ℕ) (bs : List Block) (es : List (Option Entry)) (a b : Oop) (e f x y : Entry) → get_or es (a.0 / 2) None ≡ Some e → get_or es (b.0 / 2) None ≡ Some f
    → stored_at ws bs x ≡ stored_at ws bs f → stored_at ws bs y ≡ stored_at ws bs e
    → stored_all ws (exchanged_blocks bs es a b) (set (set (exchanged_entries es a b) (a.0 / 2) (Some x)) (b.0 / 2) (Some y)) ≡ exchanged_stored (stored_all ws bs es) (a.0 / 2) (b.0 / 2)
exchanged_all ws bs es a b e f x y is_e is_f first second =
    lengths_all ws bs (exchanged_blocks bs es a b) (set (set (exchanged_entries es a b) (a.0 / 2) (Some x)) (b.0 / 2) (Some y)) (same_lengths bs es a b)
    ∙ ap (stored_all ws bs) (set_twice es (a.0 / 2) (b.0 / 2) _ _ (Some x) (Some y))
    ∙ set_all ws bs (set es (a.0 / 2) (Some x)) (b.0 / 2) (Some y)
    ∙ ap (λ l. set l (b.0 / 2) (Some (stored_at ws bs y))) (set_all ws bs es (a.0 / 2) (Some x))
    ∙ (λ i. set (set (stored_all ws bs es) (a.0 / 2) (Some (first i))) (b.0 / 2) (Some (second i)))
    ∙ (λ i. set (set (stored_all ws bs es) (a.0 / 2) (sym (slot_entry ws bs es (b.0 / 2) f is_f) i)) (b.0 / 2) (sym (slot_entry ws bs es (a.0 / 2) e is_e) i))

-- an entry with the links of the first and the block of the second
abbrev pub crossed : Entry → Entry → Entry
crossed e f = record { at = f.at; kind = f.kind; odd = f.odd; next = e.next; before = e.before }

-- a store whose heap has exchanged two blocks, once the entries have their own links again
module _ (s : BlockStore) (a b : Oop) (e f : Entry) (first second third : List (Option Entry)) (exchanged : first ≡ exchanged_entries s.table a b) (once : second ≡ set first (a.0 / 2) (Some (crossed e f))) (twice : third ≡ set second (b.0 / 2) (Some (crossed f e))) where
  pub entries_crossed : third ≡ set (set (exchanged_entries s.table a b) (a.0 / 2) (Some (crossed e f))) (b.0 / 2) (Some (crossed f e))
  entries_crossed = twice ∙ ap (λ es. set es (b.0 / 2) (Some (crossed f e))) (once ∙ ap (λ es. set es (a.0 / 2) (Some (crossed e f))) exchanged)

  pub stored_crossed : (h : Heap) → get_or s.table (a.0 / 2) None ≡ Some e → get_or s.table (b.0 / 2) None ≡ Some f → words_of h ≡ words_of s.heap → blocks_of h ≡ exchanged_blocks (blocks_of s.heap) s.table a b
      → stored_all (words_of h) (blocks_of h) third ≡ exchanged_stored (stored_of s) (a.0 / 2) (b.0 / 2)
  stored_crossed h is_e is_f words blocks =
      same_all (words_of s.heap) (words_of h) (exchanged_blocks (blocks_of s.heap) s.table a b) (blocks_of h) (set (set (exchanged_entries s.table a b) (a.0 / 2) (Some (crossed e f))) (b.0 / 2) (Some (crossed f e))) third words blocks entries_crossed
      ∙ exchanged_all (words_of s.heap) (blocks_of s.heap) s.table a b e f (crossed e f) (crossed f e) is_e is_f refl refl
