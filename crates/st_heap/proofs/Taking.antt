-- A block that is new, over whole heaps.
use Rattle.std.proofs.Common.{◌≡◌, ◌≢◌, ℕ, ◌+◌, ◌-◌, ◌*◌, ◌/◌, ◌%◌, ◌<◌, ◌≤◌, Bool, true, false, List, Option, Some, None, length, get_or, set, replicate, refl, sym, ap, ◌∙◌, subst, arith}
use Rattle.std.specs.Prelude.{◌==◌, nat_lt}
use Rattle.std.proofs.lemmas.List.{get_or-set_same, get_or-set_other, get_or-replicate, length-replicate, get_or_past}
use Rattle.st_model.specs.declared.oop.Oop.{Oop}
use Rattle.st_table.specs.declared.entry.Entry.{Entry}
use Rattle.st_table.specs.inside.Entries.{IsFree}
use Rattle.st_heap.specs.declared.block.Block.{Block}
use Rattle.st_heap.specs.declared.heap.Heap.{Heap}
use Rattle.st_heap.specs.inside.Blocks.{none, block, block_at, with_owner, held, IsLaid, IsTied, KeepsBlocks, entry_at, moved_entry}
use Rattle.st_heap.specs.inside.Heaps.{words_of, blocks_of, Fits, Keeps, Takes}
use Rattle.st_heap.proofs.Laying.{by_set, entered_owner, entry_inside, owned_inside, taken_unowned, taken_owned, held_set, keeps_set, laid_owner, tied_taken}

pub taken_tied : (h h' : Heap) (o : Oop) (at n : ℕ) (es : List (Option Entry)) → Takes h h' o at n → IsTied es (blocks_of h) → IsFree es o → (e : Entry) → e.at ≡ at → IsTied (set es (o.0 / 2) (Some e)) (blocks_of h')
taken_tied h h' o at n es takes tied free e place =
    let first = free.first in
    let P : List Block → Type 0 = λ bs. IsTied (set es (o.0 / 2) (Some e)) bs in
    subst P (sym takes.blocks)
    (tied_taken es (blocks_of h) (at / 2) (record { owner = o; at = at; len = n }) e tied takes.within takes.free free.even (λ z. omega (arith, z, first)) free.last free.absent refl place)

pub taken_keeps : (h h' : Heap) (o : Oop) (at n : ℕ) (es : List (Option Entry)) → Takes h h' o at n → IsTied es (blocks_of h) → Keeps h es h' es
taken_keeps h h' o at n es takes tied =
    let P : List ℕ → Type 0 = λ ws. KeepsBlocks (words_of h) (blocks_of h) es ws (blocks_of h') es in
    let Q : List Block → Type 0 = λ bs. KeepsBlocks (words_of h) (blocks_of h) es (words_of h) bs es in
    subst P (sym takes.words) (subst Q (sym takes.blocks) (keeps_set (words_of h) (blocks_of h) es (at / 2) (record { owner = o; at = at; len = n }) tied takes.free))

pub taken_held : (h h' : Heap) (o : Oop) (at n : ℕ) → Takes h h' o at n → o.0 ≢ 0 → held (blocks_of h') ≡ held (blocks_of h) + n
taken_held h h' o at n takes owner =
    let change = held_set (blocks_of h) (at / 2) (record { owner = o; at = at; len = n }) takes.within in
    let before = taken_unowned (block (blocks_of h) (at / 2)) takes.free in
    let after = taken_owned (record { owner = o; at = at; len = n }) owner in
    ap held takes.blocks ∙ omega (arith, change, before, after)

-- a pointer that is free stays so while blocks move
pub free_kept : (h h' : Heap) (es es' : List (Option Entry)) (o : Oop) → Keeps h es h' es' → IsFree es o → IsFree es' o
free_kept h h' es es' o keeps free =
    let size = keeps.size in
    let last = free.last in
    record {
      even = free.even;
      first = free.first;
      last = omega (arith, size, last);
      absent = keeps.entry (o.0 / 2) ∙ ap (λ x. moved_entry x (entry_at (get_or es' (o.0 / 2) None))) free.absent;
    }

-- a hole of the list that becomes a block
reused : (bs : List Block) (k : ℕ) (o : Oop) (b : Block) (n : ℕ) → b ≡ block bs k → b.len ≡ n → b.at / 2 ≡ k → set bs k (record { owner = o; at = b.at; len = b.len }) ≡ set bs (b.at / 2) (record { owner = o; at = b.at; len = n })
reused bs k o b n is long half = ap (λ (len : ℕ). set bs k (record { owner = o; at = b.at; len = len })) long ∙ ap (λ i. set bs i (record { owner = o; at = b.at; len = n })) (sym half)

module _ (h : Heap) (o : Oop) (k n : ℕ) (b : Block) (within : k < length (blocks_of h)) (is : b ≡ block (blocks_of h) k) (hole : b.owner.0 ≡ 0) (long : b.len ≡ n) (many : 2 ≤ n) where
  same_len : (block (blocks_of h) k).len ≡ n
  same_len = sym (ap (λ (c : Block). c.len) is) ∙ long

  half : b.at / 2 ≡ k
  half = let some : 0 < (block (blocks_of h) k).len = let same = same_len in omega (arith, same, many) in ap (λ (c : Block). c.at / 2) is ∙ h.laid.half k some

  pub hole_free : (block_at (blocks_of h) b.at).owner.0 ≡ 0
  hole_free = ap (λ i. (block (blocks_of h) i).owner.0) half ∙ sym (ap (λ (c : Block). c.owner.0) is) ∙ hole

  pub hole_within : b.at / 2 < length (blocks_of h)
  hole_within = let there = half in omega (arith, there, within)

  pub hole_set : set (blocks_of h) k (record { owner = o; at = b.at; len = b.len }) ≡ set (blocks_of h) (b.at / 2) (record { owner = o; at = b.at; len = n })
  hole_set = reused (blocks_of h) k o b n is long half

  pub hole_laid : o.0 ≢ 0 → Fits h n → IsLaid (words_of h) (set (blocks_of h) k (record { owner = o; at = b.at; len = b.len })) h.end (h.free - n)
  hole_laid owner fits =
      let c = block (blocks_of h) k in
      let same = same_len in
      let before = taken_unowned c (sym (ap (λ (d : Block). d.owner.0) is) ∙ hole) in
      let after = taken_owned (record { owner = o; at = c.at; len = c.len }) owner in
      let sum = h.laid.sum in
      let P : Block → Type 0 = λ d. IsLaid (words_of h) (set (blocks_of h) k (record { owner = o; at = d.at; len = d.len })) h.end (h.free - n) in
      subst P (sym is) (laid_owner (words_of h) (blocks_of h) h.end h.free k o (h.free - n) h.laid within (omega (arith, same, many)) (omega (arith, sum, fits, before, after, same)))

-- without blocks and entries all is tied
pub tied_new : (n m : ℕ) → IsTied (replicate n None) (replicate m none)
tied_new n m = record {
  first = no_entry 0;
  placed = λ k e is. let clash : Some e ≡ None = sym is ∙ no_entry k in cc;
  even = λ k some. absurd (some (ap (λ (b : Block). b.owner.0) (no_block k)));
  entered = λ k some. absurd (some (ap (λ (b : Block). b.owner.0) (no_block k)));
}
  where
    no_entry : (k : ℕ) → get_or (replicate {A = Option Entry} n None) k None ≡ None
    no_entry k = by_test (nat_lt k n) refl
      where
        by_test : (t : Bool) → nat_lt k n ≡ t → get_or (replicate {A = Option Entry} n None) k None ≡ None
        by_test true q = get_or-replicate n k None None (grind (arith, q))
        by_test false q = let size = length-replicate {A = Option Entry} n None in let past : n ≤ k = grind (arith, q) in get_or_past (replicate n None) k None (omega (arith, size, past))

    no_block : (k : ℕ) → block (replicate m none) k ≡ none
    no_block k = by_test (nat_lt k m) refl
      where
        by_test : (t : Bool) → nat_lt k m ≡ t → block (replicate m none) k ≡ none
        by_test true q = get_or-replicate m k none none (grind (arith, q))
        by_test false q = let size = length-replicate m none in let past : m ≤ k = grind (arith, q) in get_or_past (replicate m none) k none (omega (arith, size, past))

-- a pointer that loses its block and its entry leaves the others tied
pub tied_given : (ws : List ℕ) (bs : List Block) (end free : ℕ) (es : List (Option Entry)) (o : Oop) (e : Entry) → IsLaid ws bs end free → IsTied es bs → get_or es (o.0 / 2) None ≡ Some e → IsTied (set es (o.0 / 2) None) (set bs (e.at / 2) (with_owner (record { 0 = 0 }) (block_at bs e.at)))
tied_given ws bs end free es o e laid tied is = record {
  first = first (0 == o.0 / 2) refl;
  placed = λ k f is'. placed k f is' (k == o.0 / 2) refl;
  even = λ j. by_set bs (e.at / 2) (with_owner (record { 0 = 0 }) (block_at bs e.at)) j (λ y. y.owner.0 ≢ 0 → y.owner.0 % 2 ≡ 0) inside (λ z clash. absurd (clash refl)) (λ ne. tied.even j);
  entered = λ j. by_set bs (e.at / 2) (with_owner (record { 0 = 0 }) (block_at bs e.at)) j (λ y. y.owner.0 ≢ 0 → (g : Entry) × (get_or (set es (o.0 / 2) None) (y.owner.0 / 2) None ≡ Some g) × (g.at ≡ y.at)) inside
      (λ z clash. absurd (clash refl))
      (λ ne some. let old = tied.entered j some in (old.0, get_or-set_other es (o.0 / 2) ((block bs j).owner.0 / 2) None None (other_owner j ne some) ∙ old.1, old.2));
}
  where
    inside : e.at / 2 < length bs
    inside = owned_inside ws bs end free (e.at / 2) laid (entered_owner es bs (o.0 / 2) e tied is)

    first : (t : Bool) → (0 == o.0 / 2) ≡ t → get_or (set es (o.0 / 2) None) 0 None ≡ None
    first true q = let z : 0 ≡ o.0 / 2 = grind (arith, q) in ap (λ i. get_or (set es (o.0 / 2) None) i None) z ∙ get_or-set_same es (o.0 / 2) None None (entry_inside es (o.0 / 2) e is)
    first false q = let ne : 0 ≢ o.0 / 2 = λ z. grind (arith, q, z) in get_or-set_other es (o.0 / 2) 0 None None ne ∙ tied.first

    placed : (k : ℕ) (f : Entry) → get_or (set es (o.0 / 2) None) k None ≡ Some f → (t : Bool) → (k == o.0 / 2) ≡ t → ((block_at (set bs (e.at / 2) (with_owner (record { 0 = 0 }) (block_at bs e.at))) f.at).owner.0 ≡ 2 * k) × ((block_at (set bs (e.at / 2) (with_owner (record { 0 = 0 }) (block_at bs e.at))) f.at).at ≡ f.at)
    placed k f is' true q =
        let z : k ≡ o.0 / 2 = grind (arith, q) in
        let clash : Some f ≡ None = sym is' ∙ ap (λ i. get_or (set es (o.0 / 2) None) i None) z ∙ get_or-set_same es (o.0 / 2) None None (entry_inside es (o.0 / 2) e is) in cc
    placed k f is' false q =
        let ne : k ≢ o.0 / 2 = λ z. grind (arith, q, z) in
        let it : get_or es k None ≡ Some f = sym (get_or-set_other es (o.0 / 2) k None None ne) ∙ is' in
        let old = tied.placed k f it in
        let mine = old.0 in
        let gone = (tied.placed (o.0 / 2) e is).0 in
        let other : f.at / 2 ≢ e.at / 2 = λ z. let same : (block_at bs f.at).owner.0 ≡ (block_at bs e.at).owner.0 = ap (λ i. (block bs i).owner.0) z in ne (omega (arith, mine, gone, same)) in
        let stands = get_or-set_other bs (e.at / 2) (f.at / 2) (with_owner (record { 0 = 0 }) (block_at bs e.at)) none other in
        (ap (λ (b : Block). b.owner.0) stands ∙ old.0, ap (λ (b : Block). b.at) stands ∙ old.1)

    other_owner : (j : ℕ) → j ≢ e.at / 2 → (block bs j).owner.0 ≢ 0 → (block bs j).owner.0 / 2 ≢ o.0 / 2
    other_owner j ne some z =
        let old = tied.entered j some in
        let place : old.0.at ≡ e.at = ap entry_at (sym old.1 ∙ ap (λ i. get_or es i None) z ∙ is) in
        let mine = laid.half j (laid.owned j some) in
        let there = old.2 in ne (omega (arith, mine, there, place))
