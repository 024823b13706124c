-- A block that moves down to where the blocks before it end.
use Rattle.std.proofs.Common.{◌≡◌, ◌≢◌, ℕ, ◌+◌, ◌-◌, ◌*◌, ◌/◌, ◌%◌, ◌<◌, ◌≤◌, Bool, true, false, List, zero, suc, Option, Some, None, length, get_or, set, drop, refl, sym, ap, ◌∙◌, subst, arith, length-set}
use Rattle.std.specs.Prelude.{◌==◌, nat_lt}
use Rattle.std.proofs.lemmas.List.{get_or-set_same, get_or-set_other, drop-set-lt}
use Rattle.st_table.specs.declared.entry.Entry.{Entry}
use Rattle.st_cells.specs.inside.Words.{slid}
use Rattle.st_heap.specs.declared.block.Block.{Block}
use Rattle.st_heap.specs.declared.heap.Heap.{Heap}
use Rattle.st_heap.specs.inside.Heaps.{words_of, blocks_of}
use Rattle.st_heap.specs.inside.Blocks.{none, block, block_at, with_place, moved, taken, held, IsLaid, IsTied, IsClosedBelow, IsAbove, KeepsBlocks, entry_at, moved_entry}
use Rattle.st_heap.proofs.Laying.{by_set, taken_unowned, taken_owned, held_set, FitsAt, laid_set, none_fits, entered_owner, entry_inside, same_entry}

-- between where the blocks before it end and the block that moves there is nothing
pub empty_between : (ws : List ℕ) (bs : List Block) (end free k to j : ℕ) → IsLaid ws bs end free → IsClosedBelow bs k to → j < k → to / 2 ≤ j → (block bs j).len ≡ 0
empty_between ws bs end free k to j laid closed lower from = by_len (block bs j).len refl
  where
    by_len : (n : ℕ) → n ≡ (block bs j).len → (block bs j).len ≡ 0
    by_len zero e = sym e
    by_len (suc n) e =
        let some : 0 < (block bs j).len = omega (arith, e) in
        let half = laid.half j some in
        let long = laid.long j some in
        let under = closed j lower some in absurd (omega (arith, half, long, under, from))

pub unowned_of_empty : (ws : List ℕ) (bs : List Block) (end free j : ℕ) → IsLaid ws bs end free → (block bs j).len ≡ 0 → (block bs j).owner.0 ≡ 0
unowned_of_empty ws bs end free j laid empty = by_owner (block bs j).owner.0 refl
  where
    by_owner : (n : ℕ) → n ≡ (block bs j).owner.0 → (block bs j).owner.0 ≡ 0
    by_owner zero e = sym e
    by_owner (suc n) e = let some = laid.owned j (λ z. omega (arith, e, z)) in absurd (omega (arith, some, empty))

-- a list in which the block is gone
pub laid_gone : (ws : List ℕ) (bs : List Block) (end free k : ℕ) → IsLaid ws bs end free → k < length bs → IsLaid ws (set bs k none) end (free + taken (block bs k))
laid_gone ws bs end free k laid within =
    let sum = laid.sum in
    let change = held_set bs k none within in
    laid_set ws bs end free k none end (free + taken (block bs k)) laid within (omega arith) laid.last (none_fits bs end k) (omega (arith, sum, change))

module _ (ws : List ℕ) (bs : List Block) (end free k to : ℕ) (laid : IsLaid ws bs end free) (within : k < length bs) (owned : (block bs k).owner.0 ≢ 0) (down : to ≤ (block bs k).at) (closed : IsClosedBelow bs k to) where
  abbrev b : Block
  b = block bs k

  half : b.at / 2 ≡ k
  half = laid.half k (laid.owned k owned)

  long : 2 ≤ b.len
  long = laid.long k (laid.owned k owned)

  lower : to / 2 ≤ k
  lower = omega (arith, half, down)

  inside : to / 2 < length bs
  inside = omega (arith, lower, within)

  -- without the block nothing stands at its new half
  gone_there : (block (set bs k none) (to / 2)).len ≡ 0
  gone_there = by_set bs k none (to / 2) (λ y. y.len ≡ 0) within (λ at. refl) (λ ne. empty_between ws bs end free k to (to / 2) laid closed (omega (arith, ne, lower)) (omega arith))

  moved_fits : FitsAt (set bs k none) end (to / 2) (with_place to b)
  moved_fits = record {
    owned = λ other. laid.owned k other;
    half = λ some. refl;
    long = λ some. long;
    within = λ some. let old = laid.within k some in omega (arith, old, down);
    before = λ j under. by_set bs k none j (λ y. 0 < y.len → 0 < b.len → y.at + y.len ≤ to) within (λ at some. absurd (omega (arith, some))) (λ ne some here. closed j (omega (arith, under, lower)) some);
    after = λ j over. by_set bs k none j (λ y. 0 < y.len → 0 < b.len → to + b.len ≤ y.at) within (λ at some. absurd (omega (arith, some)))
        (λ ne some here. after j over ne some here (nat_lt j k) refl);
  }
    where
      after : (j : ℕ) → to / 2 < j → j ≢ k → 0 < (block bs j).len → 0 < b.len → (t : Bool) → nat_lt j k ≡ t → to + b.len ≤ (block bs j).at
      after j over ne some here true q =
          let under : j < k = grind (arith, q) in
          let empty = empty_between ws bs end free k to j laid closed under (omega (arith, over)) in absurd (omega (arith, some, empty))
      after j over ne some here false q =
          let above : k ≤ j = grind (arith, q) in
          let apart = laid.apart k j (omega (arith, above, ne)) here some in omega (arith, apart, down)

  pub moved_held : held (moved bs k to) ≡ held bs
  moved_held =
      let gone = laid_gone ws bs end free k laid within in
      let size = length-set bs k none in
      let first = held_set bs k none within in
      let second = held_set (set bs k none) (to / 2) (with_place to b) (omega (arith, size, inside)) in
      let empty = taken_unowned (block (set bs k none) (to / 2)) (unowned_of_empty ws (set bs k none) end (free + taken b) (to / 2) gone gone_there) in
      let mine = taken_owned b owned in
      let mine' = taken_owned (with_place to b) owned in
      omega (arith, first, second, empty, mine, mine')

  pub laid_moved : IsLaid ws (moved bs k to) end free
  laid_moved =
      let gone = laid_gone ws bs end free k laid within in
      let size = length-set bs k none in
      let sum = laid.sum in
      let same = moved_held in
      laid_set ws (set bs k none) end (free + taken b) (to / 2) (with_place to b) end free gone (omega (arith, size, inside)) (omega arith) laid.last moved_fits (omega (arith, sum, same))

  -- what holds of the block at its new place, of nothing, and of all others, holds of each
  pub by_moved : (j : ℕ) (P : Block → Type 0) → (j ≡ to / 2 → P (with_place to b)) → (j ≢ to / 2 → j ≡ k → P none) → (j ≢ to / 2 → j ≢ k → P (block bs j)) → P (block (moved bs k to) j)
  by_moved j P here gone there =
      let size = length-set bs k none in
      by_set (set bs k none) (to / 2) (with_place to b) j P (omega (arith, size, inside)) here (λ ne. by_set bs k none j P within (gone ne) (there ne))

  pub closed_moved : IsClosedBelow (moved bs k to) (k + 1) (to + b.len)
  closed_moved j = by_moved j (λ y. j < k + 1 → 0 < y.len → y.at + y.len ≤ to + b.len)
      (λ at under some. omega arith)
      (λ ne at under some. absurd (omega (arith, some)))
      (λ ne ne' under some. let old = closed j (omega (arith, under, ne')) some in omega (arith, old))

  pub above_moved : IsAbove (moved bs k to) (k + 1) (to + b.len)
  above_moved j = by_moved j (λ y. k + 1 ≤ j → 0 < y.len → to + b.len ≤ y.at)
      (λ at over some. absurd (omega (arith, at, over, lower)))
      (λ ne at over some. absurd (omega (arith, some)))
      (λ ne ne' over some. let apart = laid.apart k j (omega (arith, over)) (laid.owned k owned) some in omega (arith, apart, down))

  pub drop_moved : drop (k + 1) (moved bs k to) ≡ drop (k + 1) bs
  drop_moved = drop-set-lt (k + 1) (set bs k none) (to / 2) (with_place to b) (omega (arith, lower)) ∙ drop-set-lt (k + 1) bs k none (omega arith)

  module _ (es : List (Option Entry)) (tied : IsTied es bs) (e : Entry) (is : get_or es (b.owner.0 / 2) None ≡ Some e) where
    -- the entry has the block's place
    at : e.at ≡ b.at
    at = let it = tied.entered k owned in ap entry_at (sym is ∙ it.1) ∙ it.2

    even : b.owner.0 ≡ 2 * (b.owner.0 / 2)
    even = let two = tied.even k owned in omega (arith, two)

    abbrev there : Entry
    there = record { at = to; kind = e.kind; odd = e.odd; next = e.next; before = e.before }

    abbrev moved_entries : List (Option Entry)
    moved_entries = set es (b.owner.0 / 2) (Some there)

    at_owner : get_or moved_entries (b.owner.0 / 2) None ≡ Some there
    at_owner = get_or-set_same es (b.owner.0 / 2) (Some there) None (entry_inside es (b.owner.0 / 2) e is)

    at_other : (q : ℕ) → q ≢ b.owner.0 / 2 → get_or moved_entries q None ≡ get_or es q None
    at_other q ne = get_or-set_other es (b.owner.0 / 2) q (Some there) None ne

    -- another entry's block isn't the one that moves
    other_block : (q : ℕ) (f : Entry) → q ≢ b.owner.0 / 2 → get_or es q None ≡ Some f → f.at / 2 ≢ k
    other_block q f ne is' z =
        let two = (tied.placed q f is').0 in
        let one : (block_at bs f.at).owner.0 ≡ b.owner.0 = ap (λ i. (block bs i).owner.0) z in
        ne (omega (arith, two, one))

    -- nor where that comes
    other_half : (q : ℕ) (f : Entry) → q ≢ b.owner.0 / 2 → get_or es q None ≡ Some f → f.at / 2 ≢ to / 2
    other_half q f ne is' z =
        let other = other_block q f ne is' in
        let under : f.at / 2 < k = omega (arith, z, other, lower) in
        let empty = empty_between ws bs end free k to (f.at / 2) laid closed under (omega (arith, z)) in
        entered_owner es bs q f tied is' (unowned_of_empty ws bs end free (f.at / 2) laid empty)

    stands : (q : ℕ) (f : Entry) → q ≢ b.owner.0 / 2 → get_or es q None ≡ Some f → block_at (moved bs k to) f.at ≡ block_at bs f.at
    stands q f ne is' =
        get_or-set_other (set bs k none) (to / 2) (f.at / 2) (with_place to b) none (other_half q f ne is') ∙ get_or-set_other bs k (f.at / 2) none none (other_block q f ne is')

    comes : block (moved bs k to) (to / 2) ≡ with_place to b
    comes = let size = length-set bs k none in get_or-set_same (set bs k none) (to / 2) (with_place to b) none (omega (arith, size, inside))

    pub tied_moved : IsTied moved_entries (moved bs k to)
    tied_moved = record {
      first = first (0 == b.owner.0 / 2) refl;
      placed = λ q f is'. placed q f is' (q == b.owner.0 / 2) refl;
      even = λ j. by_moved j (λ y. y.owner.0 ≢ 0 → y.owner.0 % 2 ≡ 0) (λ here. tied.even k) (λ ne here clash. absurd (clash refl)) (λ ne ne'. tied.even j);
      entered = λ j. by_moved j (λ y. y.owner.0 ≢ 0 → (f : Entry) × (get_or moved_entries (y.owner.0 / 2) None ≡ Some f) × (f.at ≡ y.at))
          (λ here some. (there, at_owner, refl))
          (λ ne here clash. absurd (clash refl))
          (λ ne ne' some. let old = tied.entered j some in (old.0, at_other ((block bs j).owner.0 / 2) (other_owner j ne' some) ∙ old.1, old.2));
    }
      where
        first : (t : Bool) → (0 == b.owner.0 / 2) ≡ t → get_or moved_entries 0 None ≡ None
        first true q = let here : b.owner.0 / 2 ≡ 0 = grind (arith, q) in let clash : b.owner.0 ≡ 0 = omega (arith, here, even) in absurd (owned clash)
        first false q = let ne : 0 ≢ b.owner.0 / 2 = λ z. grind (arith, q, z) in at_other 0 ne ∙ tied.first

        placed : (q : ℕ) (f : Entry) → get_or moved_entries q None ≡ Some f → (t : Bool) → (q == b.owner.0 / 2) ≡ t → ((block_at (moved bs k to) f.at).owner.0 ≡ 2 * q) × ((block_at (moved bs k to) f.at).at ≡ f.at)
        placed q f is' true m =
            let same : q ≡ b.owner.0 / 2 = grind (arith, m) in
            let it : Some there ≡ Some f = sym (ap (λ i. get_or moved_entries i None) same ∙ at_owner) ∙ is' in
            let place : f.at ≡ to = sym (ap entry_at it) in
            let here : block_at (moved bs k to) f.at ≡ with_place to b = ap (λ i. block (moved bs k to) (i / 2)) place ∙ comes in
            (ap (λ (y : Block). y.owner.0) here ∙ omega (arith, same, even), ap (λ (y : Block). y.at) here ∙ sym place)
        placed q f is' false m =
            let ne : q ≢ b.owner.0 / 2 = λ z. grind (arith, m, z) in
            let it : get_or es q None ≡ Some f = sym (at_other q ne) ∙ is' in
            let old = tied.placed q f it in
            let other = stands q f ne it in (ap (λ (y : Block). y.owner.0) other ∙ old.0, ap (λ (y : Block). y.at) other ∙ old.1)

        -- no other block has the owner
        other_owner : (j : ℕ) → j ≢ k → (block bs j).owner.0 ≢ 0 → (block bs j).owner.0 / 2 ≢ b.owner.0 / 2
        other_owner j ne some z =
            let old = tied.entered j some in
            let same : Some old.0 ≡ Some e = sym old.1 ∙ ap (λ i. get_or es i None) z ∙ is in
            let place : old.0.at ≡ e.at = ap entry_at same in
            let mine = laid.half j (laid.owned j some) in
            let there' = old.2 in
            ne (omega (arith, mine, half, there', place, at))

    -- words outside of the move stay
    slid_outside : (v : List ℕ) (i : ℕ) → ((j : ℕ) → get_or v j 0 ≡ slid (λ m. get_or ws m 0) b.at to b.len j) → (to ≤ i → to + b.len ≤ i) → get_or v i 0 ≡ get_or ws i 0
    slid_outside v i slide out = slide i ∙ (grind (arith, out))

    pub keeps_moved : (v : List ℕ) → ((j : ℕ) → get_or v j 0 ≡ slid (λ m. get_or ws m 0) b.at to b.len j) → KeepsBlocks ws bs es v (moved bs k to) moved_entries
    keeps_moved v slide = record {
      size = length-set es (b.owner.0 / 2) (Some there);
      entry = λ q. entry q (q == b.owner.0 / 2) refl;
      long = λ q f is'. long' q f is' (q == b.owner.0 / 2) refl;
      word = λ q f i is' under. word q f i is' under (q == b.owner.0 / 2) refl;
    }
      where
        entry : (q : ℕ) (t : Bool) → (q == b.owner.0 / 2) ≡ t → get_or moved_entries q None ≡ moved_entry (get_or es q None) (entry_at (get_or moved_entries q None))
        entry q true m =
            let same : q ≡ b.owner.0 / 2 = grind (arith, m) in
            let new : get_or moved_entries q None ≡ Some there = ap (λ i. get_or moved_entries i None) same ∙ at_owner in
            let old : get_or es q None ≡ Some e = ap (λ i. get_or es i None) same ∙ is in
            new ∙ sym (ap (λ y. moved_entry y (entry_at (get_or moved_entries q None))) old ∙ ap (λ y. moved_entry (Some e) (entry_at y)) new)
        entry q false m =
            let ne : q ≢ b.owner.0 / 2 = λ z. grind (arith, m, z) in
            at_other q ne ∙ same_entry (get_or es q None) ∙ ap (λ y. moved_entry (get_or es q None) (entry_at y)) (sym (at_other q ne))

        mine : (q : ℕ) (f : Entry) → q ≡ b.owner.0 / 2 → get_or es q None ≡ Some f → f.at ≡ b.at
        mine q f same is' = sym (ap entry_at (sym is ∙ sym (ap (λ i. get_or es i None) same) ∙ is')) ∙ at

        new_place : (q : ℕ) → q ≡ b.owner.0 / 2 → entry_at (get_or moved_entries q None) ≡ to
        new_place q same = ap entry_at (ap (λ i. get_or moved_entries i None) same ∙ at_owner)

        old_block : (q : ℕ) (f : Entry) → q ≡ b.owner.0 / 2 → get_or es q None ≡ Some f → block_at bs f.at ≡ b
        old_block q f same is' = ap (λ i. block bs (i / 2)) (mine q f same is') ∙ ap (block bs) half

        other_entry : (q : ℕ) (f : Entry) → q ≢ b.owner.0 / 2 → get_or es q None ≡ Some f → entry_at (get_or moved_entries q None) ≡ f.at
        other_entry q f ne is' = ap entry_at (at_other q ne ∙ is')

        long' : (q : ℕ) (f : Entry) → get_or es q None ≡ Some f → (t : Bool) → (q == b.owner.0 / 2) ≡ t → (block_at (moved bs k to) (entry_at (get_or moved_entries q None))).len ≡ (block_at bs f.at).len
        long' q f is' true m =
            let same : q ≡ b.owner.0 / 2 = grind (arith, m) in
            ap (λ i. (block (moved bs k to) (i / 2)).len) (new_place q same) ∙ ap (λ (y : Block). y.len) comes ∙ sym (ap (λ (y : Block). y.len) (old_block q f same is'))
        long' q f is' false m =
            let ne : q ≢ b.owner.0 / 2 = λ z. grind (arith, m, z) in
            ap (λ i. (block (moved bs k to) (i / 2)).len) (other_entry q f ne is') ∙ ap (λ (y : Block). y.len) (stands q f ne is')

        slid_inside : (i : ℕ) → i < b.len → slid (λ m. get_or ws m 0) b.at to b.len (to + i) ≡ get_or ws (b.at + i) 0
        slid_inside i short = let back : to + i - to ≡ i = omega arith in grind (arith, back, short)

        outside : (q : ℕ) (f : Entry) (i : ℕ) → get_or es q None ≡ Some f → i < (block_at bs f.at).len → q ≢ b.owner.0 / 2 → to ≤ f.at + i → to + b.len ≤ f.at + i
        outside q f i is' under ne from = by_side (nat_lt (f.at / 2) k) refl
          where
            some : 0 < (block_at bs f.at).len
            some = omega (arith, under)

            place : (block_at bs f.at).at ≡ f.at
            place = (tied.placed q f is').1

            by_side : (t : Bool) → nat_lt (f.at / 2) k ≡ t → to + b.len ≤ f.at + i
            by_side true m =
                let before : f.at / 2 < k = grind (arith, m) in
                let ends = closed (f.at / 2) before some in absurd (omega (arith, ends, place, under, from))
            by_side false m =
                let after : k ≤ f.at / 2 = grind (arith, m) in
                let other = other_block q f ne is' in
                let apart = laid.apart k (f.at / 2) (omega (arith, after, other)) (laid.owned k owned) some in omega (arith, apart, place, down)

        word : (q : ℕ) (f : Entry) (i : ℕ) → get_or es q None ≡ Some f → i < (block_at bs f.at).len → (t : Bool) → (q == b.owner.0 / 2) ≡ t → get_or v (entry_at (get_or moved_entries q None) + i) 0 ≡ get_or ws (f.at + i) 0
        word q f i is' under true m =
            let same : q ≡ b.owner.0 / 2 = grind (arith, m) in
            let size : (block_at bs f.at).len ≡ b.len = ap (λ (y : Block). y.len) (old_block q f same is') in
            let short : i < b.len = omega (arith, under, size) in
            ap (λ j. get_or v (j + i) 0) (new_place q same) ∙ slide (to + i) ∙ slid_inside i short ∙ ap (λ j. get_or ws (j + i) 0) (sym (mine q f same is'))
        word q f i is' under false m =
            let ne : q ≢ b.owner.0 / 2 = λ z. grind (arith, m, z) in
            ap (λ j. get_or v (j + i) 0) (other_entry q f ne is') ∙ slid_outside v (f.at + i) slide (outside q f i is' under ne)

-- the same where a block that was read is moved
module _ (h : Heap) (k to : ℕ) (within : k < length (blocks_of h)) (closed : IsClosedBelow (blocks_of h) k to) (above : IsAbove (blocks_of h) k to) (b : Block) (is : b ≡ block (blocks_of h) k) (some : b.owner.0 ≢ 0) (new : List Block) (moves : new ≡ moved (blocks_of h) k to) where
  owned : (block (blocks_of h) k).owner.0 ≢ 0
  owned z = some (ap (λ (c : Block). c.owner.0) is ∙ z)

  down : to ≤ (block (blocks_of h) k).at
  down = above k (omega arith) (h.laid.owned k owned)

  pub read_closed : IsClosedBelow new (k + 1) (to + b.len)
  read_closed =
      let P : List Block → Type 0 = λ bs. IsClosedBelow bs (k + 1) (to + b.len) in
      let Q : Block → Type 0 = λ c. IsClosedBelow (moved (blocks_of h) k to) (k + 1) (to + c.len) in
      subst P (sym moves) (subst Q (sym is) (closed_moved (words_of h) (blocks_of h) h.end h.free k to h.laid within owned down closed))

  pub read_above : IsAbove new (k + 1) (to + b.len)
  read_above =
      let P : List Block → Type 0 = λ bs. IsAbove bs (k + 1) (to + b.len) in
      let Q : Block → Type 0 = λ c. IsAbove (moved (blocks_of h) k to) (k + 1) (to + c.len) in
      subst P (sym moves) (subst Q (sym is) (above_moved (words_of h) (blocks_of h) h.end h.free k to h.laid within owned down closed))
