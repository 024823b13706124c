use Rattle.std.proofs.Common.{◌≡◌, ◌≢◌, ℕ, ◌+◌, ◌-◌, ◌*◌, ◌/◌, ◌%◌, ◌^◌, ◌<◌, ◌≤◌, Bool, true, false, List, [], ◌∷◌, zero, suc, length, get_or, set, replicate, w64, refl, sym, ap, ◌∙◌, subst, arith}
use Rattle.std.specs.Prelude.{◌==◌}
use Rattle.std.specs.Int.{bit_at, trailing_ones}
use Rattle.std.proofs.lemmas.List.{get_or-set_same, get_or-set_other, get_or-replicate, length-replicate}
use Rattle.std.proofs.lemmas.Nat.Bits.{bit_at_ones, bit_at-trailing_ones}
use Rattle.st_table.specs.inside.Bits.{bit, IsSummary, IsLeast}

-- bits of a full word are set
pub full_bits : (ws : List ℕ) (i : ℕ) → get_or ws (i / 64) 0 ≡ 2 ^ 64 - 1 → bit ws i ≡ 1
full_bits ws i e = ap (λ w. bit_at w (i % 64)) e ∙ bit_at_ones 64 (i % 64) (omega arith)

-- the first word that is not full gives the least free bit
pub least : (ws : List ℕ) (s k : ℕ) → get_or ws s 0 + 1 < 2 ^ 64 → ((j : ℕ) → j < s → get_or ws j 0 ≡ 2 ^ 64 - 1) → k ≡ 64 * s + trailing_ones w64 (get_or ws s 0) → IsLeast ws k
least ws s k room before e =
    let w = get_or ws s 0 in
    let t = bit_at-trailing_ones w64 w room in
    let small : trailing_ones w64 w < 64 = t.0 in
    let high : k / 64 ≡ s = omega (arith, e, small) in
    let low : k % 64 ≡ trailing_ones w64 w = omega (arith, e, small) in
    record {
      free = (λ i. bit_at (get_or ws (high i) 0) (low i)) ∙ t.1;
      lower = λ i below. by_word i below (i / 64 == s) refl;
    }
  where
    by_word : (i : ℕ) → i < k → (b : Bool) → (i / 64 == s) ≡ b → bit ws i ≡ 1
    by_word i below true q =
        let at : i / 64 ≡ s = grind (arith, q) in
        let t = bit_at-trailing_ones w64 (get_or ws s 0) room in
        let lower : i % 64 < trailing_ones w64 (get_or ws s 0) = omega (arith, at, below, e) in
        ap (λ j. bit_at (get_or ws j 0) (i % 64)) at ∙ t.2 (i % 64) lower
    by_word i below false q =
        let small = (bit_at-trailing_ones w64 (get_or ws s 0) room).0 in
        let ne : i / 64 ≢ s = λ z. grind (arith, q, z) in
        let under : i / 64 < s = omega (arith, ne, below, e, small) in full_bits ws i (before (i / 64) under)

-- the search by the summary finds the least free place
pub searched : (ws fs : List ℕ) (s j k : ℕ) → IsSummary ws fs → s < length fs → get_or fs s 0 + 1 < 2 ^ 64 → ((r : ℕ) → r < s → get_or fs r 0 ≡ 2 ^ 64 - 1) → j ≡ 64 * s + trailing_ones w64 (get_or fs s 0) → k ≡ 64 * j + trailing_ones w64 (get_or ws j 0) → IsLeast ws k
searched ws fs s j k h within room before ej ek =
    let f = least fs s j room before ej in
    let small = (bit_at-trailing_ones w64 (get_or fs s 0) room).0 in
    let sizes = h.sizes in
    let inside : j < length ws = omega (arith, sizes, within, ej, small) in
    least ws j k (h.clear j inside f.free) (λ r below. h.set r (omega (arith, below, inside)) (f.lower r below)) ek

pub searched_within : (ws fs : List ℕ) (s j k : ℕ) → IsSummary ws fs → s < length fs → get_or fs s 0 + 1 < 2 ^ 64 → ((r : ℕ) → r < s → get_or fs r 0 ≡ 2 ^ 64 - 1) → j ≡ 64 * s + trailing_ones w64 (get_or fs s 0) → k ≡ 64 * j + trailing_ones w64 (get_or ws j 0) → k < 64 * length ws
searched_within ws fs s j k h within room before ej ek =
    let f = least fs s j room before ej in
    let small = (bit_at-trailing_ones w64 (get_or fs s 0) room).0 in
    let sizes = h.sizes in
    let inside : j < length ws = omega (arith, sizes, within, ej, small) in
    let small' = (bit_at-trailing_ones w64 (get_or ws j 0) (h.clear j inside f.free)).0 in
    omega (arith, ek, inside, small')

-- where the summary is full, every place is taken
pub all_taken : (ws fs : List ℕ) (k : ℕ) → IsSummary ws fs → ((r : ℕ) → r < length fs → get_or fs r 0 ≡ 2 ^ 64 - 1) → k < 64 * length ws → bit ws k ≡ 1
all_taken ws fs k h full below =
    let sizes = h.sizes in
    full_bits ws k (h.set (k / 64) (omega (arith, below)) (full_bits fs (k / 64) (full (k / 64 / 64) (omega (arith, below, sizes)))))

-- the summary after a word and its bit in the summary changed
summary_changed : (ws fs ws' fs' : List ℕ) (j : ℕ) → IsSummary ws fs → length ws' ≡ length ws → length fs' ≡ length fs → ((r : ℕ) → r ≢ j → get_or ws' r 0 ≡ get_or ws r 0) → ((r : ℕ) → r ≢ j → bit fs' r ≡ bit fs r)
    → (j < length ws → bit fs' j ≡ 1 → get_or ws' j 0 ≡ 2 ^ 64 - 1) → (bit fs' j ≡ 0 → get_or ws' j 0 + 1 < 2 ^ 64) → IsSummary ws' fs'
summary_changed ws fs ws' fs' j h sw sf words others full room =
    let sizes = h.sizes in
    record {
      sizes = omega (arith, sizes, sw, sf);
      set = λ r below e. set r (omega (arith, below, sw)) e (r == j) refl;
      clear = λ r below e. clear r (omega (arith, below, sw)) e (r == j) refl;
    }
  where
    set : (r : ℕ) → r < length ws → bit fs' r ≡ 1 → (b : Bool) → (r == j) ≡ b → get_or ws' r 0 ≡ 2 ^ 64 - 1
    set r below e true q = let at : r ≡ j = grind (arith, q) in ap (λ y. get_or ws' y 0) at ∙ full (omega (arith, below, at)) (ap (bit fs') (sym at) ∙ e)
    set r below e false q = let ne : r ≢ j = λ z. grind (arith, q, z) in words r ne ∙ h.set r below (sym (others r ne) ∙ e)

    clear : (r : ℕ) → r < length ws → bit fs' r ≡ 0 → (b : Bool) → (r == j) ≡ b → get_or ws' r 0 + 1 < 2 ^ 64
    clear r below e true q = let at : r ≡ j = grind (arith, q) in subst (λ y. get_or ws' y 0 + 1 < 2 ^ 64) (sym at) (room (ap (bit fs') (sym at) ∙ e))
    clear r below e false q = let ne : r ≢ j = λ z. grind (arith, q, z) in subst (λ w. w + 1 < 2 ^ 64) (sym (words r ne)) (h.clear r below (sym (others r ne) ∙ e))

-- the summary after a place was taken
pub summary_full : (ws fs ws' fs' : List ℕ) (j : ℕ) → IsSummary ws fs → length ws' ≡ length ws → length fs' ≡ length fs → ((r : ℕ) → r ≢ j → get_or ws' r 0 ≡ get_or ws r 0) → get_or ws' j 0 ≡ 2 ^ 64 - 1 → bit fs' j ≡ 1 → ((r : ℕ) → r ≢ j → bit fs' r ≡ bit fs r) → IsSummary ws' fs'
summary_full ws fs ws' fs' j h sw sf words full marked others =
    summary_changed ws fs ws' fs' j h sw sf words others (λ below e. full) (λ e. let no : 0 ≡ 1 = sym e ∙ marked in absurd (omega (arith, no)))

pub summary_same : (ws fs ws' : List ℕ) (j k : ℕ) → IsSummary ws fs → length ws' ≡ length ws → ((r : ℕ) → r ≢ j → get_or ws' r 0 ≡ get_or ws r 0) → j ≡ k / 64 → bit ws k ≡ 0 → get_or ws' j 0 + 1 < 2 ^ 64 → IsSummary ws' fs
summary_same ws fs ws' j k h sw words at_k free room =
    summary_changed ws fs ws' fs j h sw refl words (λ r ne. refl)
    (λ below e. let no : 1 ≡ 0 = sym (full_bits ws k (ap (λ y. get_or ws y 0) (sym at_k) ∙ h.set j below e)) ∙ free in absurd (omega (arith, no)))
    (λ e. room)

-- one bit of one word
pub marked_same : (ws : List ℕ) (k v b : ℕ) → k / 64 < length ws → bit_at v (k % 64) ≡ b → bit (set ws (k / 64) v) k ≡ b
marked_same ws k v b within e = ap (λ w. bit_at w (k % 64)) (get_or-set_same ws (k / 64) v 0 within) ∙ e

pub marked_other : (ws : List ℕ) (k v i : ℕ) → k / 64 < length ws → i ≢ k → ((r : ℕ) → r < 64 → r ≢ k % 64 → bit_at v r ≡ bit_at (get_or ws (k / 64) 0) r) → bit (set ws (k / 64) v) i ≡ bit ws i
marked_other ws k v i within ne same = by_word (i / 64 == k / 64) refl
  where
    by_word : (b : Bool) → (i / 64 == k / 64) ≡ b → bit (set ws (k / 64) v) i ≡ bit ws i
    by_word true q =
        let at : i / 64 ≡ k / 64 = grind (arith, q) in
        let low : i % 64 ≢ k % 64 = λ z. ne (omega (arith, at, z)) in
        ap (λ j. bit_at (get_or (set ws (k / 64) v) j 0) (i % 64)) at
        ∙ ap (λ w. bit_at w (i % 64)) (get_or-set_same ws (k / 64) v 0 within)
        ∙ same (i % 64) (omega arith) low ∙ ap (λ j. bit_at (get_or ws j 0) (i % 64)) (sym at)
    by_word false q = let other : i / 64 ≢ k / 64 = λ z. grind (arith, q, z) in ap (λ w. bit_at w (i % 64)) (get_or-set_other ws (k / 64) (i / 64) v 0 other)

-- within the list the default does not matter
pub read_any : {A : Type 0} (xs : List A) (k : ℕ) (d e : A) → k < length xs → get_or xs k d ≡ get_or xs k e
read_any [] k d e h = absurd (omega (arith, h))
read_any (x ∷ xs) zero d e h = refl
read_any (x ∷ xs) (suc k) d e h = read_any xs k d e (omega arith)

-- the summary after a place was freed
pub summary_cleared : (ws fs ws' fs' : List ℕ) (j : ℕ) → IsSummary ws fs → length ws' ≡ length ws → length fs' ≡ length fs → ((r : ℕ) → r ≢ j → get_or ws' r 0 ≡ get_or ws r 0) → get_or ws' j 0 + 1 < 2 ^ 64 → bit fs' j ≡ 0 → ((r : ℕ) → r ≢ j → bit fs' r ≡ bit fs r) → IsSummary ws' fs'
summary_cleared ws fs ws' fs' j h sw sf words room cleared others =
    summary_changed ws fs ws' fs' j h sw sf words others (λ below e. let no : 1 ≡ 0 = sym e ∙ cleared in absurd (omega (arith, no))) (λ e. room)

-- at first every bit is set
pub ones : (n v k : ℕ) → v ≡ 2 ^ 64 - 1 → k < 64 * n → bit (replicate n v) k ≡ 1
ones n v k e below = full_bits (replicate n v) k (get_or-replicate n (k / 64) v 0 (omega (arith, below)) ∙ e)

pub summary_of_ones : (n m v : ℕ) → v ≡ 2 ^ 64 - 1 → n ≡ 64 * m → IsSummary (replicate n v) (replicate m v)
summary_of_ones n m v e size =
    let a : length (replicate n v) ≡ n = length-replicate n v in
    let b : length (replicate m v) ≡ m = length-replicate m v in
    record {
      sizes = omega (arith, a, b, size);
      set = λ j below full. get_or-replicate n j v 0 (omega (arith, a, below)) ∙ e;
      clear = λ j below clear. let no : 1 ≡ 0 = sym (ones m v j e (omega (arith, a, below, size))) ∙ clear in absurd (omega (arith, no));
    }

-- one more place is free
pub freed : (ws ws' : List ℕ) (k : ℕ) → ((j : ℕ) → 0 < j → j ≤ k → bit ws j ≡ 0) → bit ws' (k + 1) ≡ 0 → ((j : ℕ) → j ≢ k + 1 → bit ws' j ≡ bit ws j) → (j : ℕ) → 0 < j → j ≤ k + 1 → bit ws' j ≡ 0
freed ws ws' k before here others j up down = by_place (j == k + 1) refl
  where
    by_place : (b : Bool) → (j == k + 1) ≡ b → bit ws' j ≡ 0
    by_place true q = let at : j ≡ k + 1 = grind (arith, q) in ap (bit ws') at ∙ here
    by_place false q = let ne : j ≢ k + 1 = λ z. grind (arith, q, z) in others j ne ∙ before j up (omega (arith, down, ne))
