use Rattle.std.proofs.Common.{◌≡◌, ℕ, zero, suc, ◌+◌, ◌-◌, ◌*◌, ◌/◌, ◌%◌, ◌^◌, ◌<◌, ◌≤◌, min, bit_and, bit_or, arith, refl, sym, ◌∙◌, ap}
use Rattle.std.specs.Int.{bit_at, w16}
use Rattle.std.specs.Int.Bits.{bit_xor}
use Rattle.std.proofs.lemmas.Nat.{shr-shr, shr_split, one_shl, pow_pos}
use Rattle.std.proofs.lemmas.Nat.Bits.{bit_at_and, bit_at_or, bit_at_xor, bit_at_not, bit_at-lt, bit_at-zero, bit_at_above, bit_at_ones, bit_at_cat_low, bit_at_cat_high, bit_at_mask_inside, bit_at_mask_below, bit_at_mask_above}
use Rattle.std.proofs.Math.Pow.{pow_mono}
use Rattle.st_model.specs.Pixels.{combine}
use Rattle.st_bitblt.specs.inside.Rules.{IsSpread, number_of_words}

-- What the bits of words are that were combined, joined and masked.
-- What is chosen by a bit: of two others, by the first where it is 1 and else by the second.
weights : (f : ℕ → ℕ) (s d : ℕ) → s < 2 → d < 2 → ((k : ℕ) → f k < 2)
    → (min d (((min s ((f 0 + f 2) % 2) + f 2) % 2 + (min s ((f 1 + f 3) % 2) + f 3) % 2) % 2) + (min s ((f 1 + f 3) % 2) + f 3) % 2) % 2 ≡ f (3 - (2 * s + d))
weights f zero zero hs hd hf = let h : f 3 < 2 = hf 3 in omega arith
weights f zero (suc zero) hs hd hf =
    let h : f 2 < 2 = hf 2 in
    let k : f 3 < 2 = hf 3 in
    omega arith
weights f zero (suc (suc d)) hs hd hf = omega arith
weights f (suc zero) zero hs hd hf =
    let h : f 1 < 2 = hf 1 in
    let k : f 3 < 2 = hf 3 in
    omega arith
weights f (suc zero) (suc zero) hs hd hf =
    let h : f 0 < 2 = hf 0 in
    let i : f 1 < 2 = hf 1 in
    let j : f 2 < 2 = hf 2 in
    let k : f 3 < 2 = hf 3 in
    omega arith
weights f (suc zero) (suc (suc d)) hs hd hf = omega arith
weights f (suc (suc s)) d hs hd hf = omega arith

pub ones_bit : (j : ℕ) → j < 16 → bit_at 65535 j ≡ 1
ones_bit j h = bit_at_ones 16 j h

-- what a rule's four words make of two others
abbrev combined : (s d a b c e : ℕ) → ℕ
combined s d a b c e = bit_xor (bit_and d (bit_xor (bit_xor (bit_and s (bit_xor a c)) c) (bit_xor (bit_and s (bit_xor b e)) e))) (bit_xor (bit_and s (bit_xor b e)) e)

rule_words : (rule s d a b c e j : ℕ)
    → bit_at a j ≡ bit_at rule 0 → bit_at b j ≡ bit_at rule 1 → bit_at c j ≡ bit_at rule 2 → bit_at e j ≡ bit_at rule 3
    → bit_at (combined s d a b c e) j ≡ combine rule (bit_at s j) (bit_at d j)
rule_words rule s d a b c e j ha hb hc he =
    simp (bit_at_xor, bit_at_and, ha, hb, hc, he) (weights (bit_at rule) (bit_at s j) (bit_at d j) (bit_at-lt s j) (bit_at-lt d j) (bit_at-lt rule))

rule_bits : (x y z w : ℕ) → x < 2 → y < 2 → z < 2 → w < 2
    → (bit_at (x + 2 * y + 4 * z + 8 * w) 0 ≡ x) × (bit_at (x + 2 * y + 4 * z + 8 * w) 1 ≡ y) × (bit_at (x + 2 * y + 4 * z + 8 * w) 2 ≡ z) × (bit_at (x + 2 * y + 4 * z + 8 * w) 3 ≡ w)
rule_bits x y z w hx hy hz hw = (omega arith, omega arith, omega arith, omega arith)

pub combined_bit : (rule s d a b c e j : ℕ) → j < 16 → rule ≡ number_of_words a b c e → IsSpread a → IsSpread b → IsSpread c → IsSpread e
    → bit_at (combined s d a b c e) j ≡ combine rule (bit_at s j) (bit_at d j)
combined_bit rule s d a b c e j h is sa sb sc se =
    let r = rule_bits (bit_at a 0) (bit_at b 0) (bit_at c 0) (bit_at e 0) (bit_at-lt a 0) (bit_at-lt b 0) (bit_at-lt c 0) (bit_at-lt e 0) in
    rule_words rule s d a b c e j
    (sa j h ∙ sym (ap (λ x. bit_at x 0) is ∙ r.0)) (sb j h ∙ sym (ap (λ x. bit_at x 1) is ∙ r.1))
    (sc j h ∙ sym (ap (λ x. bit_at x 2) is ∙ r.2)) (se j h ∙ sym (ap (λ x. bit_at x 3) is ∙ r.3))

shifted : (n k j : ℕ) → bit_at (n / 2 ^ k) j ≡ bit_at n (k + j)
shifted n k j = ap (λ x. x % 2) (shr-shr n k j)

-- the lowest sixteen bits of a word that was shifted up
low_bits : (n j : ℕ) → j < 16 → bit_at (n % 65536) j ≡ bit_at n j
low_bits n j h = sym (bit_at_cat_low (n / 2 ^ 16) 16 (n % 2 ^ 16) j h) ∙ ap (λ x. bit_at x j) (shr_split n 16)

shifted_up : (l skip j : ℕ) → skip ≤ j → j < 16 → bit_at (l * 2 ^ skip % 65536) j ≡ bit_at l (j - skip)
shifted_up l skip j le h =
    let e : l * 2 ^ skip + 0 ≡ l * 2 ^ skip = omega arith in
    low_bits (l * 2 ^ skip) j h ∙ sym (ap (λ x. bit_at x j) e) ∙ bit_at_cat_high l skip 0 j (pow_pos skip) le

shifted_in : (l skip j : ℕ) → j < skip → j < 16 → bit_at (l * 2 ^ skip % 65536) j ≡ 0
shifted_in l skip j lt h =
    let e : l * 2 ^ skip + 0 ≡ l * 2 ^ skip = omega arith in
    low_bits (l * 2 ^ skip) j h ∙ sym (ap (λ x. bit_at x j) e) ∙ bit_at_cat_low l skip 0 j lt ∙ bit_at-zero j

-- Sixteen bits of two words side by side.
pub pair_left : (l r skip i : ℕ) → r < 2 ^ 16 → skip + i < 16
    → bit_at (bit_or (l * 2 ^ skip % 65536) (r / 2 ^ (16 - skip))) (15 - i) ≡ bit_at l (15 - (skip + i))
pair_left l r skip i hr h =
    let e : 15 - i - skip ≡ 15 - (skip + i) = omega arith in
    let a : bit_at (l * 2 ^ skip % 65536) (15 - i) ≡ bit_at l (15 - (skip + i)) = shifted_up l skip (15 - i) (omega arith) (omega arith) ∙ ap (bit_at l) e in
    let b : bit_at (r / 2 ^ (16 - skip)) (15 - i) ≡ 0 = shifted r (16 - skip) (15 - i) ∙ bit_at_above r 16 (16 - skip + (15 - i)) hr (omega arith) in
    simp (bit_at_or, a, b) (omega arith)

pub pair_right : (l r skip i : ℕ) → i < 16 → skip < 16 → 16 ≤ skip + i
    → bit_at (bit_or (l * 2 ^ skip % 65536) (r / 2 ^ (16 - skip))) (15 - i) ≡ bit_at r (31 - (skip + i))
pair_right l r skip i hi hs h =
    let e : 16 - skip + (15 - i) ≡ 31 - (skip + i) = omega arith in
    let a : bit_at (l * 2 ^ skip % 65536) (15 - i) ≡ 0 = shifted_in l skip (15 - i) (omega arith) (omega arith) in
    let b : bit_at (r / 2 ^ (16 - skip)) (15 - i) ≡ bit_at r (31 - (skip + i)) = shifted r (16 - skip) (15 - i) ∙ ap (bit_at r) e in
    simp (bit_at_or, a, b) (omega arith)

pub one_bit : (k : ℕ) → k < 32 → 1 * 2 ^ k % 4294967296 ≡ 2 ^ k
one_bit k h = one_shl k 32 h

pub masks_order : (first n : ℕ) → first + n ≤ 16 → 1 * 2 ^ (16 - first - n) % 4294967296 ≤ 1 * 2 ^ (16 - first) % 4294967296
masks_order first n h =
    let le : 16 - first - n ≤ 16 - first = omega arith in
    rw (one_bit (16 - first - n) (omega arith), one_bit (16 - first) (omega arith)) (pow_mono le)

masks_are : (first n : ℕ) → 1 * 2 ^ (16 - first) % 4294967296 - 1 * 2 ^ (16 - first - n) % 4294967296 ≡ 2 ^ (16 - first) - 2 ^ (16 - first - n)
masks_are first n = rw (one_bit (16 - first - n) (omega arith), one_bit (16 - first) (omega arith)) refl

pub mask_fits : (first n : ℕ) → 1 * 2 ^ (16 - first) % 4294967296 - 1 * 2 ^ (16 - first - n) % 4294967296 < 2 ^ 16
mask_fits first n =
    let low : 0 < 2 ^ (16 - first - n) = pow_pos (16 - first - n) in
    let le : 16 - first ≤ 16 = omega arith in
    let high : 2 ^ (16 - first) ≤ 2 ^ 16 = pow_mono le in
    rw (masks_are first n) (omega arith)

pub mask_inside : (first n i : ℕ) → first + n ≤ 16 → first ≤ i → i < first + n
    → bit_at (1 * 2 ^ (16 - first) % 4294967296 - 1 * 2 ^ (16 - first - n) % 4294967296) (15 - i) ≡ 1
mask_inside first n i h a b = rw (masks_are first n) (bit_at_mask_inside (16 - first - n) (16 - first) (15 - i) (omega arith) (omega arith))

pub mask_below : (first n i : ℕ) → first + n ≤ 16 → i < first
    → bit_at (1 * 2 ^ (16 - first) % 4294967296 - 1 * 2 ^ (16 - first - n) % 4294967296) (15 - i) ≡ 0
mask_below first n i h a = rw (masks_are first n) (bit_at_mask_above (16 - first - n) (16 - first) (15 - i) (omega arith))

pub mask_above : (first n i : ℕ) → first + n ≤ i → i < 16
    → bit_at (1 * 2 ^ (16 - first) % 4294967296 - 1 * 2 ^ (16 - first - n) % 4294967296) (15 - i) ≡ 0
mask_above first n i a b = rw (masks_are first n) (bit_at_mask_below (16 - first - n) (16 - first) (15 - i) (omega arith))

-- A word chosen by a mask, at a bit where the mask is 1, and where it is 0.
pub chosen : (a d m j : ℕ) → m < 2 ^ 16 → j < 16 → bit_at m j ≡ 1 → bit_at (bit_or (bit_and a m) (bit_and d (65535 - m))) j ≡ bit_at a j
chosen a d m j hm hj one =
    let n : bit_at (65535 - m) j ≡ 1 - bit_at m j = bit_at_not w16 m j hm hj in
    let small : bit_at a j < 2 = bit_at-lt a j in
    simp (bit_at_or, bit_at_and, n, one) (omega arith)

pub kept : (a d m j : ℕ) → m < 2 ^ 16 → j < 16 → bit_at m j ≡ 0 → bit_at (bit_or (bit_and a m) (bit_and d (65535 - m))) j ≡ bit_at d j
kept a d m j hm hj none =
    let n : bit_at (65535 - m) j ≡ 1 - bit_at m j = bit_at_not w16 m j hm hj in
    let small : bit_at d j < 2 = bit_at-lt d j in
    simp (bit_at_or, bit_at_and, n, none) (omega arith)
