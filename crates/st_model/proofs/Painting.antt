-- The painted words: all are of 16 bits, their pixels are those that the copy makes, and no other words are so.
use Rattle.std.proofs.Common.{◌≡◌, ℕ, zero, suc, ◌+◌, ◌-◌, ◌*◌, ◌/◌, ◌%◌, ◌^◌, ◌<◌, List, length, get_or, Bool, true, false, if◌then◌else◌, refl, sym, ◌∙◌, ap, arith, inl, inr}
use Rattle.std.specs.Int.{bit_at}
use Rattle.std.proofs.lemmas.Nat.Bits.{bit_at-lt, bit_at_lowest, bit_at-suc, same_from_bits_below}
use Rattle.std.proofs.lemmas.Bool.{cases_order}
use Rattle.st_model.specs.Lists.{made}
use Rattle.st_model.specs.Pixels.{AllFit, pixel, number_by}
use Rattle.st_model.specs.BitBlt.{Copy, is_copied, pixel_after, painted_pixel, painted}
use Rattle.st_model.proofs.Made.{get_or-made, length-made, made_from}

-- pixel j of word number i of these
pub pixel_in : (words : List ℕ) (i j k : ℕ) → j < 16 → k ≡ 16 * i + j → pixel words k ≡ bit_at (get_or words i 0) (15 - j)
unfolding pixel
pixel_in words i j k h e =
    let a : k / 16 ≡ i = omega arith in
    let b : k % 16 ≡ j = omega arith in
    rw (a, b) refl

module _ (f : ℕ → ℕ) (small : (k : ℕ) → f k < 2) where
  pub bit_by : (n i : ℕ) → i < n → bit_at (number_by n f) (n - 1 - i) ≡ f i
  unfolding number_by
  bit_by zero i h = omega arith
  bit_by (suc n) i h =
      let b : f n < 2 = small n in
      elim (cases_order i n) [
        | inl e ↦
            let z : suc n - 1 - i ≡ 0 = omega arith in
            rw z (bit_at_lowest (number_by n f * 2 + f n) ∙ last (number_by n f) (f n) b ∙ ap f (sym e))
        | inr s ↦ elim s [
          | inl lt ↦
              let z : suc n - 1 - i ≡ suc (n - 1 - i) = omega arith in
              let y : (number_by n f * 2 + f n) / 2 ≡ number_by n f = front (number_by n f) (f n) b in
              rw z (bit_at-suc (number_by n f * 2 + f n) (n - 1 - i) ∙ ap (λ m. bit_at m (n - 1 - i)) y ∙ bit_by n i lt)
          | inr gt ↦ absurd (omega arith)
        ]
      ]
    where
      last : (a b : ℕ) → b < 2 → (a * 2 + b) % 2 ≡ b
      last a b h = omega arith

      front : (a b : ℕ) → b < 2 → (a * 2 + b) / 2 ≡ a
      front a b h = omega arith

  pub number_fits : (n : ℕ) → number_by n f < 2 ^ n
  unfolding number_by
  number_fits zero = omega arith
  number_fits (suc n) =
      let b : f n < 2 = small n in
      let a : number_by n f < 2 ^ n = number_fits n in
      omega arith

pub pixel-small : (words : List ℕ) (k : ℕ) → pixel words k < 2
unfolding pixel
pixel-small words k = bit_at-lt _ _

after_small : (b : Bool) (x d : ℕ) → x < 2 → d < 2 → (if b then x else d) < 2
after_small true x d h k = h
after_small false x d h k = k

module _ (c : Copy) where
  painted-small : (k : ℕ) → painted_pixel c k < 2
  unfolding pixel_after
  painted-small k = after_small (is_copied c _ _) _ _ (bit_at-lt c.rule _) (pixel-small c.destination.words k)

  -- word number i of them
  abbrev painted_word : ℕ → ℕ
  painted_word i = number_by 16 (λ b. painted_pixel c (16 * i + b))

  word_fits : (i : ℕ) → painted_word i < 2 ^ 16
  word_fits i = number_fits (λ b. painted_pixel c (16 * i + b)) (λ b. painted-small (16 * i + b)) 16

  word_bit : (i j : ℕ) → j < 16 → bit_at (painted_word i) (15 - j) ≡ painted_pixel c (16 * i + j)
  word_bit i j h = bit_by (λ b. painted_pixel c (16 * i + b)) (λ b. painted-small (16 * i + b)) 16 j h

  made_fits : (f : ℕ → ℕ) (n k : ℕ) → ((i : ℕ) → f i < 2 ^ 16) → get_or (made f n) k 0 < 2 ^ 16
  made_fits f zero k h = omega arith
  made_fits f (suc n) zero h = h 0
  made_fits f (suc n) (suc k) h = made_fits (λ i. f (suc i)) n k (λ i. h (suc i))

  pub painted-fits : AllFit (painted c)
  unfolding painted
  painted-fits k = made_fits painted_word (length c.destination.words) k word_fits

  pub length-painted : length (painted c) ≡ length c.destination.words
  unfolding painted
  length-painted = length-made painted_word (length c.destination.words)

  -- the pixel at a place of the painted words is what the copy makes of it
  pub pixel-painted : (k : ℕ) → k < 16 * length c.destination.words → pixel (painted c) k ≡ painted_pixel c k
  unfolding painted
  pixel-painted k h =
      let i : k / 16 < length c.destination.words = omega arith in
      let e : k ≡ 16 * (k / 16) + k % 16 = omega arith in
      let j : k % 16 < 16 = omega arith in
      pixel_in (painted c) (k / 16) (k % 16) k j e
      ∙ ap (λ w. bit_at w (15 - k % 16)) (get_or-made painted_word (length c.destination.words) (k / 16) 0 i)
      ∙ word_bit (k / 16) (k % 16) j
      ∙ ap (painted_pixel c) (sym e)

  module _ (words : List ℕ) (size : length words ≡ length c.destination.words) (fit : AllFit words) (each : (k : ℕ) → k < 16 * length c.destination.words → pixel words k ≡ painted_pixel c k) where
    same_bit : (i j : ℕ) → i < length c.destination.words → j < 16 → bit_at (get_or words i 0) j ≡ bit_at (painted_word i) j
    same_bit i j hi hj =
        let e : 15 - (15 - j) ≡ j = omega arith in
        let p = pixel_in words i (15 - j) (16 * i + (15 - j)) (omega arith) refl in
        let q = word_bit i (15 - j) (omega arith) in
        ap (bit_at (get_or words i 0)) (sym e) ∙ sym p ∙ each (16 * i + (15 - j)) (omega arith) ∙ sym q ∙ ap (bit_at (painted_word i)) e

    -- words with these pixels, of 16 bits and as many, are the painted ones
    pub painted-alone : words ≡ painted c
    unfolding painted
    painted-alone =
        made_from painted_word words (length c.destination.words) 0 size
        (λ i below. same_from_bits_below 16 (get_or words i 0) (painted_word i) (fit i) (word_fits i) (λ j h. same_bit i j below h))
