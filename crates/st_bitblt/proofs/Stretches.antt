-- Stretches of a row that are read, put together and written.
use Rattle.std.proofs.Common.{◌≡◌, ◌≢◌, ℕ, zero, suc, ◌+◌, ◌-◌, ◌*◌, ◌/◌, ◌%◌, ◌<◌, ◌≤◌, min, bit_and, arith, refl, sym, ◌∙◌, ap, subst, List, [], ◌∷◌, ◌++◌, length, take, drop, replicate, get_or, set, length-append, length-drop, ◌⊎◌, inl, inr, Option, Some, None}
use Rattle.std.specs.Int.{bit_at}
use Rattle.std.proofs.lemmas.Bool.{cases_lt}
use Rattle.std.proofs.lemmas.Nat.Bits.{bit_at_and}
use Rattle.std.proofs.lemmas.List.{get_or-take, get_or-drop, get_or_append_left, get_or-append_right, length-take-le}
use Rattle.st_model.specs.declared.oop.Oop.{Oop}
use Rattle.st_model.specs.Values.{Value, value}
use Rattle.st_model.specs.View.{View}
use Rattle.st_model.specs.Pixels.{AllFit, pixel, combine}
use Rattle.st_model.proofs.Transfers.{same_or_not}
use Rattle.st_memory.specs.inside.Copied.{laid, with_units_in}
use Rattle.st_memory.proofs.Laying.{length-laid}
use Rattle.st_bitblt.specs.inside.Words.{words, HasWords, with_words}
use Rattle.st_bitblt.specs.declared.source.Source.{Source}
use Rattle.st_bitblt.specs.declared.source.Source.TheVariants as source
use Rattle.st_bitblt.specs.inside.Copied.{Copied, shaded, pixel_from, object_of_source}
use Rattle.st_bitblt.specs.inside.Stretches.{Combined, Restored, IsStretch}
use Rattle.st_model.proofs.Painting.{pixel_in}
use Rattle.st_bitblt.proofs.Bits.{ones_bit}
use Rattle.st_bitblt.proofs.Parts.{pixel_is, pixel_set, pixel_set_other}
use Rattle.st_bitblt.proofs.Words.{words_here, words_other, words_there}

-- a word that was joined of two neighbours
joined_bit : (source : List ℕ) (skip j i g k : ℕ) → i < 16 → skip < 16 → k ≡ skip + (16 * j + i)
    → ((i : ℕ) → skip + i < 16 → bit_at g (15 - i) ≡ bit_at (get_or source j 0) (15 - (skip + i)))
    → ((i : ℕ) → i < 16 → 16 ≤ skip + i → bit_at g (15 - i) ≡ bit_at (get_or source (j + 1) 0) (31 - (skip + i)))
    → bit_at g (15 - i) ≡ pixel source k
joined_bit source skip j i g k h s e left right = elim (cases_lt (skip + i) 16) [
  | inl lt ↦ left i lt ∙ sym (pixel_in source j (skip + i) k lt (omega (arith, e)))
  | inr ge ↦
      let f : 31 - (skip + i) ≡ 15 - (skip + i - 16) = omega arith in
      right i h ge ∙ ap (bit_at (get_or source (j + 1) 0)) f ∙ sym (pixel_in source (j + 1) (skip + i - 16) k (omega (arith, h, s)) (omega (arith, e, ge)))
]

-- so many words were put together
pub record Combining (rule tone : ℕ) (source : List ℕ) (skip : ℕ) (old now : List ℕ) (j : ℕ) : Type 0 where
  pub done : (k : ℕ) → k < 16 * j → pixel now k ≡ combine rule (min (pixel source (skip + k)) (bit_at tone (15 - k % 16))) (pixel old k)
  pub left : (k : ℕ) → 16 * j ≤ k → pixel now k ≡ pixel old k

pub one_combined : (rule tone : ℕ) (source : List ℕ) (skip : ℕ) (old now : List ℕ) (j g w : ℕ) → skip < 16 → j < length now
    → ((i : ℕ) → skip + i < 16 → bit_at g (15 - i) ≡ bit_at (get_or source j 0) (15 - (skip + i)))
    → ((i : ℕ) → i < 16 → 16 ≤ skip + i → bit_at g (15 - i) ≡ bit_at (get_or source (j + 1) 0) (31 - (skip + i)))
    → ((b : ℕ) → b < 16 → bit_at w b ≡ combine rule (bit_at (bit_and g tone) b) (bit_at (get_or now j 0) b))
    → Combining rule tone source skip old now j → Combining rule tone source skip old (set now j w) (j + 1)
one_combined rule tone source skip old now j g w s within left right made r = record {
  done = λ k h. elim (cases_lt k (16 * j)) [
    | inl lt ↦ pixel_set_other now j w k (omega (arith, lt)) ∙ r.done k lt
    | inr ge ↦ here k ge (omega (arith, h))
  ];
  left = λ k h. pixel_set_other now j w k (omega (arith, h)) ∙ r.left k (omega (arith, h));
}
  where
    here : (k : ℕ) → 16 * j ≤ k → k < 16 * j + 16 → pixel (set now j w) k ≡ combine rule (min (pixel source (skip + k)) (bit_at tone (15 - k % 16))) (pixel old k)
    here k ge lt =
        let i : ℕ = k % 16 in
        let at : k / 16 ≡ j = omega (arith, ge, lt) in
        let small : i < 16 = omega arith in
        let whole : 16 * j + i ≡ k = omega (arith, ge, lt) in
        let bit : bit_at g (15 - i) ≡ pixel source (skip + k) = joined_bit source skip j i g (skip + k) small s (ap (λ n. skip + n) (sym whole)) left right in
        let was : bit_at (get_or now j 0) (15 - i) ≡ pixel old k = sym (pixel_is now k j at) ∙ r.left k ge in
        pixel_set now j w k within at ∙ made (15 - i) (omega arith)
        ∙ (λ t. combine rule (bit_at_and g tone (15 - i) t) (was t))
        ∙ ap (λ b. combine rule (min b (bit_at tone (15 - i))) (pixel old k)) bit

-- where source and destination lie alike
pub one_alike : (rule tone : ℕ) (source old now : List ℕ) (j w : ℕ) → j < length now
    → ((b : ℕ) → b < 16 → bit_at w b ≡ combine rule (bit_at (bit_and (get_or source j 0) tone) b) (bit_at (get_or now j 0) b))
    → Combining rule tone source 0 old now j → Combining rule tone source 0 old (set now j w) (j + 1)
one_alike rule tone source old now j w within made r =
    one_combined rule tone source 0 old now j (get_or source j 0) w (omega arith) within
    (λ i h. let e : 15 - (0 + i) ≡ 15 - i = omega arith in sym (ap (bit_at (get_or source j 0)) e)) (λ i h l. absurd (omega (arith, h, l))) made r

pub none_combined : (rule tone : ℕ) (source : List ℕ) (skip : ℕ) (old : List ℕ) → Combining rule tone source skip old old 0
none_combined rule tone source skip old = record { done = λ k h. absurd (omega (arith, h)); left = λ k h. refl }

pub all_combined : (rule tone : ℕ) (source : List ℕ) (skip : ℕ) (old now : List ℕ) (j n : ℕ) → j ≡ n → Combining rule tone source skip old now j → Combined rule tone source skip old now 0 (16 * n)
all_combined rule tone source skip old now j n e r = record {
  inside = λ k low high. r.done k (omega (arith, e, high));
  below = λ k h. absurd (omega (arith, h));
  above = λ k h. r.left k (omega (arith, e, h));
}

-- a word that was given back pixels
pub word_restored : (old : List ℕ) (at word w first n : ℕ) → at < length old → first + n ≤ 16
    → ((i : ℕ) → first ≤ i → i < first + n → bit_at w (15 - i) ≡ bit_at (get_or old at 0) (15 - i))
    → ((i : ℕ) → i < first → bit_at w (15 - i) ≡ bit_at word (15 - i))
    → ((i : ℕ) → first + n ≤ i → i < 16 → bit_at w (15 - i) ≡ bit_at word (15 - i))
    → Restored word old (set old at w) at first n
word_restored old at word w first n within some inside below above = record {
  inside = λ i low high. here i (omega (arith, high, some)) ∙ inside i low high ∙ sym (pixel_in old at i (16 * at + i) (omega (arith, high, some)) refl);
  below = λ i low. here i (omega (arith, low, some)) ∙ below i low;
  above = λ i low high. here i high ∙ above i low high;
  others = λ k ne. pixel_set_other old at w k ne;
}
  where
    here : (i : ℕ) → i < 16 → pixel (set old at w) (16 * at + i) ≡ bit_at w (15 - i)
    here i h =
        let e : (16 * at + i) / 16 ≡ at = omega (arith, h) in
        let f : (16 * at + i) % 16 ≡ i = omega (arith, h) in
        pixel_set old at w (16 * at + i) within e ∙ ap (λ m. bit_at w (15 - m)) f

-- the first words of a list

pub pixel_taken_first : (m k : ℕ) (us : List ℕ) → k < 16 * m → pixel (take m us) k ≡ pixel us k
pixel_taken_first m k us h = pixel_is (take m us) k (k / 16) refl ∙ ap (λ w. bit_at w (15 - k % 16)) (get_or-take m us (k / 16) 0 (omega (arith, h))) ∙ sym (pixel_is us k (k / 16) refl)

none_behind : (m i : ℕ) (us : List ℕ) → m ≤ i → get_or (take m us) i 0 ≡ 0
none_behind zero i us h = refl
none_behind (suc m) i [] h = refl
none_behind (suc m) zero (u ∷ us) h = absurd (omega (arith, h))
none_behind (suc m) (suc i) (u ∷ us) h = none_behind m i us (omega (arith, h))

pixel_behind : (m k : ℕ) (us vs : List ℕ) → 16 * m ≤ k → pixel (take m vs) k ≡ pixel (take m us) k
pixel_behind m k us vs h =
    let le : m ≤ k / 16 = omega (arith, h) in
    pixel_is (take m vs) k (k / 16) refl ∙ ap (λ w. bit_at w (15 - k % 16)) (none_behind m (k / 16) vs le ∙ sym (none_behind m (k / 16) us le)) ∙ sym (pixel_is (take m us) k (k / 16) refl)

pub pixel_front : (us vs : List ℕ) (k : ℕ) → k < 16 * length us → pixel (us ++ vs) k ≡ pixel us k
pixel_front us vs k h = pixel_is (us ++ vs) k (k / 16) refl ∙ ap (λ w. bit_at w (15 - k % 16)) (get_or_append_left us vs 0 (k / 16) (omega (arith, h))) ∙ sym (pixel_is us k (k / 16) refl)

pub taken_twice : (m n : ℕ) (us : List ℕ) → m ≤ n → take m (take n us) ≡ take m us
taken_twice zero n us h = refl
taken_twice (suc m) zero us h = absurd (omega (arith, h))
taken_twice (suc m) (suc n) [] h = refl
taken_twice (suc m) (suc n) (u ∷ us) h = ap (λ (vs : List ℕ). u ∷ vs) (taken_twice m n us (omega (arith, h)))

pub taken_fits : (m : ℕ) (us : List ℕ) → AllFit us → AllFit (take m us)
taken_fits m us all k = elim (cases_lt k m) [ inl lt ↦ rw (get_or-take m us k 0 lt) (all k) | inr ge ↦ rw (none_behind m k us ge) (omega arith) ]

pub taken_combined : (rule tone : ℕ) (source : List ℕ) (skip : ℕ) (old new : List ℕ) (m n : ℕ) → m ≤ n → Combined rule tone source skip old new 0 (16 * n) → Combined rule tone source skip (take m old) (take m new) 0 (16 * m)
taken_combined rule tone source skip old new m n le r = record {
  inside = λ k low h.
      let l : k < 16 * m = omega (arith, h) in
      pixel_taken_first m k new l ∙ r.inside k low (omega (arith, l, le))
      ∙ ap (combine rule (min (pixel source (skip + k)) (bit_at tone (15 - k % 16)))) (sym (pixel_taken_first m k old l));
  below = λ k h. absurd (omega (arith, h));
  above = λ k h. pixel_behind m k old new (omega (arith, h));
}

pub taken_restored : (word : ℕ) (old new : List ℕ) (at first n m : ℕ) → at < m → first + n ≤ 16 → Restored word old new at first n → Restored word (take m old) (take m new) at first n
taken_restored word old new at first n m within some r = record {
  inside = λ i low h. pixel_taken_first m (16 * at + i) new (omega (arith, within, some, h)) ∙ r.inside i low h ∙ sym (pixel_taken_first m (16 * at + i) old (omega (arith, within, some, h)));
  below = λ i h. pixel_taken_first m (16 * at + i) new (omega (arith, within, some, h)) ∙ r.below i h;
  above = λ i low h. pixel_taken_first m (16 * at + i) new (omega (arith, within, h)) ∙ r.above i low h;
  others = λ k ne. elim (cases_lt k (16 * m)) [
    | inl lt ↦ pixel_taken_first m k new lt ∙ r.others k ne ∙ sym (pixel_taken_first m k old lt)
    | inr ge ↦ pixel_behind m k old new ge
  ];
}

-- whole words that were put together, of which the first and the last were given back what is beside a stretch
module _ (rule tone : ℕ) (source : List ℕ) (skip : ℕ) (a b c d : List ℕ) (first n last w z : ℕ) (low : first < 16) (some : 0 < n) (end : first + n ≤ 16 * (last + 1)) (most : 16 * last < first + n)
    (was_first : w ≡ get_or a 0 0) (was_last : z ≡ get_or a last 0)
    (made : Combined rule tone source skip a b 0 (16 * (last + 1))) (front : Restored w b c 0 first (16 - first)) (back : Restored z c d last 0 (first + n - 16 * last)) where
  in_front : (k : ℕ) → k < first → pixel c k ≡ pixel a k
  in_front k h =
      let e : 16 * 0 + k ≡ k = omega arith in
      sym (ap (pixel c) e) ∙ front.below k h ∙ ap (λ x. bit_at x (15 - k)) was_first ∙ sym (pixel_in a 0 k k (omega (arith, h, low)) (omega arith))

  behind_front : (k : ℕ) → first ≤ k → pixel c k ≡ pixel b k
  behind_front k h = elim (cases_lt k 16) [
    | inl lt ↦ let e : 16 * 0 + k ≡ k = omega arith in sym (ap (pixel c) e) ∙ front.inside k h (omega (arith, lt)) ∙ ap (pixel b) e
    | inr ge ↦ front.others k (λ z. omega (arith, z, ge))
  ]

  before_back : (k : ℕ) → k < first + n → pixel d k ≡ pixel c k
  before_back k h = elim (cases_lt k (16 * last)) [
    | inl lt ↦ back.others k (λ z. omega (arith, z, lt))
    | inr ge ↦ let e : 16 * last + (k - 16 * last) ≡ k = omega (arith, ge) in sym (ap (pixel d) e) ∙ back.inside (k - 16 * last) (omega arith) (omega (arith, h, ge)) ∙ ap (pixel c) e
  ]

  at_back : (k : ℕ) → first + n ≤ k → pixel d k ≡ pixel a k
  at_back k h = elim (cases_lt k (16 * (last + 1))) [
    | inl lt ↦
        let e : 16 * last + (k - 16 * last) ≡ k = omega (arith, h, most) in
        sym (ap (pixel d) e) ∙ back.above (k - 16 * last) (omega (arith, h, most)) (omega (arith, lt, h, most)) ∙ ap (λ x. bit_at x (15 - (k - 16 * last))) was_last ∙ sym (pixel_in a last (k - 16 * last) k (omega (arith, lt, h, most)) (omega (arith, h, most)))
    | inr ge ↦ back.others k (λ z. omega (arith, z, ge)) ∙ behind_front k (omega (arith, h)) ∙ made.above k (omega (arith, ge))
  ]

  pub stretch_combined : Combined rule tone source skip a d first n
  stretch_combined = record {
    inside = λ k l h. before_back k h ∙ behind_front k l ∙ made.inside k (omega arith) (omega (arith, h, end));
    below = λ k h. before_back k (omega (arith, h, some)) ∙ in_front k h;
    above = at_back;
  }

-- words of a source

pub ones_stretch : (v : View) (at n : ℕ) → IsStretch v None at (replicate n 65535)
ones_stretch v at n k h l = pixel_in (replicate n 65535) (k / 16) (k % 16) k (omega arith) (omega arith) ∙ ap (λ w. bit_at w (15 - k % 16)) (all_ones n (k / 16) (let m = length_ones n in omega (arith, h, m))) ∙ ones_bit (15 - k % 16) (omega arith)
  where
    length_ones : (n : ℕ) → length {A = ℕ} (replicate n 65535) ≡ n
    length_ones zero = refl
    length_ones (suc n) = let e = length_ones n in omega (arith, e)

    all_ones : (n k : ℕ) → k < n → get_or {A = ℕ} (replicate n 65535) k 0 ≡ 65535
    all_ones zero k h = absurd (omega (arith, h))
    all_ones (suc n) zero h = refl
    all_ones (suc n) (suc k) h = all_ones n k (omega (arith, h))

-- from the word before a place on
pub words_stretch : (v : View) (o : Value) (at : ℕ) (ws : List ℕ) → 0 < at → ((k : ℕ) → k < length ws → get_or ws k 0 ≡ get_or (words v o) (at - 1 + k) 0) → IsStretch v (Some o) at ws
words_stretch v o at ws some read k h l =
    let i : ℕ = k / 16 in
    pixel_in ws i (k % 16) k (omega arith) (omega arith) ∙ ap (λ w. bit_at w (15 - k % 16)) (read i (omega (arith, h)))
    ∙ sym (pixel_in (words v o) (at - 1 + i) (k % 16) (16 * at + k - 16) (omega arith) (omega (arith, some)))

-- where none is before it
pub first_stretch : (v : View) (o : Value) (ws : List ℕ) → ((k : ℕ) → k + 1 < length ws → get_or ws (k + 1) 0 ≡ get_or (words v o) (0 + k) 0) → IsStretch v (Some o) 0 ws
first_stretch v o ws read k h l =
    let i : ℕ = k / 16 in
    let e : i - 1 + 1 ≡ i = omega (arith, l) in
    pixel_in ws i (k % 16) k (omega arith) (omega arith) ∙ ap (λ w. bit_at w (15 - k % 16)) (ap (λ j. get_or ws j 0) (sym e) ∙ read (i - 1) (omega (arith, h, e)))
    ∙ sym (pixel_in (words v o) (0 + (i - 1)) (k % 16) (16 * 0 + k - 16) (omega arith) (omega (arith, l)))

pub stretch_of_ones : (v : View) (s : Source) (at n : ℕ) → s ≡ source.Ones → IsStretch v (object_of_source s) at (replicate n 65535)
stretch_of_ones v s at n e = subst (λ x. IsStretch v (object_of_source x) at (replicate n 65535)) (sym e) (ones_stretch v at n)

pub stretch_of_words : (v : View) (s : Source) (o : Oop) (size at : ℕ) (ws : List ℕ) → s ≡ source.Words o size → (at ≡ 0 → ⊥) → ((k : ℕ) → k < length ws → get_or ws k 0 ≡ get_or (words v (value o)) (at - 1 + k) 0) → IsStretch v (object_of_source s) at ws
stretch_of_words v s o size at ws e some read = subst (λ x. IsStretch v (object_of_source x) at ws) (sym e) (words_stretch v (value o) at ws (omega (arith, some)) read)

pub stretch_of_first : (v : View) (s : Source) (o : Oop) (size at : ℕ) (ws : List ℕ) → s ≡ source.Words o size → at ≡ 0 → ((k : ℕ) → k + 1 < length ws → get_or ws (k + 1) 0 ≡ get_or (words v (value o)) (0 + k) 0) → IsStretch v (object_of_source s) at ws
stretch_of_first v s o size at ws e none read =
    subst (λ x. IsStretch v (object_of_source x) at ws) (sym e)
    (subst (λ a. IsStretch v (Some (value o)) a ws) (sym none) (first_stretch v (value o) ws read))

-- words that were read behind the first one of a list
pub read_behind_first : (xs new us : List ℕ) (k : ℕ) → 0 < length xs → length new ≡ length (take (length xs - 1) (drop 1 xs))
    → ((j : ℕ) → j < length (take (length xs - 1) (drop 1 xs)) → get_or new j 0 ≡ get_or us (0 + j) 0)
    → k + 1 < length (take 1 xs ++ (new ++ drop (length xs - 1) (drop 1 xs))) → get_or (take 1 xs ++ (new ++ drop (length xs - 1) (drop 1 xs))) (k + 1) 0 ≡ get_or us (0 + k) 0
read_behind_first xs new us k some long read h =
    let m : ℕ = length xs - 1 in
    let behind : List ℕ = drop 1 xs in
    let past : List ℕ = drop m behind in
    let d : length behind ≡ m = length-drop 1 xs in
    let t : length (take m behind) ≡ m = length-take-le m behind (omega (arith, d)) in
    let f : length (take 1 xs) ≡ 1 = length-take-le 1 xs (omega (arith, some)) in
    let p : length past ≡ length behind - m = length-drop m behind in
    let a : length (take 1 xs ++ (new ++ past)) ≡ length (take 1 xs) + length (new ++ past) = length-append (take 1 xs) (new ++ past) in
    let b : length (new ++ past) ≡ length new + length past = length-append new past in
    let within : k < m = omega (arith, h, a, b, f, p, d, t, long) in
    let e : k + 1 - 1 ≡ k = omega arith in
    get_or-append_right (take 1 xs) (new ++ past) 1 (k + 1) 0 f (omega arith) ∙ ap (λ i. get_or (new ++ past) i 0) e
    ∙ get_or_append_left new past 0 k (omega (arith, within, long, t)) ∙ read k (omega (arith, within, t))

-- words that were read, and behind the last of an object zeros
pub read_word : (n from k : ℕ) (us : List ℕ) → k < n → get_or (take n (drop from us)) k 0 ≡ get_or us (from + k) 0
read_word n from k us h = get_or-take n (drop from us) k 0 h ∙ get_or-drop from us k 0

pub none_past : (us : List ℕ) (i : ℕ) → length us ≤ i → get_or us i 0 ≡ 0
none_past [] i h = refl
none_past (u ∷ us) zero h = absurd (omega (arith, h))
none_past (u ∷ us) (suc i) h = none_past us i (omega (arith, h))

pub zero_past : (us : List ℕ) (size from n there k : ℕ) → size ≡ length us → there ≡ min (size - from) n → k < n → there ≤ k → 0 ≡ get_or us (from + k) 0
zero_past us size from n there k e is h le = sym (none_past us (from + k) (omega (arith, e, is, h, le)))

-- what stands in a list of words once some were written

laid_below : (to i : ℕ) (ws us : List ℕ) → i < to → get_or (laid to ws us) i 0 ≡ get_or us i 0
laid_below zero i ws us l = absurd (omega (arith, l))
laid_below (suc to) i ws [] l = refl
laid_below (suc to) zero ws (u ∷ us) l = refl
laid_below (suc to) (suc i) ws (u ∷ us) l = laid_below to i ws us (omega (arith, l))

laid_above : (to i : ℕ) (ws us : List ℕ) → to + length ws ≤ i → get_or (laid to ws us) i 0 ≡ get_or us i 0
laid_above zero i [] us l = refl
laid_above zero i (w ∷ ws) [] l = refl
laid_above zero zero (w ∷ ws) (u ∷ us) l = absurd (omega (arith, l))
laid_above zero (suc i) (w ∷ ws) (u ∷ us) l = laid_above zero i ws us (omega (arith, l))
laid_above (suc to) i ws [] l = refl
laid_above (suc to) zero ws (u ∷ us) l = absurd (omega (arith, l))
laid_above (suc to) (suc i) ws (u ∷ us) l = laid_above to i ws us (omega (arith, l))

laid_in : (to i : ℕ) (ws us : List ℕ) → i < length ws → to + length ws ≤ length us → get_or (laid to ws us) (to + i) 0 ≡ get_or ws i 0
laid_in zero i [] us l m = absurd (omega (arith, l))
laid_in zero i (w ∷ ws) [] l m = absurd (omega (arith, m))
laid_in zero zero (w ∷ ws) (u ∷ us) l m = refl
laid_in zero (suc i) (w ∷ ws) (u ∷ us) l m =
    let e : 0 + suc i ≡ suc (0 + i) = omega arith in
    ap (λ j. get_or (w ∷ laid 0 ws us) j 0) e ∙ laid_in zero i ws us (omega (arith, l)) (omega (arith, m))
laid_in (suc to) i ws [] l m = absurd (omega (arith, m))
laid_in (suc to) i ws (u ∷ us) l m =
    let e : suc to + i ≡ suc (to + i) = omega arith in
    ap (λ j. get_or (u ∷ laid to ws us) j 0) e ∙ laid_in to i ws us l (omega (arith, m))

pixel_laid : (at k : ℕ) (ws us : List ℕ) → 16 * at ≤ k → k < 16 * at + 16 * length ws → at + length ws ≤ length us → pixel (laid at ws us) k ≡ pixel ws (k - 16 * at)
pixel_laid at k ws us low high l =
    let i : ℕ = k / 16 - at in
    let e : k / 16 ≡ at + i = omega (arith, low) in
    pixel_in (laid at ws us) (at + i) (k % 16) k (omega arith) (omega (arith, e))
    ∙ ap (λ w. bit_at w (15 - k % 16)) (laid_in at i ws us (omega (arith, low, high)) l)
    ∙ sym (pixel_in ws i (k % 16) (k - 16 * at) (omega arith) (omega (arith, low)))

pixel_beside : (at k : ℕ) (ws us : List ℕ) → (k / 16 < at) ⊎ (at + length ws ≤ k / 16) → pixel (laid at ws us) k ≡ pixel us k
unfolding pixel
pixel_beside at k ws us out = ap (λ w. bit_at w (15 - k % 16)) (elim out [ inl lt ↦ laid_below at (k / 16) ws us lt | inr ge ↦ laid_above at (k / 16) ws us ge ])

pixel_taken : (at k n : ℕ) (us : List ℕ) → 16 * at ≤ k → k < 16 * at + 16 * n → pixel (take n (drop at us)) (k - 16 * at) ≡ pixel us k
pixel_taken at k n us low high =
    let i : ℕ = k / 16 - at in
    let e : at + i ≡ k / 16 = omega (arith, low) in
    pixel_in (take n (drop at us)) i (k % 16) (k - 16 * at) (omega arith) (omega (arith, low))
    ∙ ap (λ w. bit_at w (15 - k % 16)) (get_or-take n (drop at us) i 0 (omega (arith, low, high)) ∙ get_or-drop at us i 0)
    ∙ sym (pixel_in us (at + i) (k % 16) k (omega arith) (omega (arith, e)))

laid_fits : (to : ℕ) (ws us : List ℕ) → AllFit ws → AllFit us → AllFit (laid to ws us)
laid_fits zero [] us a b k = b k
laid_fits zero (w ∷ ws) [] a b k = b k
laid_fits zero (w ∷ ws) (u ∷ us) a b zero = a 0
laid_fits zero (w ∷ ws) (u ∷ us) a b (suc k) = laid_fits zero ws us (λ j. a (suc j)) (λ j. b (suc j)) k
laid_fits (suc to) ws [] a b k = b k
laid_fits (suc to) ws (u ∷ us) a b zero = b 0
laid_fits (suc to) ws (u ∷ us) a b (suc k) = laid_fits to ws us a (λ j. b (suc j)) k

view_is : (v w : View) (o : Value) (us : List ℕ) → w.objects ≡ with_units_in v.objects o us → w.held ≡ v.held → w.head ≡ v.head → w ≡ with_words v o us
view_is v w o us a b c = rw (← a, ← b, ← c) refl

-- a stretch of the destination was written
module _ (rule tone : ℕ) (source : Option Value) (dest : Value) (old new : View) (p q n : ℕ) (ws ds taken : List ℕ) (has : HasWords old dest) (some : 0 < n) (few : n ≤ 2032)
    (long : length ds ≡ (p % 16 + n + 15) / 16) (room : p + n ≤ 16 * length (words old dest))
    (read : (k : ℕ) → k < 16 * (length ds + 1) → 16 ≤ 16 * ((q + 16 - p % 16) / 16) + k → pixel ws k ≡ pixel_from old source (16 * ((q + 16 - p % 16) / 16) + k - 16))
    (was : taken ≡ take (length ds) (drop (p / 16) (words old dest)))
    (made : Combined rule tone ws ((q + 16 - p % 16) % 16) taken ds (p % 16) n) (fit : AllFit ds)
    (objects : new.objects ≡ with_units_in old.objects dest (laid (p / 16) ds (words old dest))) (held : new.held ≡ old.held) (head : new.head ≡ old.head) where
  abbrev at : ℕ
  at = p / 16

  is : new ≡ with_words old dest (laid at ds (words old dest))
  is = view_is old new dest (laid at ds (words old dest)) objects held head

  stored : words new dest ≡ laid at ds (words old dest)
  stored = ap (λ v. words v dest) is ∙ words_here old dest (laid at ds (words old dest)) has.live

  within : at + length ds ≤ length (words old dest)
  within = omega (arith, long, room, some)

  others_stay : (o : Value) → o ≢ dest → words new o ≡ words old o
  others_stay o d = ap (λ v. words v o) is ∙ words_other old dest (laid at ds (words old dest)) has.live o d

  same_size : (o : Value) → length (words new o) ≡ length (words old o)
  same_size o = elim (same_or_not o dest) [
    | inl e ↦ rw e (ap (λ (l : List ℕ). length l) stored ∙ length-laid at ds (words old dest))
    | inr d ↦ ap (λ (l : List ℕ). length l) (others_stay o d)
  ]

  -- a pixel of the words that were written
  written : (k : ℕ) → 16 * at ≤ k → k < 16 * at + 16 * length ds → pixel (words new dest) k ≡ pixel ds (k - 16 * at)
  written k low high = ap (λ us. pixel us k) stored ∙ pixel_laid at k ds (words old dest) low high within

  before : (k : ℕ) → 16 * at ≤ k → k < 16 * at + 16 * length ds → pixel taken (k - 16 * at) ≡ pixel (words old dest) k
  before k low high = ap (λ us. pixel us (k - 16 * at)) was ∙ pixel_taken at k (length ds) (words old dest) low high

  outside : (k : ℕ) → (k < p) ⊎ (p + n ≤ k) → pixel (words new dest) k ≡ pixel (words old dest) k
  outside k out = elim (cases_lt k (16 * at)) [
    | inl lt ↦ ap (λ us. pixel us k) stored ∙ pixel_beside at k ds (words old dest) (inl (omega (arith, lt)))
    | inr low ↦ elim (cases_lt k (16 * at + 16 * length ds)) [
      | inr ge ↦ ap (λ us. pixel us k) stored ∙ pixel_beside at k ds (words old dest) (inr (omega (arith, ge)))
      | inl high ↦ written k low high ∙ elim out [ inl lt ↦ made.below (k - 16 * at) (omega (arith, lt, low)) | inr ge ↦ made.above (k - 16 * at) (omega (arith, ge)) ] ∙ before k low high
    ]
  ]

  inside : (i : ℕ) → i < n → pixel (words new dest) (p + i) ≡ combine rule (shaded tone source old p q i) (pixel (words old dest) (p + i))
  inside i h =
      let k : ℕ = p + i - 16 * at in
      let skip : ℕ = (q + 16 - p % 16) % 16 in
      let low : 16 * at ≤ p + i = omega arith in
      let high : p + i < 16 * at + 16 * length ds = omega (arith, long, h) in
      let s : pixel ws (skip + k) ≡ pixel_from old source (16 * ((q + 16 - p % 16) / 16) + (skip + k) - 16) = read (skip + k) (omega (arith, long, h)) (omega arith) in
      let e : 16 * ((q + 16 - p % 16) / 16) + (skip + k) - 16 ≡ q + i = omega arith in
      let f : k % 16 ≡ (p + i) % 16 = omega arith in
      written (p + i) low high ∙ made.inside k (omega arith) (omega (arith, h))
      ∙ (λ t. combine rule (min ((s ∙ ap (pixel_from old source) e) t) (bit_at tone (15 - f t))) (before (p + i) low high t))

  pub stretch_copied : Copied rule tone source dest old new p q n
  stretch_copied = record {
    inside = inside;
    below = λ k lt. outside k (inl lt);
    above = λ k ge. outside k (inr ge);
    others = others_stay;
    size = same_size;
    fits = λ all. subst AllFit (sym stored) (laid_fits at ds (words old dest) fit all);
    there = λ o h. rw is (words_there old dest (laid at ds (words old dest)) has.live o h);
    rest = is ∙ ap (with_words old dest) (sym stored);
  }
