-- Pixels of a word, and pixels that were copied to the left or to the right of others.
use Rattle.std.proofs.Common.{◌≡◌, ◌≢◌, ℕ, ◌+◌, ◌-◌, ◌/◌, ◌%◌, ◌<◌, ◌≤◌, min, arith, refl, sym, ◌∙◌, ap, Bool, true, false, List, length, get_or, set, ◌⊎◌, inl, inr, get_or-set_same, get_or-set_other, Option, Some, None}
use Rattle.std.specs.Int.{bit_at}
use Rattle.std.proofs.lemmas.Bool.{cases_order}
use Rattle.std.specs.Prelude.{◌==◌, if◌then◌else◌, unwrap_or}
use Rattle.std.proofs.lemmas.Bool.Decides.{nat_tests}
use Rattle.st_model.specs.declared.oop.Oop.{Oop}
use Rattle.st_model.specs.Values.{Value, Small, Ref, value, value_of, is_small}
use Rattle.st_model.proofs.Words.{is_small-value_of}
use Rattle.st_model.specs.View.{View}
use Rattle.st_model.specs.Pixels.{pixel, combine}
use Rattle.st_model.proofs.Transfers.{same_or_not}
use Rattle.st_bitblt.specs.declared.source.Source.{Source}
use Rattle.st_bitblt.specs.declared.source.Source.TheVariants as source
use Rattle.st_bitblt.specs.inside.Words.{words, HasWords, with_words}
use Rattle.st_bitblt.specs.inside.Copied.{Put, Copied, shaded, pixel_from, HasSource, object_of_source}
use Rattle.st_bitblt.proofs.Words.{words_twice, words_same}

pub pixel_is : (ws : List ℕ) (k at : ℕ) → k / 16 ≡ at → pixel ws k ≡ bit_at (get_or ws at 0) (15 - k % 16)
unfolding pixel
pixel_is ws k at e = ap (λ x. bit_at (get_or ws x 0) (15 - k % 16)) e

pub pixel_set : (ws : List ℕ) (at w k : ℕ) → at < length ws → k / 16 ≡ at → pixel (set ws at w) k ≡ bit_at w (15 - k % 16)
pixel_set ws at w k h e = pixel_is (set ws at w) k at e ∙ ap (λ x. bit_at x (15 - k % 16)) (get_or-set_same ws at w 0 h)

pub pixel_set_other : (ws : List ℕ) (at w k : ℕ) → k / 16 ≢ at → pixel (set ws at w) k ≡ pixel ws k
unfolding pixel
pixel_set_other ws at w k h = ap (λ x. bit_at x (15 - k % 16)) (get_or-set_other ws at (k / 16) w 0 h)

-- the source's pixel at a place that was not written
pub source_kept : (rule : ℕ) (f : ℕ → ℕ) (source : Option Value) (dest : Value) (old new : View) (p n k : ℕ) → Put rule dest f old new p n
    → (source ≡ Some dest → (k < p) ⊎ (p + n ≤ k)) → pixel_from new source k ≡ pixel_from old source k
source_kept rule f None dest old new p n k r out = refl
source_kept rule f (Some o) dest old new p n k r out =
    elim (same_or_not o dest) [
      | inl e ↦
          ap (λ x. pixel (words new x) k) e ∙ elim (out (ap Some e)) [ inl lt ↦ r.below k lt | inr ge ↦ r.above k ge ] ∙ ap (λ x. pixel (words old x) k) (sym e)
      | inr e ↦ ap (λ ws. pixel ws k) (r.others o e)
    ]

-- two changes of one object are the second one
pub rest_twice : (dest : Value) (old mid new : View) → HasWords old dest → mid ≡ with_words old dest (words mid dest) → new ≡ with_words mid dest (words new dest) → new ≡ with_words old dest (words new dest)
rest_twice dest old mid new has a b = b ∙ ap (λ v. with_words v dest (words new dest)) a ∙ words_twice old dest (words mid dest) has.live (words new dest)

-- Two parts of a copy: the second one where the first was made, and both within its pixels.
copied_twice : (rule tone : ℕ) (source : Option Value) (dest : Value) (old mid new : View) (p q n pa qa na pb qb nb : ℕ) → HasWords old dest
    → Copied rule tone source dest old mid pa qa na → Copied rule tone source dest mid new pb qb nb → p ≤ pa → p ≤ pb → pa + na ≤ p + n → pb + nb ≤ p + n
    → ((i : ℕ) → i < n → pixel (words new dest) (p + i) ≡ combine rule (shaded tone source old p q i) (pixel (words old dest) (p + i)))
    → Copied rule tone source dest old new p q n
copied_twice rule tone source dest old mid new p q n pa qa na pb qb nb has a b la lb ha hb inside = record {
  inside = inside;
  below = λ k lt. b.below k (omega arith) ∙ a.below k (omega arith);
  above = λ k ge. b.above k (omega arith) ∙ a.above k (omega arith);
  others = λ o h. b.others o h ∙ a.others o h;
  size = λ o. b.size o ∙ a.size o;
  fits = λ all. b.fits (a.fits all);
  there = λ o h. b.there o (a.there o h);
  rest = rest_twice dest old mid new has a.rest b.rest;
}

-- a pixel of what is copied behind n others, by its place in the whole
inside_behind : (rule tone : ℕ) (source : Option Value) (dest : Value) (old new : View) (p q n m : ℕ) → Copied rule tone source dest old new (p + n) (q + n) m → (i : ℕ) → i < n + m → n ≤ i
    → pixel (words new dest) (p + i) ≡ combine rule (min (pixel_from old source (q + i)) (bit_at tone (15 - (p + i) % 16))) (pixel (words old dest) (p + i))
inside_behind rule tone source dest old new p q n m c i hi ge =
    let e : p + n + (i - n) ≡ p + i = omega arith in
    let f : q + n + (i - n) ≡ q + i = omega arith in
    let x : pixel (words new dest) (p + n + (i - n)) ≡ combine rule (min (pixel_from old source (q + n + (i - n))) (bit_at tone (15 - (p + n + (i - n)) % 16))) (pixel (words old dest) (p + n + (i - n))) = c.inside (i - n) (omega arith) in
    rw (e, f) at x

-- To the right: the first n pixels, and then the next m. Where the source is the destination, it must not begin before it.
pub copied_up : (rule tone : ℕ) (source : Option Value) (dest : Value) (old mid new : View) (p q n m : ℕ) → HasWords old dest → (source ≡ Some dest → p ≤ q)
    → Copied rule tone source dest old mid p q n → Copied rule tone source dest mid new (p + n) (q + n) m → Copied rule tone source dest old new p q (n + m)
copied_up rule tone source dest old mid new p q n m has dir a b =
    copied_twice rule tone source dest old mid new p q (n + m) p q n (p + n) (q + n) m has a b (omega arith) (omega arith) (omega arith) (omega arith)
    (λ i hi. elim (cases_order i n) [
      | inl e ↦ second i hi (omega arith)
      | inr s ↦ elim s [ inl lt ↦ b.below (p + i) (omega arith) ∙ a.inside i lt | inr gt ↦ second i hi (omega arith) ]
    ])
  where
    second : (i : ℕ) → i < n + m → n ≤ i → pixel (words new dest) (p + i) ≡ combine rule (shaded tone source old p q i) (pixel (words old dest) (p + i))
    second i hi ge =
        inside_behind rule tone source dest mid new p q n m b i hi ge
        ∙ ap (λ d. combine rule (min (pixel_from mid source (q + i)) (bit_at tone (15 - (p + i) % 16))) d) (a.above (p + i) (omega arith))
        ∙ ap (λ s. combine rule (min s (bit_at tone (15 - (p + i) % 16))) (pixel (words old dest) (p + i))) (source_kept rule _ source dest old mid p n (q + i) a (λ h. inr (let d : p ≤ q = dir h in omega arith)))

-- To the left: the last m pixels, and then the n before them. Where the source is the destination, it must not lie ahead.
pub copied_down : (rule tone : ℕ) (source : Option Value) (dest : Value) (old mid new : View) (p q n m : ℕ) → HasWords old dest → (source ≡ Some dest → q ≤ p)
    → Copied rule tone source dest old mid (p + n) (q + n) m → Copied rule tone source dest mid new p q n → Copied rule tone source dest old new p q (n + m)
copied_down rule tone source dest old mid new p q n m has dir a b =
    copied_twice rule tone source dest old mid new p q (n + m) (p + n) (q + n) m p q n has a b (omega arith) (omega arith) (omega arith) (omega arith)
    (λ i hi. elim (cases_order i n) [
      | inl e ↦ first i hi (omega arith)
      | inr s ↦ elim s [
        | inr gt ↦ first i hi (omega arith)
        | inl lt ↦
            b.inside i lt
            ∙ ap (λ d. combine rule (min (pixel_from mid source (q + i)) (bit_at tone (15 - (p + i) % 16))) d) (a.below (p + i) (omega arith))
            ∙ ap (λ s. combine rule (min s (bit_at tone (15 - (p + i) % 16))) (pixel (words old dest) (p + i))) (source_kept rule _ source dest old mid (p + n) m (q + i) a (λ h. inl (let d : q ≤ p = dir h in omega arith)))
      ]
    ])
  where
    first : (i : ℕ) → i < n + m → n ≤ i → pixel (words new dest) (p + i) ≡ combine rule (shaded tone source old p q i) (pixel (words old dest) (p + i))
    first i hi ge = b.above (p + i) (omega arith) ∙ inside_behind rule tone source dest old mid p q n m a i hi ge

-- nothing was copied yet
pub copied_none : (rule tone : ℕ) (source : Option Value) (dest : Value) (old : View) (p q n : ℕ) → HasWords old dest → n ≡ 0 → Copied rule tone source dest old old p q n
copied_none rule tone source dest old p q n has e = record {
  inside = λ i hi. absurd (omega arith);
  below = λ k lt. refl;
  above = λ k ge. refl;
  others = λ o h. refl;
  size = λ o. refl;
  fits = λ all. all;
  there = λ o h. h;
  rest = words_same old dest has.live;
}

-- the same, at places that are equal by arithmetic
pub copied_down_at : (rule tone : ℕ) (source : Option Value) (dest : Value) (old mid new : View) (p q n m p2 q2 k : ℕ) → HasWords old dest → p2 ≡ p + n → q2 ≡ q + n → k ≡ n + m → (source ≡ Some dest → q ≤ p)
    → Copied rule tone source dest old mid p2 q2 m → Copied rule tone source dest mid new p q n → Copied rule tone source dest old new p q k
copied_down_at rule tone source dest old mid new p q n m p2 q2 k has e f h dir a b =
    rw h (copied_down rule tone source dest old mid new p q n m has dir (rw (e, f) at a) b)

-- a source that is there stays there
pub source_there : (rule : ℕ) (f : ℕ → ℕ) (s : Source) (dest : Value) (old new : View) (p n : ℕ) → Put rule dest f old new p n → HasSource old s → HasSource new s
source_there rule f source.Ones dest old new p n r h = tt
source_there rule f (source.Words o k) dest old new p n r h = (r.there (value o) h.0, h.1 ∙ sym (r.size (value o)))

half_of : Value → ℕ
half_of (Small n) = n
half_of (Ref n) = n

half_value : (w : ℕ) → half_of (value_of w) ≡ w / 2
unfolding value_of half_of
half_value w = by_test (w % 2 == 1)
  where
    by_test : (b : Bool) → half_of (if b then Small (w / 2) else Ref (w / 2)) ≡ w / 2
    by_test true = refl
    by_test false = refl

-- other pointers have other values
pub value_of-apart : (a b : ℕ) → a ≢ b → value_of a ≢ value_of b
value_of-apart a b d e =
    let h : a / 2 ≡ b / 2 = sym (half_value a) ∙ ap half_of e ∙ half_value b in
    let s : (a % 2 == 1) ≡ (b % 2 == 1) = sym (is_small-value_of a) ∙ ap is_small e ∙ is_small-value_of b in
    d (grind (arith, nat_tests))

some_is : {A : Type 0} (a b : A) → Some a ≡ Some b → a ≡ b
some_is a b e = ap (λ x. unwrap_or x a) e

pub not_same : (s : Source) (o dest : Oop) (n : ℕ) → s ≡ source.Words o n → o.0 ≢ dest.0 → object_of_source s ≢ Some (value dest)
not_same s o dest n e d h = value_of-apart o.0 dest.0 d (some_is (value o) (value dest) (sym (ap object_of_source e) ∙ h))
