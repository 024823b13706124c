-- Which objects are instances of a class.
use Rattle.std.proofs.Common.{◌≡◌, ◌≢◌, ℕ, ◌/◌, ◌<◌, ◌≤◌, Bool, true, false, ap, sym, ◌∙◌, subst, inl, inr, arith, refl}
use Rattle.std.specs.Prelude.{◌&&◌, ◌==◌}
use Rattle.std.proofs.lemmas.Bool.{cases_lt, cases_eq}
use Rattle.std.proofs.lemmas.Bool.Decides.{nat_tests}
use Rattle.st_model.specs.declared.oop.Oop.{Oop}
use Rattle.st_model.specs.Values.{Value, Small, Ref, value, value_of, is_small}
use Rattle.st_model.specs.Table.{Table}
use Rattle.st_model.specs.View.{is_live, object_of, is_instance}
use Rattle.st_model.proofs.Making.{live_even}
use Rattle.st_model.proofs.Pointers.{value_of-even, even_word}

module _ (t : Table) where
  pub gone_instance : (c v : Value) → is_live t v ≡ false → is_instance t c v ≡ false
  unfolding is_instance
  gone_instance (Small c) v h = refl
  gone_instance (Ref c) v h = ap (λ b. b && ((object_of t v).class == c)) h

  pub live_instance : (c v : Value) → is_live t v ≡ true → c ≡ Ref (object_of t v).class → is_instance t c v ≡ true
  unfolding is_instance
  live_instance (Small c) v h e = cc
  live_instance (Ref c) v h e =
      let same : (object_of t v).class ≡ c = cc in
      let test : ((object_of t v).class == c) ≡ true = grind (arith, nat_tests) in
      λ i. h i && test i

  pub other_instance : (c d v : Value) → d ≡ Ref (object_of t v).class → d ≢ c → is_instance t c v ≡ false
  unfolding is_instance
  other_instance (Small c) d v e n = refl
  other_instance (Ref c) d v e n =
      let differ : (object_of t v).class ≢ c = λ q. n (e ∙ ap Ref q) in
      let test : ((object_of t v).class == c) ≡ false = grind (arith, nat_tests) in
      ap (λ b. is_live t v && b) test ∙ none (is_live t v)
    where
      none : (b : Bool) → (b && false) ≡ false
      none true = refl
      none false = refl

-- two words that name the same object are the same
pub same_word : (w u n : ℕ) → value_of w ≡ Ref n → value_of u ≡ Ref n → w ≡ u
same_word w u n p q =
    let first : is_small (value_of w) ≡ false = ap is_small p in
    let second : is_small (value_of u) ≡ false = ap is_small q in
    let a = value_of-even w first in
    let b = value_of-even u second in
    let half : w / 2 ≡ u / 2 = halves (sym a ∙ p) (sym b ∙ q) in
    let even = even_word w first in
    let even' = even_word u second in
    omega (arith, half, even, even')
  where
    halves : {x y z : ℕ} → Ref x ≡ Ref z → Ref y ≡ Ref z → x ≡ y
    halves e f = cc

-- none of the class is above `start` up to `after`
pub record HasNone (t : Table) (class : Value) (start after : ℕ) : Type 0 where
  pub on : start ≤ after
  pub none : (q : Oop) → start < q.0 → q.0 ≤ after → is_instance t class (value q) ≡ false

-- of a live object that follows the last one that was looked at, and of what is below it
module _ (t : Table) (class : Value) (start after : ℕ) (before : (q : Oop) → start < q.0 → q.0 ≤ after → is_instance t class (value q) ≡ false) where
  -- none is below it
  pub none_below : (o p : Oop) → ((q : Oop) → after < q.0 → q.0 < o.0 → is_live t (value q) ≡ false) → start < p.0 → p.0 < o.0 → is_instance t class (value p) ≡ false
  none_below o p least low high = elim (cases_lt after p.0) [
    | inl above ↦ gone_instance t class (value p) (least p above high)
    | inr within ↦ before p low within
  ]

  -- nor up to it, where it is of another class
  pub none_through : (o p : Oop) → ((q : Oop) → after < q.0 → q.0 < o.0 → is_live t (value q) ≡ false) → is_instance t class (value o) ≡ false → start < p.0 → p.0 ≤ o.0 → is_instance t class (value p) ≡ false
  none_through o p least other low high = elim (cases_eq p.0 o.0) [
    | inl e ↦ subst (λ w. is_instance t class (value_of w) ≡ false) (sym e) other
    | inr d ↦ none_below o p least low (omega (arith, high, d))
  ]

  -- nor anywhere, where none is live
  pub none_left : (p : Oop) → ((q : Oop) → after < q.0 → is_live t (value q) ≡ false) → start < p.0 → is_instance t class (value p) ≡ false
  none_left p none low = elim (cases_lt after p.0) [
    | inl above ↦ gone_instance t class (value p) (none p above)
    | inr within ↦ before p low within
  ]

-- an object whose class another word names is none of the class
pub other_class : (t : Table) (found class : ℕ) (v : Value) → value_of found ≡ Ref (object_of t v).class → found ≢ class → is_instance t (value_of class) v ≡ false
other_class t found class v is differ = other_instance t (value_of class) (value_of found) v is (λ q. differ (same_word found class (object_of t v).class is (sym q ∙ is)))

-- a pointer of a live object is twice its place
pub live_half : (t : Table) (o : Oop) → is_live t (value o) ≡ true → is_live t (Ref (o.0 / 2)) ≡ true
live_half t o live = subst (λ (v : Value). is_live t v ≡ true) (value_of-even o.0 (live_even t (value o) live)) live
