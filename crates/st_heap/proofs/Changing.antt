-- What a change of what is stored is for the table of objects.
use Rattle.std.proofs.Common.{◌≡◌, ◌≢◌, ℕ, zero, suc, ◌+◌, ◌*◌, ◌/◌, ◌%◌, ◌<◌, ◌≤◌, Bool, true, false, List, [], ◌∷◌, Option, Some, None, length, set, is_some, refl, sym, ap, ◌∙◌, subst, arith, inl, inr, ◌⊎◌}
use Rattle.std.specs.Prelude.{◌==◌, if◌then◌else◌}
use Rattle.std.specs.Option.{option_map}
use Rattle.std.proofs.lemmas.Bool.Decides.{nat_tests}
use Rattle.std.proofs.lemmas.List.{map-set, get_or-set_same, get_or-set_other}
use Rattle.st_model.specs.declared.oop.Oop.{Oop}
use Rattle.st_model.specs.Values.{Value, Small, Ref, value, value_of, is_small}
use Rattle.st_model.specs.Objects.{Object, one, words_of, with_field, object_with_unit}
use Rattle.st_model.specs.Table.{Table, entry, changed, total_used, first_free}
use Rattle.st_model.specs.View.{is_live, object_of, with_object, with_stored, with_unit, with_exchanged}
use Rattle.st_model.proofs.Exchanging.{exchanged_is}
use Rattle.st_model.proofs.Making.{first_free_is}
use Rattle.st_model.proofs.Pointers.{value_of-even, even_word}
use Rattle.st_model.proofs.TableLemmas.{first_free-start, first_free-none}
use Rattle.st_heap.specs.inside.Stored.{Stored, slot, IsUnused, IsLeastUnused, total, one_stored, stored_words, exchanged_stored}
use Rattle.st_heap.specs.inside.Forms.{object_from, objects_in, IsSound, AllSound}
use Rattle.st_heap.proofs.Forming.{words_of-stored}
use Rattle.st_heap.proofs.Living.{entry-stored, is_some-entry, live_ref, even_value, IsKnown}

-- what stands at a place after one was set
set_cases : (all : List (Option Stored)) (k : ℕ) (x : Option Stored) (q : ℕ) (s : Stored) → slot (set all k x) q ≡ Some s → (x ≡ Some s) ⊎ (slot all q ≡ Some s)
set_cases [] k x q s h = inr h
set_cases (y ∷ all) zero x zero s h = inl h
set_cases (y ∷ all) zero x (suc q) s h = inr h
set_cases (y ∷ all) (suc k) x zero s h = inr h
set_cases (y ∷ all) (suc k) x (suc q) s h = set_cases all k x q s h

pub sound_set : (all : List (Option Stored)) (k : ℕ) (t : Stored) → AllSound all → IsSound t → AllSound (set all k (Some t))
sound_set all k t sound new q s h = elim (set_cases all k (Some t) q s h) [
  | inl e ↦ subst IsSound (same e) new
  | inr e ↦ sound q s e
]
  where
    same : {x y : Stored} → Some x ≡ Some y → x ≡ y
    same e = cc

pub sound_without : (all : List (Option Stored)) (k : ℕ) → AllSound all → AllSound (set all k None)
sound_without all k sound q s h = elim (set_cases all k None q s h) [
  | inl e ↦ let no : None ≡ Some s = e in cc
  | inr e ↦ sound q s e
]

pub changed-set : (t : Table) (i : ℕ) (a o : Object) → entry t i ≡ Some a → changed t i o ≡ set t i (Some o)
changed-set [] i a o e = cc
changed-set (None ∷ t) zero a o e = cc
changed-set (Some b ∷ t) zero a o e = refl
changed-set (None ∷ t) (suc i) a o e = ap (λ u. None ∷ u) (changed-set t i a o e)
changed-set (Some b ∷ t) (suc i) a o e = ap (λ u. Some b ∷ u) (changed-set t i a o e)

pub set_objects : (all : List (Option Stored)) (k : ℕ) (x : Option Stored) → objects_in (set all k x) ≡ set (objects_in all) k (option_map object_from x)
set_objects all k x = map-set (option_map object_from) all k x

entry_is : (all : List (Option Stored)) (k : ℕ) (s : Stored) → slot all k ≡ Some s → entry (objects_in all) k ≡ Some (object_from s)
entry_is all k s is = entry-stored all k ∙ ap (option_map object_from) is

pub changed_stored : (all : List (Option Stored)) (k : ℕ) (s t : Stored) (o : Object) → slot all k ≡ Some s → object_from t ≡ o → objects_in (set all k (Some t)) ≡ changed (objects_in all) k o
changed_stored all k s t o is same = set_objects all k (Some t) ∙ ap (λ p. set (objects_in all) k (Some p)) same ∙ sym (changed-set (objects_in all) k (object_from s) o (entry_is all k s is))

module _ (all : List (Option Stored)) (o : Oop) (s t : Stored) (known : IsKnown all o s) where
  even : value o ≡ Ref (o.0 / 2)
  even = even_value all o.0 known.has.even

  object_is : object_of (objects_in all) (Ref (o.0 / 2)) ≡ object_from s
  object_is = ap (object_of (objects_in all)) (sym even) ∙ known.is

  -- another field
  pub stored_field : (i : ℕ) (x : Value) → object_from t ≡ with_field (object_from s) i x → objects_in (set all (o.0 / 2) (Some t)) ≡ with_stored (objects_in all) (value o) i x
  unfolding with_stored
  stored_field i x same =
      changed_stored all (o.0 / 2) s t (with_field (object_from s) i x) known.slot same
      ∙ ap (λ b. changed (objects_in all) (o.0 / 2) (with_field b i x)) (sym object_is)
      ∙ ap (λ v. with_stored (objects_in all) v i x) (sym even)

  -- another unit
  pub stored_unit : (i x : ℕ) → object_from t ≡ object_with_unit (object_from s) i x → objects_in (set all (o.0 / 2) (Some t)) ≡ with_unit (objects_in all) (value o) i x
  unfolding with_unit
  stored_unit i x same =
      changed_stored all (o.0 / 2) s t (object_with_unit (object_from s) i x) known.slot same
      ∙ ap (λ b. changed (objects_in all) (o.0 / 2) (object_with_unit b i x)) (sym object_is)
      ∙ ap (λ v. with_unit (objects_in all) v i x) (sym even)

-- what two pointers exchange
module _ (all : List (Option Stored)) (a b : Oop) (s t : Stored) (first : IsKnown all a s) (second : IsKnown all b t) where
  still : slot (set all (a.0 / 2) (Some t)) (b.0 / 2) ≡ Some t
  still = by_place (b.0 / 2 == a.0 / 2) refl
    where
      inside : (xs : List (Option Stored)) (k : ℕ) (u : Stored) → slot xs k ≡ Some u → k < length xs
      inside [] k u is = cc
      inside (x ∷ xs) zero u is = omega arith
      inside (x ∷ xs) (suc k) u is = let l = inside xs k u is in omega (arith, l)

      by_place : (c : Bool) → (b.0 / 2 == a.0 / 2) ≡ c → slot (set all (a.0 / 2) (Some t)) (b.0 / 2) ≡ Some t
      by_place true m = let z : b.0 / 2 ≡ a.0 / 2 = grind (arith, m) in ap (slot (set all (a.0 / 2) (Some t))) z ∙ get_or-set_same all (a.0 / 2) (Some t) None (inside all (a.0 / 2) s first.slot)
      by_place false m = let ne : b.0 / 2 ≢ a.0 / 2 = λ z. grind (arith, m, z) in get_or-set_other all (a.0 / 2) (b.0 / 2) (Some t) None ne ∙ second.slot

  pub exchanged_objects : objects_in (exchanged_stored all (a.0 / 2) (b.0 / 2)) ≡ with_exchanged (objects_in all) (value a) (value b)
  unfolding with_exchanged
  exchanged_objects =
      (λ i. objects_in (set (set all (a.0 / 2) (second.slot i)) (b.0 / 2) (first.slot i)))
      ∙ changed_stored (set all (a.0 / 2) (Some t)) (b.0 / 2) t s (object_from s) still refl
      ∙ ap (λ x. changed x (b.0 / 2) (object_from s)) (changed_stored all (a.0 / 2) s t (object_from t) first.slot refl)
      ∙ sym (exchanged_is (objects_in all) (a.0 / 2) (b.0 / 2) (object_from s) (object_from t) (entry_is all (a.0 / 2) s first.slot) (entry_is all (b.0 / 2) t second.slot))
      ∙ (λ i. with_exchanged (objects_in all) (sym (even_value all a.0 first.has.even) i) (sym (even_value all b.0 second.has.even) i))

  pub exchanged_sound : AllSound all → AllSound (exchanged_stored all (a.0 / 2) (b.0 / 2))
  exchanged_sound sound = subst (λ (xs : List (Option Stored)). AllSound xs) (λ i. set (set all (a.0 / 2) (sym second.slot i)) (b.0 / 2) (sym first.slot i))
      (sound_set (set all (a.0 / 2) (Some t)) (b.0 / 2) s (sound_set all (a.0 / 2) t sound second.sound) first.sound)

-- the sums over the objects are those over what is stored
pub total_objects : (w : Object → ℕ) (v : Stored → ℕ) (all : List (Option Stored)) → ((k : ℕ) (s : Stored) → slot all k ≡ Some s → w (object_from s) ≡ v s) → total_used w (objects_in all) ≡ total v all
total_objects w v [] h = refl
total_objects w v (None ∷ all) h = total_objects w v all (λ k. h (suc k))
total_objects w v (Some s ∷ all) h = let a = h 0 s refl in let b = total_objects w v all (λ k. h (suc k)) in omega (arith, a, b)

pub total_words : (all : List (Option Stored)) → AllSound all → total_used words_of (objects_in all) ≡ total stored_words all
total_words all sound = total_objects words_of stored_words all (λ k s is. words_of-stored s (sound k s is))

pub total_one : (all : List (Option Stored)) → total_used one (objects_in all) ≡ total one_stored all
total_one all = total_objects one one_stored all (λ k s is. refl)

pub none_of : {A : Type 0} (x : Option A) → is_some x ≡ false → x ≡ None
none_of None h = refl
none_of (Some a) h = cc

-- a pointer that isn't live is unused
pub unused_dead : (all : List (Option Stored)) (o : Oop) → is_small (value o) ≡ false → o.0 ≢ 0 → o.0 / 2 < length all → is_live (objects_in all) (value o) ≡ false → IsUnused all o
unused_dead all o even some last dead = record {
  even = even_word o.0 even;
  some = some;
  last = last;
  absent = none_of (slot all (o.0 / 2)) (sym (live_ref all (o.0 / 2)) ∙ ap (is_live (objects_in all)) (sym (value_of-even o.0 even)) ∙ dead);
}

-- an object that comes to an unused pointer
pub placed_stored : (all : List (Option Stored)) (o : Oop) (s : Stored) (p : Object) → is_small (value o) ≡ false → object_from s ≡ p → objects_in (set all (o.0 / 2) (Some s)) ≡ with_object (objects_in all) (value o) p
unfolding with_object
placed_stored all o s p even same = set_objects all (o.0 / 2) (Some s) ∙ ap (λ q. set (objects_in all) (o.0 / 2) (Some q)) same ∙ ap (λ v. with_object (objects_in all) v p) (sym (value_of-even o.0 even))

-- the pointer of a place that is free is unused
pub place_unused : (all : List (Option Stored)) (k : ℕ) → 1 ≤ k → k < length all → slot all k ≡ None → IsUnused all (record { 0 = 2 * k })
place_unused all k some last absent =
    let half : (2 * k) / 2 ≡ k = omega arith in
    record { even = omega arith; some = omega (arith, some); last = omega (arith, half, last); absent = ap (slot all) half ∙ absent }

-- the least unused pointer is that of the first free place
pub least_place : (all : List (Option Stored)) (o : Oop) → IsLeastUnused all o → first_free (objects_in all) ≡ o.0 / 2
least_place all o least =
    let even = least.unused.even in
    let some = least.unused.some in
    let last = least.unused.last in
    first_free_is (objects_in all) (o.0 / 2) (omega (arith, even, some)) (entry-stored all (o.0 / 2) ∙ ap (option_map object_from) least.unused.absent) (λ j low high.
    is_some-entry all j ∙ by_slot j low high (slot all j) refl)
  where
    by_slot : (j : ℕ) → 1 ≤ j → j < o.0 / 2 → (x : Option Stored) → slot all j ≡ x → is_some (slot all j) ≡ true
    by_slot j low high (Some s) is = ap is_some is
    by_slot j low high None is =
        let last = least.unused.last in
        let l = least.least (record { 0 = 2 * j }) (place_unused all j low (omega (arith, high, last)) is) in
        absurd (omega (arith, l, high))

-- where a place is free there is an unused pointer
pub free_unused : (all : List (Option Stored)) → first_free (objects_in all) < length all → IsUnused all (record { 0 = 2 * first_free (objects_in all) })
free_unused all left = place_unused all (first_free (objects_in all)) (first_free-start (objects_in all)) left (none_stored (slot all (first_free (objects_in all))) (sym (entry-stored all (first_free (objects_in all))) ∙ first_free-none (objects_in all)))
  where
    none_stored : (x : Option Stored) → option_map object_from x ≡ None → x ≡ None
    none_stored None h = refl
    none_stored (Some s) h = cc

dead_if : (all : List (Option Stored)) (a b w : ℕ) (odd : Bool) → (w % 2 == 1) ≡ odd → ((j : ℕ) → a / 2 + 1 ≤ j → j < b → is_some (slot all j) ≡ false) → a < w → w < 2 * b → is_live (objects_in all) (if odd then Small (w / 2) else Ref (w / 2)) ≡ false
unfolding is_live
dead_if all a b w true e f l m = refl
dead_if all a b w false e f l m =
    let even : w % 2 ≡ 0 = grind (arith, nat_tests) in
    live_ref all (w / 2) ∙ f (w / 2) (omega (arith, even, l)) (omega (arith, m))

-- no word above a and below 2b is live where the places between are free
pub dead_word : (all : List (Option Stored)) (a b w : ℕ) → ((j : ℕ) → a / 2 + 1 ≤ j → j < b → is_some (slot all j) ≡ false) → a < w → w < 2 * b → is_live (objects_in all) (value_of w) ≡ false
unfolding value_of
dead_word all a b w f l m = dead_if all a b w (w % 2 == 1) refl f l m
