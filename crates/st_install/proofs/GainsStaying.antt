-- What a kept class has gained is there once what nothing supports is dropped.
use Rattle.std.proofs.Common.{◌≡◌, ℕ, zero, suc, ◌+◌, ◌<◌, ◌≤◌, List, [], ◌∷◌, length, Option, Some, None, Bool, true, false, refl, sym, ap, ◌∙◌, subst, arith, ◌⊎◌, inl, inr, is_some}
use Rattle.std.specs.Prelude.{slice_get, get_or, ⊤}
use Rattle.std.proofs.lemmas.Option.{slice_get-get_or}
use Rattle.std.proofs.lemmas.List.{get_or_past}
use Rattle.st_model.specs.declared.page.PageObject.TheVariants.{NilObject}
use Rattle.st_model.specs.Values.{Value, Small, Ref, IsLive, AllLive}
use Rattle.st_model.specs.Objects.{Object, nil, place_of}
use Rattle.st_model.specs.Machine.{State, Transition, Died, Went, is_there, roots_of}
use Rattle.st_model.specs.Show.{IsUsed, IsClosed}
use Rattle.st_model.specs.Settled.{settled_set, reclaim}
use Rattle.st_model.specs.Lookup.{find, pointer_if}
use Rattle.st_model.specs.Table.{Table, entry, table, bounded_table}
use Rattle.st_model.specs.View.{object_of, field_of}
use Rattle.st_model.proofs.SettledLemmas.{settled-entry}
use Rattle.st_model.proofs.Reclaiming.{reclaim_closed}
use Rattle.st_install.specs.inside.Gains.{SameAnswer, GainsStay}
use Rattle.st_install.proofs.Goes.{object_at, over}
use Rattle.st_install.proofs.GoesReading.{IsField}
use Rattle.st_install.proofs.GoesSeeking.{at_place, half_of}
use Rattle.st_install.proofs.GainsPlaces.{IsAbsent, other_false}
use Rattle.st_install.proofs.GainsFinding.{AreAlike, Alike, Free, alike_field, SameDictionary, class_alike, SameClass, same_answer}
use Rattle.st_install.proofs.GainsAbsent.{class_without, finds_alike}
use Rattle.st_install.proofs.GainsLaw.{gains}

-- it is left in the table
abbrev Stays : Table → Value → Type 0
Stays w (Small n) = ⊤
Stays w (Ref n) = is_some (entry w n) ≡ true

-- w has some of the objects of t, as they were, and all that these refer to
module _ (t w : Table) (part : (v : Value) (o : Object) → object_at w v ≡ Some o → object_at t v ≡ Some o)
    (closed : (v : Value) (o : Object) → object_at w v ≡ Some o → (i : ℕ) (x : Value) → slice_get o.fields i ≡ Some x → Stays w x) (nil_stays : Stays w nil) where
  -- what is left is an object, the same in both
  by_entry : (P : Option Object → Option Object → Type 0) → ((o : Object) → P (Some o) (Some o)) → (n : ℕ) → Stays w (Ref n) → P (entry w n) (entry t n)
  by_entry P same n h = one (entry w n) refl h
    where
      one : (x : Option Object) → entry w n ≡ x → is_some x ≡ true → P (entry w n) (entry t n)
      one None q f = cc
      one (Some o) q f = let r : entry t n ≡ Some o = part (Ref n) o q in rw (q, r) (same o)

  same_object : (v : Value) → Stays w v → object_at w v ≡ object_at t v
  same_object (Small n) h = refl
  same_object (Ref n) h = by_entry (λ a b. a ≡ b) (λ o. refl) n h

  field_stays : (v : Value) → Stays w v → (i : ℕ) (x : Value) → IsField t v i x → Stays w x
  field_stays v h i x f = closed v f.object (same_object v h ∙ f.is) i x f.field

  or_nil : (v : Value) (o : Object) → object_at w v ≡ Some o → (i : ℕ) → Stays w (get_or o.fields i nil)
  or_nil v o e i = elim (within i (length o.fields)) [
    | inl l ↦ closed v o e i (get_or o.fields i nil) (slice_get-get_or o.fields i nil l)
    | inr l ↦ subst (λ x. Stays w x) (sym (get_or_past o.fields i nil l)) nil_stays
  ]
    where
      within : (j n : ℕ) → (j < n) ⊎ (n ≤ j)
      within j n = grind arith

  above_stays : (c : Value) → Stays w c → Stays w (field_of t c 0)
  unfolding field_of object_of
  above_stays (Small n) h = nil_stays
  above_stays (Ref n) h = by_entry (entry w n) refl h
    where
      by_entry : (x : Option Object) → entry w n ≡ x → is_some x ≡ true → Stays w (field_of t (Ref n) 0)
      by_entry None q f = cc
      by_entry (Some o) q f = let r : entry t n ≡ Some o = part (Ref n) o q in rw r (or_nil (Ref n) o q 0)

  half_stays : (x : Value) → Stays w x → half_of w x ≡ half_of t x
  half_stays (Small n) h = refl
  half_stays (Ref n) h = by_entry (λ a b. pointer_if bounded_table w n a ≡ pointer_if bounded_table t n b) (λ o. refl) n h

  its_dictionary : (d : Value) → Stays w d → SameDictionary t w d
  its_dictionary d h = record {
    itself = same_object d h;
    methods = λ ms f. same_object ms (field_stays d h 1 ms f);
    all = λ ms k m f g. inl (same_object m (field_stays ms (field_stays d h 1 ms f) k m g));
  }

  kept_class : (x : Value) → Stays w x → (c : Value) → Stays w c → SameClass t w x c
  kept_class x k c h = record {
    methods = class_alike t w c x (same_object c h) (λ d f. its_dictionary d (field_stays c h 1 d f)) (half_stays x k);
    above = alike_field t w c 0 (same_object c h);
  }

  -- what isn't kept is in no dictionary that is
  gone_class : (x : Value) → (Stays w x → ⊥) → (c : Value) → Stays w c → SameClass t w x c
  gone_class x gone c h = record {
    methods = class_without t w c x (same_object c h) (λ d f. same_object d (field_stays c h 1 d f)) (λ d o f g. nowhere d (field_stays c h 1 d f) o g);
    above = alike_field t w c 0 (same_object c h);
  }
    where
      nowhere : (d : Value) → Stays w d → (o : Object) → object_at t d ≡ Some o → IsAbsent o.fields x
      nowhere d k o g j = other_false (at_place o.fields j) x (λ q. gone (subst (λ z. Stays w z) q (or_nil d o (same_object d k ∙ g) (2 + j))))

  pub finds_still : (class x : Value) → Stays w class → Alike t w (find table class x) Free
  finds_still class (Small n) h = finds_alike t w (Small n) (λ c. Stays w c) (kept_class (Small n) tt) above_stays class h
  finds_still class (Ref n) h = by_entry (is_some (entry w n)) refl
    where
      not_both : (b : Bool) → b ≡ false → b ≡ true → ⊥
      not_both true q r = cc
      not_both false q r = cc

      by_entry : (b : Bool) → is_some (entry w n) ≡ b → Alike t w (find table class (Ref n)) Free
      by_entry true q = finds_alike t w (Ref n) (λ c. Stays w c) (kept_class (Ref n) q) above_stays class h
      by_entry false q = finds_alike t w (Ref n) (λ c. Stays w c) (gone_class (Ref n) (λ r. not_both (is_some (entry w n)) q r)) above_stays class h

-- WHAT IS DROPPED

used : (w : Table) (n : ℕ) → IsUsed w n → is_some (entry w n) ≡ true
used w n u = rw u.1 refl

live_at : (w : Table) (vs : List Value) → AllLive (IsUsed w) vs → (i : ℕ) (x : Value) → slice_get vs i ≡ Some x → Stays w x
live_at w vs h i (Small n) e = tt
live_at w vs h i (Ref n) e = used w n (at vs h i e)
  where
    at : (vs : List Value) → AllLive (IsUsed w) vs → (i : ℕ) → slice_get vs i ≡ Some (Ref n) → IsUsed w n
    at [] h i e = cc
    at (v ∷ vs) h zero e = at_first v h.0 e
      where
        at_first : (v : Value) → IsLive (IsUsed w) v → Some v ≡ Some (Ref n) → IsUsed w n
        at_first (Small m) k e = cc
        at_first (Ref m) k e = subst (IsUsed w) (let q : m ≡ n = cc in q) k
    at (v ∷ vs) h (suc i) e = at vs h.1 i e

module _ (u : State Table) (closed : IsClosed u) where
  is_part : (v : Value) (o : Object) → object_at (reclaim table u).memory v ≡ Some o → object_at u.memory v ≡ Some o
  unfolding reclaim
  is_part (Small n) o e = cc
  is_part (Ref n) o e = (settled-entry u.memory (settled_set table u.memory (roots_of u)) n o e).0

  is_closed : (v : Value) (o : Object) → object_at (reclaim table u).memory v ≡ Some o → (i : ℕ) (x : Value) → slice_get o.fields i ≡ Some x → Stays (reclaim table u).memory x
  is_closed (Small n) o e i x f = cc
  is_closed (Ref n) o e i x f = live_at (reclaim table u).memory o.fields ((reclaim_closed u closed).objects n o e).fields i x f

  nil_left : Stays (reclaim table u).memory nil
  nil_left = used (reclaim table u).memory (place_of NilObject) ((reclaim_closed u closed).page NilObject)

  class_left : (class : Value) → is_there table (reclaim table u).memory class ≡ true → Stays (reclaim table u).memory class
  class_left (Small n) e = tt
  class_left (Ref n) e = e

  over_left : over u (reclaim table u).memory ≡ reclaim table u
  unfolding reclaim
  over_left = refl

  same_went : {A : Type 0} (s : State Table) (t w : Table) (a : A) (x y : Transition (State Table) A) → AreAlike s t w Free x y → x ≡ Went a (over s t) → y ≡ Went a (over s w)
  same_went s t w a (Died k) (Died j) h e = cc
  same_went s t w a (Died k) (Went b z) h e = cc
  same_went s t w a (Went b z) (Died j) h e = absurd h
  same_went s t w a (Went b z) (Went c q) h e = let r : b ≡ a = cc in ap (λ d. Went d q) (sym h.0 ∙ r) ∙ ap (λ z. Went a z) h.2

  same_then : {A : Type 0} (x y z : Transition (State Table) A) → SameAnswer x y → SameAnswer y z → SameAnswer x z
  same_then (Died a) (Died b) (Died c) h g = h ∙ g
  same_then (Died a) (Died b) (Went c r) h g = absurd g
  same_then (Died a) (Went b q) z h g = absurd h
  same_then (Went a p) (Died b) z h g = absurd h
  same_then (Went a p) (Went b q) (Died c) h g = absurd g
  same_then (Went a p) (Went b q) (Went c r) h g = h ∙ g

  module _ (class : Value) (kept : is_there table (reclaim table u).memory class ≡ true) (x : Value) where
    still : AreAlike u u.memory (reclaim table u).memory Free ((find table class x).run u) ((find table class x).run (over u (reclaim table u).memory))
    still = (finds_still u.memory (reclaim table u).memory is_part is_closed nil_left class x (class_left class kept)).alike u

    pub found_still : (m : Option Value) → (find table class x).run u ≡ Went m u → (find table class x).run (reclaim table u) ≡ Went m (reclaim table u)
    found_still m e =
        subst (λ z. (find table class x).run z ≡ Went m z) over_left (same_went u u.memory (reclaim table u).memory m _ _ still e)

    pub answers_still : (y : Transition (State Table) (Option Value)) → SameAnswer y ((find table class x).run u) → SameAnswer y ((find table class x).run (reclaim table u))
    answers_still y h =
        subst (λ z. SameAnswer y ((find table class x).run z)) over_left (same_then y _ _ h (same_answer u.memory (reclaim table u).memory u _ _ still))

pub gains_stay : GainsStay
gains_stay v p whole h association symbols orderly s u made e f i closed kept =
    let g = gains v p whole h association symbols orderly s u made e f i in
    record {
      new = found_still u closed h.class kept _ _ g.new;
      others = λ x n d. answers_still u closed h.class kept x ((find table h.class x).run s) (g.others x n d);
    }
