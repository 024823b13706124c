-- Each step that reads fields, classes and pointers over births does the same over a table that shows them.
use Rattle.std.proofs.Common.{◌≡◌, ℕ, zero, suc, Option, Some, None, Bool, true, false, refl, sym, ap, subst, is_some}
use Rattle.std.specs.Prelude.{if◌then◌else◌}
use Rattle.st_model.specs.declared.dead.Dead.{Dead}
use Rattle.st_model.specs.Values.{Value, Small, Ref, renamed}
use Rattle.st_model.specs.declared.page.PageObject.{PageObject}
use Rattle.st_model.specs.Objects.{Object, place_of, renamed_object, IsLiveObject}
use Rattle.st_model.specs.Machine.{answer}
use Rattle.st_model.specs.Births.{births, object_born, is_borne, bearer}
use Rattle.st_model.specs.Table.{table, entry}
use Rattle.st_model.specs.Show.{renamed_option}
use Rattle.st_model.specs.Steps.{found, object_named, object, named_or_not, object_at, of_page, class_of, or_die, check, fetch_field, count_fields, fetch_fields}
use Rattle.st_model.specs.Lookup.{half_word}
use Rattle.st_model.specs.Primitives.{check_class, bits_or_die}
use Rattle.st_model.proofs.BirthLemmas.{borne_before, pointer_of-borne, object_there, borne-bearer, is_borne-of}
use Rattle.st_simulation.proofs.Same.{IsLiveOption}
use Rattle.st_install.proofs.SameReads.{Shown, lives, name, Alike, ValueAlike, OptionalAlike, AlikeValue, AlikeValues, AlikeOption, AlikeObject, AlikeAnswer, joins_alike}

-- a kept birth's object, in both
pub record Both (z : Shown) (n : ℕ) : Type 0 where
  pub object : Object
  pub born : object_born z.births.memory n ≡ Some object
  pub shown : entry z.table.memory (name z n) ≡ Some (renamed_object (name z) object)
  pub live : IsLiveObject (lives z) object

module _ (z : Shown) where
  pub both : (n : ℕ) → lives z n → Both z n
  both n k =
      let o = object_there z.births.memory n (borne_before z.births.memory n k.0 k.1) in
      let p = pointer_of-borne z.births.memory n k.0 k.1 in
      record {
        object = o.0;
        born = o.1;
        shown = rw p (z.shows.objects n k.0 o.0 k.1 o.1);
        live = z.shows.closed n k.0 o.0 k.1 o.1;
      }

  -- objects

  object_named-alike : (n : ℕ) → lives z n → AlikeObject z (object_named births n) (object_named table (name z n))
  unfolding object_named found answer
  object_named-alike n k = let o = both n k in record { go = rw (o.born, o.shown) (o.live, refl, refl, refl) }

  pub object-alike : (v w : Value) → ValueAlike z v w → AlikeObject z (object births v) (object table w)
  unfolding object
  object-alike (Small n) w h = rw h.is (search joins_alike)
  object-alike (Ref n) w h = rw h.is (object_named-alike n h.live)

  -- the page

  pub of_page-alike : (q : PageObject) → AlikeValue z (of_page births q) (of_page table q)
  unfolding of_page
  of_page-alike q =
      let e = z.shows.page q in
      let b = bearer z.births.memory (place_of q) in
      record { go = ((place_of q, e), ap (λ n. Ref n) (sym (pointer_of-borne z.births.memory b (place_of q) e)), refl, refl) }

  -- conditions

  pub check-alike : (cause : Dead) (b c : Bool) → c ≡ b → AlikeAnswer z (check cause b) (check cause c)
  unfolding check
  check-alike cause true c e = rw e (search joins_alike)
  check-alike cause false c e = rw e (search joins_alike)

  pub value_or_die-alike : (cause : Dead) (x y : Option Value) → OptionalAlike z x y → AlikeValue z (or_die cause x) (or_die cause y)
  unfolding or_die
  value_or_die-alike cause None y h = rw h.is (search joins_alike)
  value_or_die-alike cause (Some v) y h = let k : ValueAlike z v (renamed (name z) v) = record { live = h.live; is = refl } in rw h.is (search joins_alike)

  pub bits_or_die-alike : (v w : Value) → ValueAlike z v w → AlikeAnswer z (bits_or_die v) (bits_or_die w)
  unfolding bits_or_die
  bits_or_die-alike (Small n) w h = rw h.is (search joins_alike)
  bits_or_die-alike (Ref n) w h = rw h.is (search joins_alike)

  pub ruleset objects_alike = (joins_alike, object-alike, of_page-alike, check-alike, value_or_die-alike, bits_or_die-alike)

  -- fields and classes

  pub fetch_field-alike : (v w : Value) (i : ℕ) → ValueAlike z v w → AlikeValue z (fetch_field births v i) (fetch_field table w i)
  unfolding fetch_field
  fetch_field-alike v w i h = search objects_alike depth 16 fits 4000

  pub count_fields-alike : (v w : Value) → ValueAlike z v w → AlikeAnswer z (count_fields births v) (count_fields table w)
  unfolding count_fields
  count_fields-alike v w h = search objects_alike depth 20 fits 4000

  pub class_of-alike : (v w : Value) → ValueAlike z v w → AlikeValue z (class_of births v) (class_of table w)
  unfolding class_of
  class_of-alike (Small n) w h = rw h.is (search objects_alike)
  class_of-alike (Ref n) w h = let l : lives z n = h.live in rw h.is (search (objects_alike, object_named-alike) depth 16 fits 4000)

  pub fetch_fields-alike : (v w : Value) (from n : ℕ) → ValueAlike z v w → AlikeValues z (fetch_fields births v from n) (fetch_fields table w from n)
  unfolding fetch_fields
  fetch_fields-alike v w from zero h = search objects_alike depth 16 fits 4000
  fetch_fields-alike v w from (suc n) h = search (objects_alike, fetch_field-alike, fetch_fields-alike v w (suc from) n) depth 16 fits 4000

  pub check_class-alike : (v w : Value) (q : PageObject) → ValueAlike z v w → AlikeAnswer z (check_class births v q) (check_class table w q)
  unfolding check_class
  check_class-alike v w q h = search (objects_alike, class_of-alike) depth 20 fits 4000

  -- pointers

  pub half_word-alike : (v w : Value) → ValueAlike z v w → AlikeAnswer z (half_word births v) (half_word table w)
  unfolding half_word
  half_word-alike (Small n) w h = rw h.is (search joins_alike)
  half_word-alike (Ref n) w h = let o = both n h.live in rw h.is (record { go = rw (o.born, o.shown) (tt, refl, refl, refl) })

  not_borne : (k : ℕ) (o : Object) → entry z.table.memory k ≡ Some o → is_borne z.births.memory k ≡ false → ⊥
  not_borne k o e f = let n = z.shows.only k o e in let b = is_borne-of z.births.memory n.0 k n.1 in cc

  borne_alike : (k : ℕ) (b : Bool) (e : Option Object) → is_borne z.births.memory k ≡ b → entry z.table.memory k ≡ e
      → IsLiveOption (lives z) (named_or_not (if b then Some (bearer z.births.memory k) else None))
      × (named_or_not (if is_some e then Some k else None) ≡ renamed_option (name z) (named_or_not (if b then Some (bearer z.births.memory k) else None)))
  unfolding named_or_not
  borne_alike k true (Some o) e f =
      let h = borne-bearer z.births.memory k e in
      ((k, h), ap (λ n. Some (Ref n)) (sym (pointer_of-borne z.births.memory (bearer z.births.memory k) k h)))
  borne_alike k true None e f =
      let h = borne-bearer z.births.memory k e in
      let o = both (bearer z.births.memory k) (k, h) in
      let g : entry z.table.memory k ≡ Some (renamed_object (name z) o.object) =
      subst (λ p. entry z.table.memory p ≡ Some (renamed_object (name z) o.object)) (pointer_of-borne z.births.memory (bearer z.births.memory k) k h) o.shown in
      absurd (cc)
  borne_alike k false (Some o) e f = absurd (not_borne k o f e)
  borne_alike k false None e f = (tt, refl)

  pub object_at-alike : (k : ℕ) → AlikeOption z (object_at births k) (object_at table k)
  unfolding object_at
  object_at-alike k = let b = borne_alike k _ _ refl refl in record { go = (b.0, b.1, refl, refl) }

  pub ruleset reads_alike = (objects_alike, fetch_field-alike, count_fields-alike, class_of-alike, fetch_fields-alike, check_class-alike, half_word-alike, object_at-alike)
