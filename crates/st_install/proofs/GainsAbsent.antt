-- Searches for what no dictionary of a class holds: it isn't found, wherever the search begins.
use Rattle.std.proofs.Common.{◌≡◌, ℕ, zero, suc, ◌<◌, List, [], ◌∷◌, length, Bool, Some, None, true, false, refl, sym, ◌∙◌, subst, arith}
use Rattle.std.specs.Prelude.{◌-◌, nat_lt, if◌then◌else◌}
use Rattle.std.specs.List.{AllByRecursion}
use Rattle.std.proofs.lemmas.Bool.Decides.{nat_tests}
use Rattle.st_model.specs.declared.dead.Dead.TheVariants as dead
use Rattle.st_model.specs.Values.{Value}
use Rattle.st_model.specs.Objects.{Object, nil, is_pointers}
use Rattle.st_model.specs.Steps.{object, check, same_value, count_fields}
use Rattle.st_model.specs.Lookup.{search_dictionary, method_in_class, find}
use Rattle.st_model.specs.Table.{Table, table}
use Rattle.st_model.specs.View.{field_of}
use Rattle.st_install.specs.inside.Gains.{superclasses, superclass_list}
use Rattle.st_install.proofs.Goes.{object_at}
use Rattle.st_install.proofs.GoesReading.{IsField}
use Rattle.st_install.proofs.GainsPlaces.{IsAbsent}
use Rattle.st_install.proofs.GainsFinding.{Alike, Free, alike_then, alike_next, alike_answer, alike_told, alike_check, alike_object, alike_field, SameClass, find_alike}
use Rattle.st_install.proofs.GainsClass.{none_searched}

module _ (t u : Table) where
  -- a value's object of kind Pointers, with so many fields
  record IsCounted (v : Value) (n : ℕ) : Type 0 where
    object : Object
    is : object_at t v ≡ Some object
    pointers : is_pointers object.kind ≡ true
    count : n ≡ length object.fields

  counted_alike : (v : Value) → object_at u v ≡ object_at t v → Alike t u (count_fields table v) (λ n. IsCounted v n)
  unfolding count_fields
  counted_alike v e =
      alike_then t u (λ o. object_at t v ≡ Some o) (λ n. IsCounted v n) (object table v) _ (alike_object t u v e)
      (λ o f. alike_next t u (λ a. is_pointers o.kind ≡ true) (λ n. IsCounted v n) (check dead.Kind (is_pointers o.kind)) _ (alike_check t u dead.Kind (is_pointers o.kind))
      (λ a p. alike_answer t u (λ n. IsCounted v n) (length o.fields) (record { object = o; is = f; pointers = p; count = refl })))

  search_none : (d x : Value) (n : ℕ) → object_at u d ≡ object_at t d → ((o : Object) → object_at t d ≡ Some o → IsAbsent o.fields x) → IsCounted d n → nat_lt 2 n ≡ true
      → Alike t u (search_dictionary table d x (n - 2)) Free
  search_none d x n e absent c more =
      let l : 2 < length c.object.fields = subst (λ k. 2 < k) c.count (grind (arith, nat_tests, more)) in
      subst (λ k. Alike t u (search_dictionary table d x (k - 2)) Free) (sym c.count)
      (alike_told t u Free (search_dictionary table d x (length c.object.fields - 2)) None
      (λ s. none_searched t d c.object c.is c.pointers l x s (absent c.object c.is))
      (λ s. none_searched u d c.object (e ∙ c.is) c.pointers l x s (absent c.object c.is)) tt)

  -- a class that is the same, whose dictionary is the same and hasn't what is sought
  pub class_without : (c x : Value) → object_at u c ≡ object_at t c → ((d : Value) → IsField t c 1 d → object_at u d ≡ object_at t d)
      → ((d : Value) (o : Object) → IsField t c 1 d → object_at t d ≡ Some o → IsAbsent o.fields x) → Alike t u (method_in_class table c x) Free
  unfolding method_in_class
  class_without c x e same absent =
      alike_then t u _ Free _ _ (alike_field t u c 1 e)
      (λ d f. alike_then t u _ Free _ _ (counted_alike d (same d f))
      (λ n z. alike_next t u _ Free _ _ (alike_check t u dead.Places (nat_lt 2 n))
      (λ a p. search_none d x n (same d f) (λ o g. absent d o f g) z p)))

  -- all classes that a search goes through are of a sort, each of which is searched alike
  module _ (x : Value) (P : Value → Type 0) (each : (c : Value) → P c → SameClass t u x c) (above : (c : Value) → P c → P (field_of t c 0)) where
    unless_nil : (b : Bool) (c : Value) (cs : List Value) → SameClass t u x c → AllByRecursion (λ v. SameClass t u x v) cs → AllByRecursion (λ v. SameClass t u x v) (if b then [] else c ∷ cs)
    unless_nil true c cs h g = tt
    unless_nil false c cs h g = (h, g)

    all_of : (left : ℕ) (c : Value) → P c → AllByRecursion (λ v. SameClass t u x v) (superclasses t left c)
    unfolding superclasses
    all_of zero c h = tt
    all_of (suc left) c h = unless_nil (same_value c nil) c (superclasses t left (field_of t c 0)) (each c h) (all_of left (field_of t c 0) (above c h))

    pub finds_alike : (class : Value) → P class → Alike t u (find table class x) Free
    unfolding superclass_list
    finds_alike class h = find_alike t u class x (all_of 32767 class h)
