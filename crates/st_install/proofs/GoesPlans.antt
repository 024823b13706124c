-- Parts of plans stay sound as more is made.
use Rattle.std.proofs.Common.{◌≡◌, ℕ, ◌+◌, ◌≤◌, zero, suc, List, [], ◌∷◌, ◌++◌, length, Some, Bool, ap, ◌∙◌, arith, length-append}
use Rattle.std.specs.Prelude.{slice_get, slice_set, replicate}
use Rattle.st_model.specs.Values.{Value}
use Rattle.st_model.specs.Table.{Table}
use Rattle.st_code.specs.Methods.{PartsView}
use Rattle.st_install.specs.Plans.{PlannedValue, There, Made, NewObject, FieldStore, Plan}
use Rattle.st_install.specs.Symbols.{Symbols}
use Rattle.st_install.specs.Literals.{PlacedAll}
use Rattle.st_install.specs.Planning.{method_number, objects_with_method, grown_number}
use Rattle.st_install.proofs.GoesMaking.{CanMake}
use Rattle.st_install.proofs.GoesStoring.{fewer_fields}
use Rattle.st_install.proofs.GoesInstalling.{IsSoundPart, AreSoundParts, AreSoundObjects, PartHas, AreSoundStores}

-- the plan that has these objects with a method of this class, for a class with this dictionary
abbrev pub plan_with : (method_class class dictionary : Value) → PartsView → Symbols → PlacedAll → PlannedValue → Bool → List NewObject → Plan
plan_with method_class class dictionary parts symbols literals selector grows grown = record {
  objects = objects_with_method method_class parts symbols literals ++ grown;
  symbol_stores = symbols.stores;
  selector = selector;
  method = Made (method_number symbols literals);
  class = class;
  dictionary = dictionary;
  grown = grown_number grows symbols literals;
}

pub get_in_front : {A : Type 0} (xs ys : List A) (k : ℕ) (x : A) → slice_get xs k ≡ Some x → slice_get (xs ++ ys) k ≡ Some x
get_in_front [] ys k x e = cc
get_in_front (y ∷ xs) ys zero x e = e
get_in_front (y ∷ xs) ys (suc k) x e = get_in_front xs ys k x e

pub get_behind : {A : Type 0} (xs ys : List A) (k : ℕ) → slice_get (xs ++ ys) (length xs + k) ≡ slice_get ys k
get_behind [] ys k = let e : 0 + k ≡ k = omega arith in ap (λ n. slice_get ys n) e
get_behind (x ∷ xs) ys k = let e : suc (length xs) + k ≡ suc (length xs + k) = omega arith in ap (λ n. slice_get (x ∷ (xs ++ ys)) n) e ∙ get_behind xs ys k

pub get_seam : {A : Type 0} (xs ys : List A) (k n : ℕ) → n ≡ length xs + k → slice_get (xs ++ ys) n ≡ slice_get ys k
get_seam xs ys k n e = ap (λ m. slice_get (xs ++ ys) m) e ∙ get_behind xs ys k

module _ (t : Table) where
  pub part_more : (n m : ℕ) (p : PlannedValue) → n ≤ m → IsSoundPart t n p → IsSoundPart t m p
  part_more n m (There v) l h = h
  part_more n m (Made k) l h = omega (arith, l, h)

  pub parts_more : (n m : ℕ) (ps : List PlannedValue) → n ≤ m → AreSoundParts t n ps → AreSoundParts t m ps
  parts_more n m [] l h = tt
  parts_more n m (p ∷ ps) l h = (part_more n m p l h.0, parts_more n m ps l h.1)

  pub objects_more : (n m : ℕ) (os : List NewObject) → n ≤ m → AreSoundObjects t n os → AreSoundObjects t m os
  objects_more n m [] l h = tt
  objects_more n m (o ∷ os) l h = (parts_more n m o.fields l h.0, objects_more n m os l h.1)

  pub parts_append : (n : ℕ) (ps qs : List PlannedValue) → AreSoundParts t n ps → AreSoundParts t n qs → AreSoundParts t n (ps ++ qs)
  parts_append n [] qs h k = k
  parts_append n (p ∷ ps) qs h k = (h.0, parts_append n ps qs h.1 k)

  pub objects_append : (n : ℕ) (os ps : List NewObject) → AreSoundObjects t n os → AreSoundObjects t n ps → AreSoundObjects t n (os ++ ps)
  objects_append n [] ps h k = k
  objects_append n (o ∷ os) ps h k = (h.0, objects_append n os ps h.1 k)

  pub can_make_append : (os ps : List NewObject) → CanMake t os → CanMake t ps → CanMake t (os ++ ps)
  can_make_append [] ps h k = k
  can_make_append (o ∷ os) ps h k = (h.0, h.1, can_make_append os ps h.2 k)

  pub parts_set : (n i : ℕ) (ps : List PlannedValue) (p : PlannedValue) → AreSoundParts t n ps → IsSoundPart t n p → AreSoundParts t n (slice_set ps i p)
  parts_set n i [] p h k = tt
  parts_set n zero (q ∷ ps) p h k = (k, h.1)
  parts_set n (suc i) (q ∷ ps) p h k = (h.0, parts_set n i ps p h.1 k)

  pub parts_replicate : (n i : ℕ) (p : PlannedValue) → IsSoundPart t n p → AreSoundParts t n (replicate i p)
  parts_replicate n zero p h = tt
  parts_replicate n (suc i) p h = (h, parts_replicate n i p h)

  pub part_has_more : (os ps : List NewObject) (p : PlannedValue) (n : ℕ) → PartHas t os p n → PartHas t (os ++ ps) p n
  part_has_more os ps (There v) n h = h
  part_has_more os ps (Made k) n h = record { object = h.object; is = get_in_front os ps k h.object h.is; pointers = h.pointers; enough = h.enough }

  pub stores_more : (os ps : List NewObject) (xs : List FieldStore) → AreSoundStores t os xs → AreSoundStores t (os ++ ps) xs
  stores_more os ps [] h = tt
  stores_more os ps (x ∷ xs) h =
      (part_has_more os ps x.object (suc x.field) h.0, part_more (length os) (length (os ++ ps)) x.value (let n = length-append os ps in omega (arith, n)) h.1, stores_more os ps xs h.2)

  pub stores_append : (os : List NewObject) (xs ys : List FieldStore) → AreSoundStores t os xs → AreSoundStores t os ys → AreSoundStores t os (xs ++ ys)
  stores_append os [] ys h k = k
  stores_append os (x ∷ xs) ys h k = (h.0, h.1, stores_append os xs ys h.2 k)

  pub part_has_fewer : (os : List NewObject) (p : PlannedValue) (n m : ℕ) → m ≤ n → PartHas t os p n → PartHas t os p m
  part_has_fewer os (There v) n m l h = fewer_fields t v n m l h
  part_has_fewer os (Made k) n m l h = record { object = h.object; is = h.is; pointers = h.pointers; enough = let e = h.enough in omega (arith, e, l) }
