-- How a plan is carried out: all objects are made first, and filled; all places are found; then come the stores, in the order
-- symbol table, the class's dictionary, selector, method, tally.
use Rattle.std.specs.Prelude.{ℕ, suc, ◌+◌, ◌-◌, ◌*◌, List, [], ◌∷◌, length, get_or, Option, Some, None}
use Rattle.st_model.specs.declared.dead.Dead.TheVariants as dead
use Rattle.st_model.specs.declared.kind.Kind.{Kind}
use Rattle.st_model.specs.declared.kind.Kind.TheVariants as kind
use Rattle.st_model.specs.Values.{Value}
use Rattle.st_model.specs.declared.page.PageObject.TheVariants.{NilObject}
use Rattle.st_model.specs.Machine.{ObjectMemory, Step, answer, die, ◌>>=◌, ◌>>◌}
use Rattle.st_model.specs.Steps.{of_page, fetch_field, store_field, store_fields, store_method_field, store_bytes, make}
use Rattle.st_install.specs.Plans.{PlannedValue, There, Made, NewObject, FieldStore, Plan}
use Rattle.st_install.specs.Dictionaries.{Ending, Holds, Vacant, Nowhere, place_of_selector, put_method, refill, raised_tally}

-- how many fields, words or bytes it has; a Method's header and literals count as bytes
abbrev pub size_by : Kind → NewObject → ℕ
size_by kind.Pointers o = length o.fields
size_by kind.Method o = 2 * length o.fields + length o.bytes
size_by _ o = length o.bytes

abbrev pub literals_by : Kind → NewObject → ℕ
literals_by kind.Method o = length o.fields - 1
literals_by _ o = 0

-- the object that a part is, once these are made
abbrev pub part_value : (nil : Value) → List Value → PlannedValue → Value
part_value nil made (There v) = v
part_value nil made (Made k) = get_or made k nil

abbrev pub part_values : (nil : Value) → List Value → List PlannedValue → List Value
part_values nil made [] = []
part_values nil made (p ∷ ps) = part_value nil made p ∷ part_values nil made ps

-- where the stores go, once a plan's objects are made
pub record Placing : Type 0 where
  pub dictionary : Value
  pub methods : Value
  pub tally : Value
  pub end : Ending

module _ {H : Type 0} (m : ObjectMemory H) where
  -- OBJECTS

  unfoldable pub make_new : NewObject → Step H Value
  make_new o = make m o.class o.kind (size_by o.kind o) (literals_by o.kind o)

  -- one after the other
  unfoldable pub make_all : List NewObject → Step H (List Value)
  make_all [] = answer []
  make_all (o ∷ os) = do
    v ← make_new o
    vs ← make_all os
    answer (v ∷ vs)

  -- header and literals of a method from one on
  unfoldable pub store_method_fields : Value → ℕ → List Value → Step H Unit
  store_method_fields v to [] = answer tt
  store_method_fields v to (x ∷ xs) = store_method_field m v to x >> store_method_fields v (suc to) xs

  unfoldable pub fill_method : Value → List Value → List ℕ → Step H Unit
  fill_method v fields bytes = store_method_fields v 0 fields >> store_bytes m v (2 * length fields) bytes

  unfoldable pub fill_by : Value → List Value → List ℕ → Kind → Step H Unit
  fill_by v fields bytes kind.Pointers = store_fields m v 0 fields
  fill_by v fields bytes kind.Words = answer tt
  fill_by v fields bytes kind.Bytes = store_bytes m v 0 bytes
  fill_by v fields bytes kind.Method = fill_method v fields bytes

  -- the objects get what they were planned with
  unfoldable pub fill_all : (nil : Value) → List Value → List Value → List NewObject → Step H Unit
  fill_all nil made vs [] = answer tt
  fill_all nil made [] (o ∷ os) = answer tt
  fill_all nil made (v ∷ vs) (o ∷ os) = do
    fill_by v (part_values nil made o.fields) o.bytes o.kind
    fill_all nil made vs os

  -- STORES

  unfoldable pub store_all : (nil : Value) → List Value → List FieldStore → Step H Unit
  store_all nil made [] = answer tt
  store_all nil made (s ∷ ss) = do
    store_field m (part_value nil made s.object) s.field (part_value nil made s.value)
    store_all nil made ss

  -- the dictionary that the method goes into: the class's, or the one that takes its place, refilled
  unfoldable pub target : (nil : Value) → List Value → Value → Option ℕ → Step H Value
  target nil made old None = answer old
  target nil made old (Some k) = refill m old (get_or made k nil) >> answer (get_or made k nil)

  -- where it goes, and what else is fetched before the first store
  unfoldable pub find_place : Value → Value → Step H Placing
  find_place dictionary selector = do
    methods ← fetch_field m dictionary 1
    tally ← fetch_field m dictionary 0
    end ← place_of_selector m dictionary selector
    answer (record { dictionary = dictionary; methods = methods; tally = tally; end = end })

  -- a grown dictionary becomes that of the class
  unfoldable pub adopt : Value → Value → Option ℕ → Step H Unit
  adopt class dictionary None = answer tt
  adopt class dictionary (Some k) = store_field m class 1 dictionary

  -- a method is replaced, or added with its selector; only then the tally rises
  unfoldable pub add_at : Placing → Value → Value → Ending → Step H Unit
  add_at p selector method (Holds k) = store_field m p.methods k method
  add_at p selector method (Vacant k) = do
    put_method m p.dictionary p.methods k selector method
    store_field m p.dictionary 0 (raised_tally p.tally)
  add_at p selector method Nowhere = die dead.Places

  unfoldable pub store_planned : (nil : Value) → List Value → Plan → Placing → Step H Unit
  store_planned nil made p placing = do
    store_all nil made p.symbol_stores
    adopt p.class placing.dictionary p.grown
    add_at placing (part_value nil made p.selector) (part_value nil made p.method) placing.end

  unfoldable pub fill_and_store : (nil : Value) → List Value → Plan → Step H Unit
  fill_and_store nil made p = do
    fill_all nil made made p.objects
    dictionary ← target nil made p.dictionary p.grown
    placing ← find_place dictionary (part_value nil made p.selector)
    store_planned nil made p placing

  -- the objects are made and the stores done; reclaiming follows
  unfoldable pub install : Plan → Step H Unit
  install p = do
    nil ← of_page m NilObject
    made ← make_all p.objects
    fill_and_store nil made p
