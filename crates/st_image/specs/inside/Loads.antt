-- The loading of an image's objects, one after another and part by part.
use Rattle.std.specs.Prelude.{◌≡◌, ◌≢◌, ℕ, zero, suc, ◌+◌, ◌/◌, ◌%◌, ◌<◌, ◌≤◌, true, List, length, Option, Some, None}
use Rattle.st_model.specs.declared.head.ImageHead.{ImageHead}
use Rattle.st_model.specs.Values.{Value, Ref}
use Rattle.st_model.specs.Objects.{Object, is_method, one, words_of, with_field, object_with_unit}
use Rattle.st_model.specs.Table.{Table, entry, total_used}
use Rattle.st_model.specs.Formed.{fresh}
use Rattle.st_model.specs.View.{View, with_object}
use Rattle.st_model.specs.Image.{entries_of, has_pointers, size, class, body, names, literal_count}
use Rattle.st_model.specs.Start.{kind_in, fields_in, units_in, field_in, object_in, entry_in}
use Rattle.st_image.specs.inside.Sizes.{IsInside}
use Rattle.st_image.specs.inside.Shape.{size_as, literals_as}
use Rattle.st_image.specs.declared.shape.Shape.{Shape}

-- What the rows of faults leave to be known of the object of an entry in use: it lies in the object space,
-- its class is an object that does so too, it is of class 34 exactly where it is a method, and a method has
-- an odd header and its literals.
pub record IsSound (h : ImageHead) (bytes : List ℕ) (k : ℕ) : Type 0 where
  pub in_table : k < entries_of h
  pub inside : IsInside h bytes k
  pub class_used : names h bytes (class h bytes k) ≡ true
  pub class_inside : IsInside h bytes (class h bytes k / 2)
  pub pointers : has_pointers h bytes k ≡ true → class h bytes k ≢ 34
  pub header : is_method (kind_in h bytes k) ≡ true → body h bytes k 0 % 2 ≡ 1
  pub literals : is_method (kind_in h bytes k) ≡ true → literal_count (body h bytes k 0) + 3 ≤ size h bytes k

-- the shape of the object of entry k, which is sound
pub record IsShape (h : ImageHead) (bytes : List ℕ) (k : ℕ) (shape : Shape) : Type 0 where
  pub sound : IsSound h bytes k
  pub kind : shape.kind ≡ kind_in h bytes k
  pub fields : shape.fields ≡ fields_in h bytes k
  pub units : shape.units ≡ units_in h bytes k
  pub few_words : size h bytes k < 65536
  pub few_fields : shape.fields < 65536
  pub few_units : shape.units < 131072
  pub header : is_method shape.kind ≡ true → 0 < shape.fields

-- the object of entry k as it is placed, before its fields and units are stored
unfoldable pub fresh_in : ImageHead → List ℕ → ℕ → Object
fresh_in h bytes k =
    fresh (class h bytes k / 2) (kind_in h bytes k)
    (size_as (kind_in h bytes k) (fields_in h bytes k) (units_in h bytes k))
    (literals_as (kind_in h bytes k) (fields_in h bytes k))

-- an object with its first n fields stored
abbrev pub with_fields : Object → (ℕ → Value) → ℕ → Object
with_fields o f zero = o
with_fields o f (suc n) = with_field (with_fields o f n) n (f n)

-- an object with its first n units stored
abbrev pub with_units : Object → (ℕ → ℕ) → ℕ → Object
with_units o f zero = o
with_units o f (suc n) = object_with_unit (with_units o f n) n (f n)

-- the object of entry k with its fields, before its units are stored
unfoldable pub filled_in : ImageHead → List ℕ → ℕ → Object
filled_in h bytes k = with_fields (fresh_in h bytes k) (field_in h bytes k) (fields_in h bytes k)

-- the object at place k
pub record IsAt (v : View) (k : ℕ) (o : Object) : Type 0 where
  pub place : k < length v.objects
  pub object : entry v.objects k ≡ Some o

-- place k was given an object, and all else stands
pub record Puts (old new : View) (k : ℕ) (o : Object) : Type 0 where
  pub objects : new.objects ≡ with_object old.objects (Ref k) o
  pub held : new.held ≡ old.held
  pub head : new.head ≡ old.head

-- place k was given the object of entry k
abbrev pub PutsObject : View → View → ImageHead → List ℕ → ℕ → Type 0
PutsObject old new h bytes k = Puts old new k (object_in h bytes k)

-- no place has an object
pub record IsEmpty (t : Table) : Type 0 where
  pub places : length t ≡ 32768
  pub free : (k : ℕ) → entry t k ≡ None

abbrev pub with_entry : Table → ℕ → Option Object → Table
with_entry t k None = t
with_entry t k (Some o) = with_object t (Ref k) o

-- the table once the first k entries are loaded
abbrev pub loaded_below : ImageHead → List ℕ → Table → ℕ → Table
loaded_below h bytes t zero = t
loaded_below h bytes t (suc k) = with_entry (loaded_below h bytes t k) k (entry_in h bytes k)

-- there is room for the object of entry k in its place
pub record HasRoom (h : ImageHead) (bytes : List ℕ) (v : View) (k : ℕ) : Type 0 where
  pub places : length v.objects ≡ 32768
  pub free : entry v.objects k ≡ None
  pub entries : total_used one v.objects + 1 ≤ v.head.entries
  pub words : total_used words_of v.objects + size h bytes k ≤ v.head.words
