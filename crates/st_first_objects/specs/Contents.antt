-- What is in each of the first objects.
use Rattle.std.specs.Prelude.{ℕ, zero, suc, ◌+◌, ◌&&◌, bytes_eq, Bool, List, [], ◌∷◌, filter, map, replicate, slice_get, codes, Option, Some, if◌then◌else◌}
use Rattle.st_kernel_text.specs.declared.shape.Shape.{Shape}
use Rattle.st_kernel_text.specs.declared.shape.Shape.TheVariants as shape
use Rattle.st_kernel_text.specs.Parts.{Part, pool}
use Rattle.st_first_objects.specs.declared.thing.What.{What}
use Rattle.st_first_objects.specs.declared.thing.What.TheVariants as what
use Rattle.st_first_objects.specs.Things.{Thing, only, named, numbered, within, is, symbol, class as class_thing}
use Rattle.st_first_objects.specs.Classes.{Declared, is_nil}
use Rattle.st_first_objects.specs.Orders.{selectors, characters, lists}
use Rattle.st_first_objects.specs.Plans.{FirstObjects, declared}

-- nil, a SmallInteger, or another of the first objects: nil where that isn't made
pub data Field : Type 0 where
  Empty : Field
  Number : ℕ → Field
  To : Thing → Field

-- fields, bytes, or no words
pub data Body : Type 0 where
  Fields : List Field → Body
  Bytes : List ℕ → Body
  NoWords : Body

pub record Content : Type 0 where
  pub class : Thing
  pub body : Body

-- an object of the class of this name
abbrev pub of_class : (class : List ℕ) → Body → Content
of_class name body = record { class = class_thing name; body = body }

abbrev pub of_fields : (class : List ℕ) → List Field → Content
of_fields name fields = of_class name (Fields fields)

abbrev pub of_bytes : (class : List ℕ) → List ℕ → Content
of_bytes name bytes = of_class name (Bytes bytes)

abbrev pub all_of : List Thing → List Field
all_of ts = map To ts

-- the things of which this holds, in the order of their making
abbrev pub members : FirstObjects → (Thing → Bool) → List Field
members p holds = all_of (filter holds p.order.things)

abbrev pub association : (key value : Field) → Content
association key value = of_fields (codes "Association") (key ∷ value ∷ [])

abbrev pub array : List Field → Content
array fields = of_fields (codes "Array") fields

-- NIL, FALSE AND TRUE

-- a new instance, whose fields are nil; of words or bytes it has none
abbrev pub instance : (class : List ℕ) → Shape → (fields : ℕ) → Content
instance name shape.Fixed fields = of_fields name (replicate fields Empty)
instance name shape.Indexed fields = of_fields name (replicate fields Empty)
instance name shape.Words fields = of_class name NoWords
instance name shape.Bytes fields = of_bytes name []

abbrev pub instance_of : FirstObjects → (class : List ℕ) → Content
instance_of p name = instance name (declared p name).shape (declared p name).fields

-- CLASSES

-- bit 0 says that instances have pointers, bit 1 words, bit 2 that they are indexed; bits 4 to 14 count their fixed fields
abbrev pub specification : Shape → (fields : ℕ) → ℕ
specification shape.Fixed fields = 16384 + fields
specification shape.Indexed fields = 16384 + 4096 + fields
specification shape.Words fields = 8192 + 4096 + fields
specification shape.Bytes fields = 4096 + fields

-- a root class has no superclass
abbrev pub superclass : (above : List ℕ) → Field
superclass above = if is_nil above then Empty else To (class_thing above)

-- the superclass of a root class's metaclass is the class named Class
abbrev pub meta_superclass : (above : List ℕ) → Field
meta_superclass above = To (if is_nil above then class_thing (codes "Class") else named what.Metaclass above)

abbrev pub class_fields : (name : List ℕ) → Declared → List Field
class_fields name d =
    superclass d.above
    ∷ To (named what.Dictionary name)
    ∷ Number (specification d.shape d.fields)
    ∷ Empty
    ∷ To (named what.Names name)
    ∷ Empty
    ∷ To (symbol name)
    ∷ To (named what.Pool name)
    ∷ Empty
    ∷ []

-- a class has 9 fixed fields
abbrev pub metaclass_fields : (name : List ℕ) → Declared → List Field
metaclass_fields name d =
    meta_superclass d.above
    ∷ To (named what.MetaDictionary name)
    ∷ Number (specification shape.Fixed 9)
    ∷ Empty
    ∷ Empty
    ∷ Empty
    ∷ To (class_thing name)
    ∷ []

abbrev pub class_content : (name : List ℕ) → Declared → Content
class_content name d = record { class = named what.Metaclass name; body = Fields (class_fields name d) }

abbrev pub eight : List Field
eight = replicate 8 Empty

-- without methods, and with 8 places for selectors
abbrev pub dictionary : (methods : Thing) → Content
dictionary methods = of_fields (codes "MethodDictionary") (Number 0 ∷ To methods ∷ eight)

abbrev pub names_fields : Declared → List Field
names_fields d = all_of (map (within what.Variable d.number) d.variables)

-- the class to which the part of this number gives class variables
abbrev pub sharing : Option Part → List ℕ
sharing (Some (pool p)) = p.class
sharing _ = []

abbrev pub is_shared_of : FirstObjects → (class : List ℕ) → Thing → Bool
is_shared_of p name t = is what.Shared t && bytes_eq name (sharing (slice_get p.parts t.number))

-- TABLES

-- this many places: the first members, and nil where there are no more
abbrev pub padded : (places : ℕ) → List Field → List Field
padded zero fields = []
padded (suc places) [] = Empty ∷ padded places []
padded (suc places) (field ∷ fields) = field ∷ padded places fields

-- each special selector, and its number of arguments
abbrev pub selector_fields : List (List ℕ × ℕ) → List Field
selector_fields [] = []
selector_fields (s ∷ ss) = To (symbol s.0) ∷ Number s.1 ∷ selector_fields ss

-- ALL

abbrev pub content_of : FirstObjects → What → (name : List ℕ) → (number : ℕ) → Content
content_of p what.Nil name number = instance_of p (codes "UndefinedObject")
content_of p what.False name number = instance_of p (codes "False")
content_of p what.True name number = instance_of p (codes "True")
content_of p what.SchedulerAssociation name number = association Empty (To (only what.Scheduler))
content_of p what.Selectors name number = array (selector_fields selectors)
content_of p what.Characters name number = array (all_of characters)
content_of p what.Character name number = of_fields (codes "Character") (Number number ∷ [])
content_of p what.Symbols name number = association Empty (To (numbered what.SymbolTable p.order.places))
content_of p what.SymbolTable name number = array (padded number (members p (is what.Symbol)))
content_of p what.Globals name number = array (members p (is what.Global))
content_of p what.Class name number = class_content name (declared p name)
content_of p what.Metaclass name number = of_fields (codes "Metaclass") (metaclass_fields name (declared p name))
content_of p what.Dictionary name number = dictionary (named what.Methods name)
content_of p what.Methods name number = array eight
content_of p what.MetaDictionary name number = dictionary (named what.MetaMethods name)
content_of p what.MetaMethods name number = array eight
content_of p what.Symbol name number = of_bytes (codes "Symbol") name
content_of p what.Names name number = array (names_fields (declared p name))
content_of p what.Variable name number = of_bytes (codes "String") name
content_of p what.Pool name number = array (members p (is_shared_of p name))
content_of p what.Shared name number = association (To (symbol name)) Empty
content_of p what.Global name number = association (To (symbol name)) (To (class_thing name))
content_of p what.Scheduler name number = of_fields (codes "ProcessorScheduler") (To (only what.Lists) ∷ Empty ∷ [])
content_of p what.Lists name number = array (all_of lists)
content_of p what.List name number = of_fields (codes "LinkedList") (Empty ∷ Empty ∷ [])

abbrev pub content : FirstObjects → Thing → Content
content p t = content_of p t.what t.name t.number
