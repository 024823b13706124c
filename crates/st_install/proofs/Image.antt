-- The image of the rows: the page, a scheduler with one process, and a class Point with the instance variables x and y. The table
-- of globals has pointer 10, the association of Point 18, Point 30, its dictionary 36 with the Array 38, the symbol table 68
-- with the value 70.
use Rattle.std.proofs.Common.{ℕ, List, [], ◌∷◌, Some, None, Option}
use Rattle.std.specs.Prelude.{pos, replicate}
use Rattle.st_model.specs.declared.kind.Kind.TheVariants as kind
use Rattle.st_model.specs.Values.{Value, Small, Ref}
use Rattle.st_model.specs.Objects.{Object, nil}
use Rattle.st_model.specs.Machine.{State, Head, empty_world}
use Rattle.st_model.specs.Table.{Table}

abbrev pub pointers : ℕ → List Value → Option Object
pointers class fields = Some (record { class = class; kind = kind.Pointers; fields = fields; units = [] })

abbrev pub plain : List Value → Option Object
plain fields = pointers 6 fields

abbrev pub bytes : ℕ → List ℕ → Option Object
bytes class units = Some (record { class = class; kind = kind.Bytes; fields = []; units = units })

abbrev pub method : List Value → List ℕ → Option Object
method fields units = Some (record { class = 17; kind = kind.Method; fields = fields; units = units })

abbrev pub context : Option Object
context = pointers 11 (nil ∷ Small 3 ∷ Small 1 ∷ Ref 32 ∷ replicate 14 nil)

-- a class with this dictionary, whose instances have x and y
abbrev pub point : Value → Option Object
point dictionary = plain (nil ∷ dictionary ∷ Small 16386 ∷ nil ∷ Ref 23 ∷ nil ∷ Ref 10 ∷ nil ∷ nil ∷ [])

-- the objects of the image, with Point, its dictionary, the Array of methods and the fields of the symbol table, and others behind
abbrev pub objects : Option Object → Option Object → Option Object → List Value → List (Option Object) → Table
objects class dictionary methods symbols others =
    None ∷ plain [] ∷ plain [] ∷ plain [] ∷ plain (nil ∷ Ref 29 ∷ []) ∷ pointers 8 (Ref 9 ∷ []) ∷ plain [] ∷ plain [] ∷ plain [] ∷ plain (Ref 10 ∷ Ref 15 ∷ [])
    ∷ bytes 28 (80 ∷ 111 ∷ 105 ∷ 110 ∷ 116 ∷ []) ∷ plain [] ∷ plain [] ∷ plain [] ∷ plain [] ∷ class ∷ plain [] ∷ plain [] ∷ dictionary ∷ methods
    ∷ plain [] ∷ plain [] ∷ plain [] ∷ pointers 8 (Ref 27 ∷ Ref 33 ∷ []) ∷ plain [] ∷ plain [] ∷ plain [] ∷ bytes 7 (120 ∷ []) ∷ plain [] ∷ plain (nil ∷ Ref 30 ∷ [])
    ∷ plain (nil ∷ Ref 31 ∷ Small 4 ∷ nil ∷ []) ∷ context ∷ method (Small 128 ∷ []) (118 ∷ 119 ∷ 104 ∷ 163 ∷ 251 ∷ []) ∷ bytes 7 (121 ∷ [])
    ∷ plain (nil ∷ Ref 35 ∷ []) ∷ pointers 8 symbols ∷ others

abbrev pub first_image : Table
first_image = objects (point (Ref 18)) (plain (Small 0 ∷ Ref 19 ∷ nil ∷ nil ∷ [])) (pointers 8 (nil ∷ nil ∷ [])) (nil ∷ nil ∷ nil ∷ nil ∷ []) []

abbrev pub head_with : ℕ → Head
head_with entries = record { entries = entries; words = 1048576; globals = Some (Ref 5); symbols = Some (Ref 34) }

abbrev pub head : Head
head = head_with 32767

-- it names neither table
abbrev pub bare_head : Head
bare_head = record { entries = 32767; words = 1048576; globals = None; symbols = None }

abbrev pub state_of : Head → Table → State Table
state_of a t = record {
  memory = t;
  registers = record { active = Ref 31; home = Ref 31; method = Ref 32; receiver = nil; ip = pos 2; sp = 6 };
  world = empty_world nil;
  head = a;
}

abbrev pub state : Table → State Table
state t = state_of head t
