-- A worked image, computed from the definitions: 24 objects, the last one a method with five bytes.
use Rattle.std.proofs.Common.{◌≡◌, ℕ, ◌/◌, ◌%◌, zero, suc, List, [], ◌∷◌, ◌++◌, replicate, refl}
use Rattle.std.specs.Prelude.{Option, Some, None}
use Rattle.st_model.specs.declared.kind.Kind.TheVariants as kind
use Rattle.st_model.specs.Values.{Value, Small, Ref}
use Rattle.st_model.specs.Objects.{Object, nil}
use Rattle.st_model.specs.Machine.{Head}
use Rattle.st_model.specs.Table.{Table}
use Rattle.st_writer.specs.Written.{used_below, zeros, object_bytes, entry_bytes, text_of}

-- an object of class 12 with these fields
plain : List Value → Option Object
plain fields = Some (record { class = 6; kind = kind.Pointers; fields = fields; units = [] })

context : Object
context = record { class = 11; kind = kind.Pointers; fields = nil ∷ Small 3 ∷ Small 1 ∷ Ref 32 ∷ replicate 14 nil; units = [] }

method : Object
method = record { class = 17; kind = kind.Method; fields = Small 128 ∷ []; units = 118 ∷ 119 ∷ 104 ∷ 163 ∷ 251 ∷ [] }

-- the objects of the root page, the scheduler's association, the scheduler, its process, the context and the method
table : Table
unfolding plain context method
table = None ∷ plain [] ∷ plain [] ∷ plain [] ∷ plain (nil ∷ Ref 29 ∷ []) ∷ None ∷ plain [] ∷ plain [] ∷ plain [] ∷ None ∷ None ∷ plain [] ∷ plain [] ∷ plain [] ∷ plain [] ∷ None
    ∷ plain [] ∷ plain [] ∷ None ∷ None ∷ plain [] ∷ plain [] ∷ plain [] ∷ None ∷ plain [] ∷ plain [] ∷ plain [] ∷ None ∷ plain [] ∷ plain (nil ∷ Ref 30 ∷ [])
    ∷ plain (nil ∷ Ref 31 ∷ Small 4 ∷ nil ∷ []) ∷ Some context ∷ Some method ∷ None ∷ None ∷ []

head : Head
head = record { entries = 32767; words = 1048576; globals = None; symbols = None }

-- THE FILE

bytes_of : List ℕ → List ℕ
bytes_of [] = []
bytes_of (w ∷ ws) = w / 256 ∷ w % 256 ∷ bytes_of ws

bare : ℕ → List ℕ
bare zero = []
bare (suc n) = 2 ∷ 12 ∷ bare n

head_words : List ℕ
head_words = 0 ∷ 78 ∷ 0 ∷ 99 ∷ 21332 ∷ 14384 ∷ 0 ∷ 2 ∷ 0 ∷ 32767 ∷ 16 ∷ 0 ∷ 0 ∷ 0 ∷ 0 ∷ 0 ∷ []

space : List ℕ
unfolding bare
space = bare 3 ++ 4 ∷ 12 ∷ 2 ∷ 58 ∷ bare 16 ++ 4 ∷ 12 ∷ 2 ∷ 60 ∷ 6 ∷ 12 ∷ 2 ∷ 62 ∷ 9 ∷ 2
    ∷ 20 ∷ 22 ∷ 2 ∷ 7 ∷ 3 ∷ 64 ∷ replicate 14 2 ++ 6 ∷ 34 ∷ 257 ∷ 30327 ∷ 26787 ∷ 64256 ∷ []

entries : List ℕ
entries = 32 ∷ 0 ∷ 0 ∷ 64 ∷ 0 ∷ 0 ∷ 64 ∷ 0 ∷ 2 ∷ 64 ∷ 0 ∷ 4 ∷ 64 ∷ 0 ∷ 6 ∷ 32 ∷ 0 ∷ 0 ∷ 64 ∷ 0 ∷ 10 ∷ 64 ∷ 0 ∷ 12 ∷ 64 ∷ 0 ∷ 14 ∷ 32 ∷ 0 ∷ 0 ∷ 32 ∷ 0 ∷ 0 ∷ 64 ∷ 0 ∷ 16 ∷ 64 ∷ 0 ∷ 18 ∷ 64 ∷ 0 ∷ 20 ∷ 64 ∷ 0 ∷ 22 ∷ 32 ∷ 0 ∷ 0 ∷ 64 ∷ 0 ∷ 24 ∷ 64 ∷ 0 ∷ 26 ∷ 32 ∷ 0 ∷ 0 ∷ 32 ∷ 0 ∷ 0 ∷ 64 ∷ 0 ∷ 28 ∷ 64 ∷ 0 ∷ 30 ∷ 64 ∷ 0 ∷ 32 ∷ 32 ∷ 0 ∷ 0 ∷ 64 ∷ 0 ∷ 34 ∷ 64 ∷ 0 ∷ 36 ∷ 64 ∷ 0 ∷ 38 ∷ 32 ∷ 0 ∷ 0 ∷ 64 ∷ 0 ∷ 40 ∷ 64 ∷ 0 ∷ 42 ∷ 64 ∷ 0 ∷ 46 ∷ 64 ∷ 0 ∷ 52 ∷ 128 ∷ 0 ∷ 72 ∷ []

-- THE ROWS

-- the places up to that of the method
places : used_below table 35 ≡ 33
unfolding used_below table
places = refl

-- the method has an odd number of bytes, and begins at word 72
last_entry : entry_bytes (Some method) 72 ≡ 0 ∷ 128 ∷ 0 ∷ 0 ∷ 0 ∷ 72 ∷ []
unfolding method
last_entry = refl

last_object : object_bytes method ≡ 0 ∷ 6 ∷ 0 ∷ 34 ∷ 1 ∷ 1 ∷ 118 ∷ 119 ∷ 104 ∷ 163 ∷ 251 ∷ 0 ∷ []
unfolding method
last_object = refl

-- the location has two words
far_entry : entry_bytes (Some method) 16777210 ≡ 0 ∷ 128 ∷ 0 ∷ 255 ∷ 255 ∷ 250 ∷ []
unfolding method
far_entry = refl

-- words are marked, and strings of an even length aren't
word_entry : entry_bytes (Some (record { class = 6; kind = kind.Words; fields = []; units = 7 ∷ [] })) 0 ≡ 0 ∷ 16 ∷ 0 ∷ 0 ∷ 0 ∷ 0 ∷ []
word_entry = refl

byte_entry : entry_bytes (Some (record { class = 7; kind = kind.Bytes; fields = []; units = 43 ∷ 44 ∷ [] })) 0 ≡ 0 ∷ 0 ∷ 0 ∷ 0 ∷ 0 ∷ 0 ∷ []
byte_entry = refl

-- the whole file
whole_file : text_of table 33 head ≡ bytes_of head_words ++ (replicate 480 0 ++ (bytes_of space ++ (replicate 356 0 ++ bytes_of entries)))
unfolding table head zeros bytes_of head_words space entries
whole_file = refl
