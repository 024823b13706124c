-- Worked rows of the primitives on objects, computed from the definitions: of each one that succeeds, and such as fail at a bound;
-- more of these stand in StorageBounds.antt. Receiver and arguments are the words on the stack; what is popped stays in its field.
use Rattle.std.proofs.Common.{◌≡◌, ℕ, List, [], ◌∷◌, Some, None, Option, Bool, true, false, refl}
use Rattle.std.specs.Prelude.{◌+◌, pos, length, replicate}
use Rattle.st_model.specs.declared.kind.Kind.TheVariants as kind
use Rattle.st_model.specs.declared.dead.Dead.TheVariants as dead
use Rattle.st_model.specs.Values.{Value, Small, Ref}
use Rattle.st_model.specs.Objects.{Object, nil}
use Rattle.st_model.specs.Machine.{State, Transition, Died, Went, empty_world}
use Rattle.st_model.specs.Table.{Table, table}
use Rattle.st_model.specs.Births.{Birth, Births, births}
use Rattle.st_model.specs.Storage.{primitive_say}
use Rattle.st_model.proofs.Opened.{opened, tries}

-- an object of kind Pointers, by half the pointer of its class
unfoldable pub pointers : ℕ → List Value → Option Object
pointers class fields = Some (record { class = class; kind = kind.Pointers; fields = fields; units = [] })

unfoldable pub words : List ℕ → Option Object
words us = Some (record { class = 6; kind = kind.Words; fields = []; units = us })

unfoldable pub bytes : ℕ → List ℕ → Option Object
bytes class us = Some (record { class = class; kind = kind.Bytes; fields = []; units = us })

unfoldable pub method : List Value → List ℕ → Option Object
method fields us = Some (record { class = 17; kind = kind.Method; fields = fields; units = us })

-- a LargePositiveInteger, a String and an Array
unfoldable pub large : List ℕ → Option Object
unfolding bytes
large us = bytes 14 us

unfoldable pub string : List ℕ → Option Object
unfolding bytes
string us = bytes 7 us

unfoldable pub array : List Value → Option Object
unfolding pointers
array fields = pointers 8 fields

-- a class with this instance specification
unfoldable pub class : ℕ → Option Object
unfolding pointers
class specification = pointers 6 (nil ∷ nil ∷ Small specification ∷ [])

-- Objects of the page that the rows ask for, of which the character table has two fields; the class 29 of indexable pointers behind two fixed fields; the active
-- context 30; and from 31 on the objects of a row. New objects go to place 5.
unfoldable pub objects : Option Object → List Value → List (Option Object) → Table
unfolding pointers class
objects new stack others =
    None ∷ pointers 6 [] ∷ pointers 6 [] ∷ pointers 6 [] ∷ pointers 6 [] ∷ new ∷ pointers 6 [] ∷ class 4096 ∷ class 20480
    ∷ pointers 6 [] ∷ pointers 6 [] ∷ pointers 6 [] ∷ pointers 6 [] ∷ pointers 6 [] ∷ pointers 6 [] ∷ None ∷ None ∷ class 16384
    ∷ None ∷ None ∷ pointers 6 []
    ∷ None ∷ None ∷ None ∷ None ∷ pointers 6 (Ref 2 ∷ Ref 3 ∷ []) ∷ None ∷ None ∷ None ∷ class 20482
    ∷ pointers 11 (nil ∷ nil ∷ nil ∷ nil ∷ nil ∷ nil ∷ stack) ∷ others

-- with so many words on the stack; 1000 words are the capacity
unfoldable pub state : ℕ → Table → State Table
state depth t = record {
  memory = t;
  registers = record { active = Ref 30; home = Ref 30; method = nil; receiver = nil; ip = pos 0; sp = 5 + depth };
  world = empty_world nil;
  head = record { entries = 100; words = 1000; globals = None; symbols = None };
}

-- with other capacities
unfoldable pub holding : ℕ → ℕ → State Table → State Table
holding entries words s = record s { head = record { entries = entries; words = words; globals = None; symbols = None } }

-- primitive k with n arguments, where these words are the stack
unfoldable pub trying : ℕ → ℕ → List Value → List (Option Object) → Transition (State Table) Bool
unfolding state objects
trying k n stack others = (tries table k n).run (state (length stack) (objects None stack others))

-- it succeeded: one word is left, the answer
unfoldable pub done : List Value → List (Option Object) → Transition (State Table) Bool
unfolding state objects
done stack others = Went true (state 1 (objects None stack others))

-- and made this object
unfoldable pub made : Option Object → List Value → List (Option Object) → Transition (State Table) Bool
unfolding state objects
made new stack others = Went true (state 1 (objects new stack others))

-- it failed, and nothing is changed
unfoldable pub failed : List Value → List (Option Object) → Transition (State Table) Bool
unfolding state objects
failed stack others = Went false (state (length stack) (objects None stack others))

-- so it does of these
abbrev pub Fails : ℕ → ℕ → List Value → List (Option Object) → Type 0
Fails k n stack others = trying k n stack others ≡ failed stack others

-- 60: the elements of an Array of two; there is none at 0 and 3, at the least and the greatest SmallInteger, and by no other
-- number; a SmallInteger has none, nor has an object whose class has no readable specification
at_array : (trying 60 1 (Ref 31 ∷ Small 1 ∷ []) (array (Small 9 ∷ nil ∷ []) ∷ [])
    ≡ done (Small 9 ∷ Small 1 ∷ []) (array (Small 9 ∷ nil ∷ []) ∷ []))
    × (trying 60 1 (Ref 31 ∷ Small 2 ∷ []) (array (Small 9 ∷ nil ∷ []) ∷ [])
    ≡ done (nil ∷ Small 2 ∷ []) (array (Small 9 ∷ nil ∷ []) ∷ []))
    × Fails 60 1 (Ref 31 ∷ Small 0 ∷ []) (array (Small 9 ∷ nil ∷ []) ∷ [])
    × Fails 60 1 (Ref 31 ∷ Small 3 ∷ []) (array (Small 9 ∷ nil ∷ []) ∷ [])
    × Fails 60 1 (Ref 31 ∷ Small 16384 ∷ []) (array (Small 9 ∷ nil ∷ []) ∷ [])
    × Fails 60 1 (Ref 31 ∷ Small 16383 ∷ []) (array (Small 9 ∷ nil ∷ []) ∷ [])
    × Fails 60 1 (Ref 31 ∷ Ref 32 ∷ []) (array (Small 9 ∷ nil ∷ []) ∷ large (1 ∷ []) ∷ [])
    × Fails 60 1 (Small 5 ∷ Small 1 ∷ []) []
    × Fails 60 1 (Ref 31 ∷ Small 1 ∷ []) (pointers 1 (Small 9 ∷ []) ∷ [])
unfolding opened trying done failed state objects array pointers class large bytes
at_array = (refl, refl, refl, refl, refl, refl, refl, refl, refl)

-- another number of arguments fails
other_number : Fails 60 0 (Ref 31 ∷ []) (array (Small 9 ∷ []) ∷ [])
    × Fails 62 1 (Ref 31 ∷ Small 1 ∷ []) (array (Small 9 ∷ []) ∷ [])
unfolding opened trying failed state objects array pointers class
other_number = (refl, refl)

-- behind two fixed fields; a word above 16383 as a new number; a byte; and a Method's bytes from the first bytecode on
at_others : (trying 60 1 (Ref 31 ∷ Small 1 ∷ []) (pointers 29 (Small 7 ∷ Small 8 ∷ Small 9 ∷ []) ∷ [])
    ≡ done (Small 9 ∷ Small 1 ∷ []) (pointers 29 (Small 7 ∷ Small 8 ∷ Small 9 ∷ []) ∷ []))
    × Fails 60 1 (Ref 31 ∷ Small 2 ∷ []) (pointers 29 (Small 7 ∷ Small 8 ∷ Small 9 ∷ []) ∷ [])
    × (trying 60 1 (Ref 31 ∷ Small 1 ∷ []) (words (16383 ∷ []) ∷ []) ≡ done (Small 16383 ∷ Small 1 ∷ []) (words (16383 ∷ []) ∷ []))
    × (trying 60 1 (Ref 31 ∷ Small 1 ∷ []) (words (16384 ∷ []) ∷ [])
    ≡ made (large (0 ∷ 64 ∷ [])) (Ref 5 ∷ Small 1 ∷ []) (words (16384 ∷ []) ∷ []))
    × (trying 60 1 (Ref 31 ∷ Small 1 ∷ []) (words (65535 ∷ []) ∷ [])
    ≡ made (large (255 ∷ 255 ∷ [])) (Ref 5 ∷ Small 1 ∷ []) (words (65535 ∷ []) ∷ []))
    × (trying 60 1 (Ref 31 ∷ Small 2 ∷ []) (string (7 ∷ 255 ∷ []) ∷ [])
    ≡ done (Small 255 ∷ Small 2 ∷ []) (string (7 ∷ 255 ∷ []) ∷ []))
    × (trying 60 1 (Ref 31 ∷ Small 5 ∷ []) (method (Small 1 ∷ nil ∷ []) (120 ∷ 121 ∷ []) ∷ [])
    ≡ done (Small 120 ∷ Small 5 ∷ []) (method (Small 1 ∷ nil ∷ []) (120 ∷ 121 ∷ []) ∷ []))
    × Fails 60 1 (Ref 31 ∷ Small 4 ∷ []) (method (Small 1 ∷ nil ∷ []) (120 ∷ 121 ∷ []) ∷ [])
    × Fails 60 1 (Ref 31 ∷ Small 7 ∷ []) (method (Small 1 ∷ nil ∷ []) (120 ∷ 121 ∷ []) ∷ [])
unfolding opened trying done made failed state objects string method words pointers class large bytes
at_others = (refl, refl, refl, refl, refl, refl, refl, refl, refl)

-- 61: a field takes any value, the first behind the fixed ones
put_field : (trying 61 2 (Ref 31 ∷ Small 1 ∷ Ref 29 ∷ []) (pointers 29 (Small 7 ∷ Small 8 ∷ Small 9 ∷ []) ∷ [])
    ≡ done (Ref 29 ∷ Small 1 ∷ Ref 29 ∷ []) (pointers 29 (Small 7 ∷ Small 8 ∷ Ref 29 ∷ []) ∷ []))
    × Fails 61 2 (Ref 31 ∷ Small 2 ∷ Ref 29 ∷ []) (pointers 29 (Small 7 ∷ Small 8 ∷ Small 9 ∷ []) ∷ [])
    × Fails 61 2 (Ref 31 ∷ Small 0 ∷ Ref 29 ∷ []) (pointers 29 (Small 7 ∷ Small 8 ∷ Small 9 ∷ []) ∷ [])
unfolding opened trying done failed state objects pointers class
put_field = (refl, refl, refl)

-- a word takes numbers to 65535, SmallIntegers or LargePositiveIntegers of 1 to 4 bytes
put_word : (trying 61 2 (Ref 31 ∷ Small 1 ∷ Ref 32 ∷ []) (words (7 ∷ []) ∷ large (255 ∷ 255 ∷ []) ∷ [])
    ≡ done (Ref 32 ∷ Small 1 ∷ Ref 32 ∷ []) (words (65535 ∷ []) ∷ large (255 ∷ 255 ∷ []) ∷ []))
    × Fails 61 2 (Ref 31 ∷ Small 1 ∷ Ref 32 ∷ []) (words (7 ∷ []) ∷ large (0 ∷ 0 ∷ 1 ∷ []) ∷ [])
    × (trying 61 2 (Ref 31 ∷ Small 1 ∷ Ref 32 ∷ []) (words (7 ∷ []) ∷ large (5 ∷ 0 ∷ 0 ∷ 0 ∷ []) ∷ [])
    ≡ done (Ref 32 ∷ Small 1 ∷ Ref 32 ∷ []) (words (5 ∷ []) ∷ large (5 ∷ 0 ∷ 0 ∷ 0 ∷ []) ∷ []))
    × Fails 61 2 (Ref 31 ∷ Small 1 ∷ Ref 32 ∷ []) (words (7 ∷ []) ∷ large (5 ∷ 0 ∷ 0 ∷ 0 ∷ 0 ∷ []) ∷ [])
    × Fails 61 2 (Ref 31 ∷ Small 1 ∷ Ref 32 ∷ []) (words (7 ∷ []) ∷ large [] ∷ [])
    × Fails 61 2 (Ref 31 ∷ Small 1 ∷ Ref 32 ∷ []) (words (7 ∷ []) ∷ pointers 14 (Small 1 ∷ []) ∷ [])
    × Fails 61 2 (Ref 31 ∷ Small 1 ∷ Small 32767 ∷ []) (words (7 ∷ []) ∷ [])
unfolding opened trying done failed state objects words pointers class large bytes
put_word = (refl, refl, refl, refl, refl, refl, refl)

-- a byte takes SmallIntegers from 0 to 255; in a Method only a bytecode is reached
put_byte : (trying 61 2 (Ref 31 ∷ Small 1 ∷ Small 255 ∷ []) (string (7 ∷ []) ∷ [])
    ≡ done (Small 255 ∷ Small 1 ∷ Small 255 ∷ []) (string (255 ∷ []) ∷ []))
    × Fails 61 2 (Ref 31 ∷ Small 1 ∷ Small 256 ∷ []) (string (7 ∷ []) ∷ [])
    × Fails 61 2 (Ref 31 ∷ Small 1 ∷ Small 32767 ∷ []) (string (7 ∷ []) ∷ [])
    × (trying 61 2 (Ref 31 ∷ Small 3 ∷ Small 9 ∷ []) (method (Small 0 ∷ []) (120 ∷ []) ∷ [])
    ≡ done (Small 9 ∷ Small 3 ∷ Small 9 ∷ []) (method (Small 0 ∷ []) (9 ∷ []) ∷ []))
    × Fails 61 2 (Ref 31 ∷ Small 2 ∷ Small 9 ∷ []) (method (Small 0 ∷ []) (120 ∷ []) ∷ [])
unfolding opened trying done failed state objects string method pointers class bytes
put_byte = (refl, refl, refl, refl, refl)

-- 62: fields without the fixed ones, which the class is to say, below 0 where there are fewer; words; a Method's bytes, all of
-- them
sizes : (trying 62 0 (Ref 31 ∷ []) (pointers 29 (Small 7 ∷ Small 8 ∷ Small 9 ∷ []) ∷ [])
    ≡ done (Small 1 ∷ []) (pointers 29 (Small 7 ∷ Small 8 ∷ Small 9 ∷ []) ∷ []))
    × (trying 62 0 (Ref 31 ∷ []) (pointers 29 [] ∷ []) ≡ done (Small 32766 ∷ []) (pointers 29 [] ∷ []))
    × Fails 62 0 (Ref 31 ∷ []) (pointers 1 (Small 9 ∷ []) ∷ [])
    × (trying 62 0 (Ref 31 ∷ []) (words (1 ∷ 2 ∷ []) ∷ []) ≡ done (Small 2 ∷ []) (words (1 ∷ 2 ∷ []) ∷ []))
    × (trying 62 0 (Ref 31 ∷ []) (method (Small 1 ∷ nil ∷ []) (120 ∷ []) ∷ [])
    ≡ done (Small 5 ∷ []) (method (Small 1 ∷ nil ∷ []) (120 ∷ []) ∷ []))
    × Fails 62 0 (Small 5 ∷ []) []
unfolding opened trying done failed state objects words method pointers class
sizes = (refl, refl, refl, refl, refl, refl)

-- 63: the Character of byte 1 is field 1 of the table, which has none for byte 2; the receiver is of kind Bytes
characters : (trying 63 1 (Ref 31 ∷ Small 2 ∷ []) (string (2 ∷ 1 ∷ []) ∷ [])
    ≡ done (Ref 3 ∷ Small 2 ∷ []) (string (2 ∷ 1 ∷ []) ∷ []))
    × Fails 63 1 (Ref 31 ∷ Small 1 ∷ []) (string (2 ∷ 1 ∷ []) ∷ [])
    × Fails 63 1 (Ref 31 ∷ Small 0 ∷ []) (string (1 ∷ []) ∷ [])
    × Fails 63 1 (Ref 31 ∷ Small 2 ∷ []) (string (1 ∷ []) ∷ [])
    × Fails 63 1 (Ref 31 ∷ Small 3 ∷ []) (method (Small 0 ∷ []) (1 ∷ []) ∷ [])
unfolding opened trying done failed state objects string method pointers class bytes
characters = (refl, refl, refl, refl, refl)

-- 64: the byte of a Character, which is to be its field 0 and from 0 to 255
put_character : (trying 64 2 (Ref 31 ∷ Small 1 ∷ Ref 32 ∷ []) (string (7 ∷ []) ∷ pointers 20 (Small 255 ∷ []) ∷ [])
    ≡ done (Ref 32 ∷ Small 1 ∷ Ref 32 ∷ []) (string (255 ∷ []) ∷ pointers 20 (Small 255 ∷ []) ∷ []))
    × Fails 64 2 (Ref 31 ∷ Small 1 ∷ Ref 32 ∷ []) (string (7 ∷ []) ∷ pointers 20 (Small 256 ∷ []) ∷ [])
    × Fails 64 2 (Ref 31 ∷ Small 1 ∷ Ref 32 ∷ []) (string (7 ∷ []) ∷ pointers 20 (Small 32767 ∷ []) ∷ [])
    × Fails 64 2 (Ref 31 ∷ Small 1 ∷ Ref 32 ∷ []) (string (7 ∷ []) ∷ pointers 8 (Small 1 ∷ []) ∷ [])
    × Fails 64 2 (Ref 31 ∷ Small 2 ∷ Ref 32 ∷ []) (string (7 ∷ []) ∷ pointers 20 (Small 1 ∷ []) ∷ [])
    × Fails 64 2 (Ref 31 ∷ Small 1 ∷ Small 1 ∷ []) (string (7 ∷ []) ∷ [])
unfolding opened trying done failed state objects string pointers class bytes
put_character = (refl, refl, refl, refl, refl, refl)

-- a stream on the collection 32, with this position and these limits of reading and writing
unfoldable pub stream : ℕ → ℕ → ℕ → Option Object
unfolding pointers
stream position read write = pointers 6 (Ref 32 ∷ Small position ∷ Small read ∷ Small write ∷ [])

-- 65: the element at the position, which is at least 0, below the limit and within the collection
nexts : (trying 65 0 (Ref 31 ∷ []) (stream 1 2 0 ∷ array (Small 8 ∷ Small 9 ∷ []) ∷ [])
    ≡ done (Small 9 ∷ []) (stream 2 2 0 ∷ array (Small 8 ∷ Small 9 ∷ []) ∷ []))
    × Fails 65 0 (Ref 31 ∷ []) (stream 1 1 9 ∷ array (Small 8 ∷ Small 9 ∷ []) ∷ [])
    × Fails 65 0 (Ref 31 ∷ []) (stream 2 9 9 ∷ array (Small 8 ∷ Small 9 ∷ []) ∷ [])
    × Fails 65 0 (Ref 31 ∷ []) (stream 32767 9 9 ∷ array (Small 8 ∷ Small 9 ∷ []) ∷ [])
    × (trying 65 0 (Ref 31 ∷ []) (stream 0 1 0 ∷ string (1 ∷ []) ∷ []) ≡ done (Ref 3 ∷ []) (stream 1 1 0 ∷ string (1 ∷ []) ∷ []))
    × Fails 65 0 (Ref 31 ∷ []) (stream 0 1 0 ∷ string (2 ∷ []) ∷ [])
    × Fails 65 0 (Ref 31 ∷ []) (stream 0 1 0 ∷ pointers 29 (nil ∷ []) ∷ [])
unfolding opened trying done failed state objects stream array string pointers class bytes
nexts = (refl, refl, refl, refl, refl, refl, refl)

-- a stream whose Array is itself: the position is the element, as it was before it rose
next_of_itself : trying 65 0 (Ref 31 ∷ []) (array (Ref 31 ∷ Small 1 ∷ Small 4 ∷ []) ∷ [])
    ≡ done (Small 1 ∷ []) (array (Ref 31 ∷ Small 2 ∷ Small 4 ∷ []) ∷ [])
unfolding opened trying done state objects array pointers class
next_of_itself = refl

-- 66: the limit of writing counts
put_nexts : (trying 66 1 (Ref 31 ∷ Ref 3 ∷ []) (stream 1 0 2 ∷ array (Small 8 ∷ Small 9 ∷ []) ∷ [])
    ≡ done (Ref 3 ∷ Ref 3 ∷ []) (stream 2 0 2 ∷ array (Small 8 ∷ Ref 3 ∷ []) ∷ []))
    × Fails 66 1 (Ref 31 ∷ Ref 3 ∷ []) (stream 1 9 1 ∷ array (Small 8 ∷ Small 9 ∷ []) ∷ [])
    × Fails 66 1 (Ref 31 ∷ Ref 3 ∷ []) (stream 2 9 9 ∷ array (Small 8 ∷ Small 9 ∷ []) ∷ [])
    × (trying 66 1 (Ref 31 ∷ Ref 33 ∷ []) (stream 0 0 1 ∷ string (1 ∷ []) ∷ pointers 20 (Small 65 ∷ []) ∷ [])
    ≡ done (Ref 33 ∷ Ref 33 ∷ []) (stream 1 0 1 ∷ string (65 ∷ []) ∷ pointers 20 (Small 65 ∷ []) ∷ []))
    × Fails 66 1 (Ref 31 ∷ Small 65 ∷ []) (stream 0 0 1 ∷ string (1 ∷ []) ∷ [])
unfolding opened trying done failed state objects stream array string pointers class bytes
put_nexts = (refl, refl, refl, refl, refl)

-- the byte that is overwritten must have a Character in the table, which has none for byte 2
put_next_over : Fails 66 1 (Ref 31 ∷ Ref 33 ∷ []) (stream 0 0 1 ∷ string (2 ∷ []) ∷ pointers 20 (Small 65 ∷ []) ∷ [])
unfolding opened trying failed state objects stream string pointers class bytes
put_next_over = refl

-- also where the element was stored into the position
put_next_into_itself : trying 66 1 (Ref 31 ∷ Ref 3 ∷ []) (array (Ref 31 ∷ Small 1 ∷ nil ∷ Small 4 ∷ []) ∷ [])
    ≡ done (Ref 3 ∷ Ref 3 ∷ []) (array (Ref 31 ∷ Small 2 ∷ nil ∷ Small 4 ∷ []) ∷ [])
unfolding opened trying done state objects array pointers class
put_next_into_itself = refl

-- 67: at the limit, at the collection's end, or neither; fields 1 and 2 are SmallIntegers, and the collection an Array or String
ends : (trying 67 0 (Ref 31 ∷ []) (stream 1 1 0 ∷ array (nil ∷ nil ∷ []) ∷ [])
    ≡ done (Ref 3 ∷ []) (stream 1 1 0 ∷ array (nil ∷ nil ∷ []) ∷ []))
    × (trying 67 0 (Ref 31 ∷ []) (stream 2 9 0 ∷ array (nil ∷ nil ∷ []) ∷ [])
    ≡ done (Ref 3 ∷ []) (stream 2 9 0 ∷ array (nil ∷ nil ∷ []) ∷ []))
    × (trying 67 0 (Ref 31 ∷ []) (stream 1 2 0 ∷ array (nil ∷ nil ∷ []) ∷ [])
    ≡ done (Ref 2 ∷ []) (stream 1 2 0 ∷ array (nil ∷ nil ∷ []) ∷ []))
    × (trying 67 0 (Ref 31 ∷ []) (stream 32767 0 0 ∷ string [] ∷ []) ≡ done (Ref 2 ∷ []) (stream 32767 0 0 ∷ string [] ∷ []))
    × Fails 67 0 (Ref 31 ∷ []) (stream 1 2 0 ∷ pointers 29 [] ∷ [])
    × Fails 67 0 (Ref 31 ∷ []) (pointers 6 (Ref 32 ∷ Small 1 ∷ nil ∷ []) ∷ array [] ∷ [])
unfolding opened trying done failed state objects stream array string pointers class bytes
ends = (refl, refl, refl, refl, refl, refl)

-- 68: index 1 is the header, and 2 the one literal
literals : (trying 68 1 (Ref 31 ∷ Small 1 ∷ []) (method (Small 1 ∷ Ref 3 ∷ []) (9 ∷ []) ∷ [])
    ≡ done (Small 1 ∷ Small 1 ∷ []) (method (Small 1 ∷ Ref 3 ∷ []) (9 ∷ []) ∷ []))
    × (trying 68 1 (Ref 31 ∷ Small 2 ∷ []) (method (Small 1 ∷ Ref 3 ∷ []) (9 ∷ []) ∷ [])
    ≡ done (Ref 3 ∷ Small 2 ∷ []) (method (Small 1 ∷ Ref 3 ∷ []) (9 ∷ []) ∷ []))
    × Fails 68 1 (Ref 31 ∷ Small 3 ∷ []) (method (Small 1 ∷ Ref 3 ∷ []) (9 ∷ []) ∷ [])
    × Fails 68 1 (Ref 31 ∷ Small 0 ∷ []) (method (Small 1 ∷ Ref 3 ∷ []) (9 ∷ []) ∷ [])
    × Fails 68 1 (Ref 31 ∷ Small 1 ∷ []) (array (nil ∷ []) ∷ [])
unfolding opened trying done failed state objects method array pointers class
literals = (refl, refl, refl, refl, refl)

-- 69: a header with as many literals, 1, and another temporary count; one with 2 literals fails, and what isn't a SmallInteger
put_literals : (trying 69 2 (Ref 31 ∷ Small 1 ∷ Small 129 ∷ []) (method (Small 1 ∷ nil ∷ []) [] ∷ [])
    ≡ done (Small 129 ∷ Small 1 ∷ Small 129 ∷ []) (method (Small 129 ∷ nil ∷ []) [] ∷ []))
    × Fails 69 2 (Ref 31 ∷ Small 1 ∷ Small 130 ∷ []) (method (Small 1 ∷ nil ∷ []) [] ∷ [])
    × Fails 69 2 (Ref 31 ∷ Small 1 ∷ Ref 3 ∷ []) (method (Small 1 ∷ nil ∷ []) [] ∷ [])
    × (trying 69 2 (Ref 31 ∷ Small 2 ∷ Ref 3 ∷ []) (method (Small 1 ∷ nil ∷ []) [] ∷ [])
    ≡ done (Ref 3 ∷ Small 2 ∷ Ref 3 ∷ []) (method (Small 1 ∷ Ref 3 ∷ []) [] ∷ []))
    × Fails 69 2 (Ref 31 ∷ Small 3 ∷ Ref 3 ∷ []) (method (Small 1 ∷ nil ∷ []) [] ∷ [])
unfolding opened trying done failed state objects method pointers class
put_literals = (refl, refl, refl, refl, refl)

-- 70: of two fixed fields; without pointers it is of kind Words; an indexable class fails, and CompiledMethod, and what has no
-- readable specification
news : (trying 70 0 (Ref 31 ∷ []) (class 16386 ∷ []) ≡ made (pointers 31 (nil ∷ nil ∷ [])) (Ref 5 ∷ []) (class 16386 ∷ []))
    × (trying 70 0 (Ref 31 ∷ []) (class 2 ∷ [])
    ≡ made (Some (record { class = 31; kind = kind.Words; fields = []; units = 0 ∷ 0 ∷ [] })) (Ref 5 ∷ []) (class 2 ∷ []))
    × Fails 70 0 (Ref 31 ∷ []) (class 20480 ∷ [])
    × Fails 70 0 (Ref 17 ∷ []) []
    × Fails 70 0 (Ref 31 ∷ []) (pointers 6 (nil ∷ nil ∷ nil ∷ []) ∷ [])
    × Fails 70 0 (Ref 31 ∷ []) (string (1 ∷ 2 ∷ 3 ∷ []) ∷ [])
    × Fails 70 0 (Small 5 ∷ []) []
unfolding opened trying made failed state objects string pointers class bytes
news = (refl, refl, refl, refl, refl, refl, refl)

-- 71: fixed fields and indexed ones, words, or bytes; V(a) is a SmallInteger from 0 or a LargePositiveInteger of 1 to 4 bytes
new_withs : (trying 71 1 (Ref 29 ∷ Small 1 ∷ []) [] ≡ made (pointers 29 (nil ∷ nil ∷ nil ∷ [])) (Ref 5 ∷ Small 1 ∷ []) [])
    × (trying 71 1 (Ref 31 ∷ Ref 32 ∷ []) (class 12289 ∷ large (1 ∷ 0 ∷ 0 ∷ 0 ∷ []) ∷ [])
    ≡ made (Some (record { class = 31; kind = kind.Words; fields = []; units = 0 ∷ 0 ∷ [] })) (Ref 5 ∷ Ref 32 ∷ [])
    (class 12289 ∷ large (1 ∷ 0 ∷ 0 ∷ 0 ∷ []) ∷ []))
    × (trying 71 1 (Ref 31 ∷ Small 2 ∷ []) (class 4097 ∷ [])
    ≡ made (bytes 31 (0 ∷ 0 ∷ 0 ∷ [])) (Ref 5 ∷ Small 2 ∷ []) (class 4097 ∷ []))
    × Fails 71 1 (Ref 29 ∷ Small 32767 ∷ []) []
    × Fails 71 1 (Ref 29 ∷ Ref 31 ∷ []) (large [] ∷ [])
    × Fails 71 1 (Ref 29 ∷ Ref 31 ∷ []) (large (1 ∷ 0 ∷ 0 ∷ 0 ∷ 0 ∷ []) ∷ [])
    × Fails 71 1 (Ref 29 ∷ Ref 31 ∷ []) (large (replicate 17 1) ∷ [])
    × Fails 71 1 (Ref 29 ∷ Ref 31 ∷ []) (large (255 ∷ 255 ∷ 255 ∷ 255 ∷ []) ∷ [])
    × Fails 71 1 (Ref 31 ∷ Small 1 ∷ []) (class 16386 ∷ [])
    × Fails 71 1 (Ref 17 ∷ Small 1 ∷ []) []
unfolding opened trying made failed state objects pointers class large bytes
new_withs = (refl, refl, refl, refl, refl, refl, refl, refl, refl, refl)

-- one word more than a body has: 65532 fields and two fixed ones, 65534 words, and 131067 bytes
too_large : Fails 71 1 (Ref 29 ∷ Ref 31 ∷ []) (large (252 ∷ 255 ∷ []) ∷ [])
    × Fails 71 1 (Ref 32 ∷ Ref 31 ∷ []) (large (254 ∷ 255 ∷ []) ∷ class 12288 ∷ [])
    × Fails 71 1 (Ref 7 ∷ Ref 31 ∷ []) (large (251 ∷ 255 ∷ 1 ∷ []) ∷ [])
unfolding opened trying failed state objects pointers class large bytes
too_large = (refl, refl, refl)

-- 72: class and body are exchanged, and the answer is the receiver's pointer, also of a class and its instance; no SmallInteger
-- is exchanged
becomes : (trying 72 1 (Ref 31 ∷ Ref 32 ∷ []) (array (nil ∷ []) ∷ string (1 ∷ []) ∷ [])
    ≡ done (Ref 31 ∷ Ref 32 ∷ []) (string (1 ∷ []) ∷ array (nil ∷ []) ∷ []))
    × (trying 72 1 (Ref 31 ∷ Ref 32 ∷ []) (class 16386 ∷ pointers 31 (nil ∷ nil ∷ []) ∷ [])
    ≡ done (Ref 31 ∷ Ref 32 ∷ []) (pointers 31 (nil ∷ nil ∷ []) ∷ class 16386 ∷ []))
    × Fails 72 1 (Ref 31 ∷ Small 1 ∷ []) (array (nil ∷ []) ∷ [])
    × Fails 72 1 (Small 1 ∷ Ref 31 ∷ []) (array (nil ∷ []) ∷ [])
unfolding opened trying done failed state objects array string pointers class bytes
becomes = (refl, refl, refl, refl)

-- of the active context: its words are popped from what its pointer names then, the argument first
become_active : (trying 72 1 (Ref 30 ∷ Ref 31 ∷ []) (pointers 6 [] ∷ []) ≡ Died dead.Field)
    × (trying 72 1 (Ref 30 ∷ Ref 31 ∷ []) (string (1 ∷ []) ∷ []) ≡ Died dead.Kind)
    × (trying 72 1 (Ref 30 ∷ Ref 31 ∷ []) (pointers 6 (replicate 7 nil) ∷ []) ≡ Died dead.Field)
unfolding opened trying state objects string pointers class bytes
become_active = (refl, refl, refl)

-- 73 and 74: as 60 and 61, and the fixed fields count
instance_variables : (trying 73 1 (Ref 31 ∷ Small 1 ∷ []) (pointers 29 (Small 7 ∷ []) ∷ [])
    ≡ done (Small 7 ∷ Small 1 ∷ []) (pointers 29 (Small 7 ∷ []) ∷ []))
    × Fails 73 1 (Ref 31 ∷ Small 2 ∷ []) (pointers 29 (Small 7 ∷ []) ∷ [])
    × (trying 74 2 (Ref 31 ∷ Small 1 ∷ nil ∷ []) (pointers 29 (Small 7 ∷ []) ∷ [])
    ≡ done (nil ∷ Small 1 ∷ nil ∷ []) (pointers 29 (nil ∷ []) ∷ []))
    × Fails 74 2 (Ref 31 ∷ Small 0 ∷ nil ∷ []) (pointers 29 (Small 7 ∷ []) ∷ [])
unfolding opened trying done failed state objects pointers class
instance_variables = (refl, refl, refl, refl)

-- of a Method the bytes are reached alone, as by 60 and 61
instance_bytes : (trying 73 1 (Ref 31 ∷ Small 4 ∷ []) (method (Small 0 ∷ []) (120 ∷ 121 ∷ []) ∷ [])
    ≡ done (Small 121 ∷ Small 4 ∷ []) (method (Small 0 ∷ []) (120 ∷ 121 ∷ []) ∷ []))
    × Fails 73 1 (Ref 31 ∷ Small 2 ∷ []) (method (Small 0 ∷ []) (120 ∷ 121 ∷ []) ∷ [])
    × (trying 74 2 (Ref 31 ∷ Small 3 ∷ Small 9 ∷ []) (method (Small 0 ∷ []) (120 ∷ 121 ∷ []) ∷ [])
    ≡ done (Small 9 ∷ Small 3 ∷ Small 9 ∷ []) (method (Small 0 ∷ []) (9 ∷ 121 ∷ []) ∷ []))
    × Fails 74 2 (Ref 31 ∷ Small 2 ∷ Small 9 ∷ []) (method (Small 0 ∷ []) (120 ∷ 121 ∷ []) ∷ [])
    × Fails 74 2 (Ref 31 ∷ Small 3 ∷ Small 256 ∷ []) (method (Small 0 ∷ []) (120 ∷ 121 ∷ []) ∷ [])
unfolding opened trying done failed state objects method pointers class
instance_bytes = (refl, refl, refl, refl, refl)

-- 75 and 76: the pointer 62 is the word of the SmallInteger 31, less 1; 54 is free, and 65534 too
as_numbers : (trying 75 0 (Ref 31 ∷ []) (array [] ∷ []) ≡ done (Small 31 ∷ []) (array [] ∷ []))
    × Fails 75 0 (Small 31 ∷ []) []
    × (trying 76 0 (Small 31 ∷ []) (array [] ∷ []) ≡ done (Ref 31 ∷ []) (array [] ∷ []))
    × Fails 76 0 (Small 27 ∷ []) []
    × Fails 76 0 (Small 32767 ∷ []) []
    × Fails 76 0 (Small 0 ∷ []) []
    × Fails 76 0 (Ref 31 ∷ []) (array [] ∷ [])
unfolding opened trying done failed state objects array pointers class
as_numbers = (refl, refl, refl, refl, refl, refl, refl)

-- 77 and 78: the instances of Array are 31 and 33
instances : (trying 77 0 (Ref 8 ∷ []) (array [] ∷ string [] ∷ array [] ∷ [])
    ≡ done (Ref 31 ∷ []) (array [] ∷ string [] ∷ array [] ∷ []))
    × Fails 77 0 (Ref 14 ∷ []) (array [] ∷ [])
    × (trying 78 0 (Ref 31 ∷ []) (array [] ∷ string [] ∷ array [] ∷ []) ≡ done (Ref 33 ∷ []) (array [] ∷ string [] ∷ array [] ∷ []))
    × Fails 78 0 (Ref 33 ∷ []) (array [] ∷ string [] ∷ array [] ∷ [])
    × Fails 78 0 (Small 1 ∷ []) []
    × Fails 77 0 (Small 1 ∷ []) []
unfolding opened trying done failed state objects array string pointers class bytes
instances = (refl, refl, refl, refl, refl, refl)

birth : ℕ → ℕ → Bool → List Value → Birth
birth class pointer kept fields = record {
  object = record { class = class; kind = kind.Pointers; fields = fields; units = [] };
  pointer = pointer;
  kept = kept;
}

-- births that bear their pointers in another order, after the active context, whose word at the top this is: two instances of the
-- class 3, that class, an instance that is not kept, and a third one
born : Value → State Births
unfolding birth
born v = record {
  memory = birth 0 30 true (nil ∷ nil ∷ nil ∷ nil ∷ nil ∷ nil ∷ v ∷ [])
      ∷ birth 3 40 true [] ∷ birth 3 35 true [] ∷ birth 0 8 true [] ∷ birth 3 32 false [] ∷ birth 3 45 true [] ∷ [];
  registers = record { active = Ref 0; home = Ref 0; method = nil; receiver = nil; ip = pos 0; sp = 6 };
  world = empty_world nil;
  head = record { entries = 100; words = 1000; globals = None; symbols = None };
}

-- 75 to 78 go by the pointers of the kept ones, and by no birth number
by_pointers : ((tries births 75 0).run (born (Ref 1)) ≡ Went true (born (Small 40)))
    × ((tries births 76 0).run (born (Small 35)) ≡ Went true (born (Ref 2)))
    × ((tries births 76 0).run (born (Small 32)) ≡ Went false (born (Small 32)))
    × ((tries births 77 0).run (born (Ref 3)) ≡ Went true (born (Ref 2)))
    × ((tries births 78 0).run (born (Ref 2)) ≡ Went true (born (Ref 1)))
    × ((tries births 78 0).run (born (Ref 1)) ≡ Went true (born (Ref 5)))
    × ((tries births 78 0).run (born (Ref 5)) ≡ Went false (born (Ref 5)))
unfolding opened born birth
by_pointers = (refl, refl, refl, refl, refl, refl, refl)

-- 79: a header of one literal and three bytes
new_methods : (trying 79 2 (Ref 17 ∷ Small 3 ∷ Small 129 ∷ []) []
    ≡ made (method (Small 129 ∷ nil ∷ []) (0 ∷ 0 ∷ 0 ∷ [])) (Ref 5 ∷ Small 3 ∷ Small 129 ∷ []) [])
    × Fails 79 2 (Ref 8 ∷ Small 3 ∷ Small 129 ∷ []) []
    × Fails 79 2 (Ref 17 ∷ Small 32767 ∷ Small 129 ∷ []) []
    × Fails 79 2 (Ref 17 ∷ Small 3 ∷ nil ∷ []) []
unfolding opened trying made failed state objects method pointers class
new_methods = (refl, refl, refl, refl)

-- 105: within one object the bytes are copied as they were before; from 3 to 2 none are; each bound, one too far
replacements : (trying 105 4 (Ref 31 ∷ Small 2 ∷ Small 4 ∷ Ref 31 ∷ Small 1 ∷ []) (string (1 ∷ 2 ∷ 3 ∷ 4 ∷ []) ∷ [])
    ≡ done (Ref 31 ∷ Small 2 ∷ Small 4 ∷ Ref 31 ∷ Small 1 ∷ []) (string (1 ∷ 1 ∷ 2 ∷ 3 ∷ []) ∷ []))
    × (trying 105 4 (Ref 31 ∷ Small 1 ∷ Small 3 ∷ Ref 31 ∷ Small 2 ∷ []) (string (1 ∷ 2 ∷ 3 ∷ 4 ∷ []) ∷ [])
    ≡ done (Ref 31 ∷ Small 1 ∷ Small 3 ∷ Ref 31 ∷ Small 2 ∷ []) (string (2 ∷ 3 ∷ 4 ∷ 4 ∷ []) ∷ []))
    × (trying 105 4 (Ref 31 ∷ Small 1 ∷ Small 2 ∷ Ref 32 ∷ Small 2 ∷ []) (string (1 ∷ 2 ∷ []) ∷ large (7 ∷ 8 ∷ 9 ∷ []) ∷ [])
    ≡ done (Ref 31 ∷ Small 1 ∷ Small 2 ∷ Ref 32 ∷ Small 2 ∷ []) (string (8 ∷ 9 ∷ []) ∷ large (7 ∷ 8 ∷ 9 ∷ []) ∷ []))
    × (trying 105 4 (Ref 31 ∷ Small 3 ∷ Small 2 ∷ Ref 32 ∷ Small 4 ∷ []) (string (1 ∷ 2 ∷ []) ∷ large (7 ∷ 8 ∷ 9 ∷ []) ∷ [])
    ≡ done (Ref 31 ∷ Small 3 ∷ Small 2 ∷ Ref 32 ∷ Small 4 ∷ []) (string (1 ∷ 2 ∷ []) ∷ large (7 ∷ 8 ∷ 9 ∷ []) ∷ []))
    × Fails 105 4 (Ref 31 ∷ Small 3 ∷ Small 2 ∷ Ref 32 ∷ Small 5 ∷ []) (string (1 ∷ 2 ∷ []) ∷ large (7 ∷ 8 ∷ 9 ∷ []) ∷ [])
    × Fails 105 4 (Ref 31 ∷ Small 1 ∷ Small 2 ∷ Ref 32 ∷ Small 3 ∷ []) (string (1 ∷ 2 ∷ []) ∷ large (7 ∷ 8 ∷ 9 ∷ []) ∷ [])
    × Fails 105 4 (Ref 31 ∷ Small 2 ∷ Small 3 ∷ Ref 32 ∷ Small 1 ∷ []) (string (1 ∷ 2 ∷ []) ∷ large (7 ∷ 8 ∷ 9 ∷ []) ∷ [])
    × Fails 105 4 (Ref 31 ∷ Small 0 ∷ Small 1 ∷ Ref 32 ∷ Small 1 ∷ []) (string (1 ∷ 2 ∷ []) ∷ large (7 ∷ 8 ∷ 9 ∷ []) ∷ [])
    × Fails 105 4 (Ref 31 ∷ Small 2 ∷ Small 0 ∷ Ref 32 ∷ Small 1 ∷ []) (string (1 ∷ 2 ∷ []) ∷ large (7 ∷ 8 ∷ 9 ∷ []) ∷ [])
    × Fails 105 4 (Ref 31 ∷ Small 1 ∷ Small 1 ∷ Ref 32 ∷ Small 0 ∷ []) (string (1 ∷ 2 ∷ []) ∷ large (7 ∷ 8 ∷ 9 ∷ []) ∷ [])
    × Fails 105 4 (Ref 31 ∷ Small 1 ∷ Small 1 ∷ Ref 32 ∷ Small 1 ∷ []) (string (1 ∷ 2 ∷ []) ∷ words (7 ∷ []) ∷ [])
    × Fails 105 4 (Ref 31 ∷ Small 3 ∷ Small 3 ∷ Ref 32 ∷ Small 1 ∷ []) (method (Small 0 ∷ []) (7 ∷ []) ∷ string (1 ∷ 2 ∷ []) ∷ [])
    × Fails 105 4 (Ref 31 ∷ Small 1 ∷ Small 1 ∷ Ref 32 ∷ Small 3 ∷ []) (string (1 ∷ 2 ∷ []) ∷ method (Small 0 ∷ []) (7 ∷ []) ∷ [])
unfolding opened trying done failed state objects string large words method pointers class bytes
replacements = (refl, refl, refl, refl, refl, refl, refl, refl, refl, refl, refl, refl, refl)

-- 112 and 115: the 18 objects have 57 words, 36 of them sizes and classes
left : (trying 112 0 (nil ∷ []) [] ≡ done (Small 943 ∷ []) [])
    × (trying 115 0 (nil ∷ []) [] ≡ done (Small 82 ∷ []) [])
unfolding opened trying done state objects pointers class
left = (refl, refl)

-- with 20057 words, or 20018 entries, as many are free as before the new number of two bytes
left_before : ((tries table 112 0).run (holding 100 20057 (state 1 (objects None (nil ∷ []) [])))
    ≡ Went true (holding 100 20057 (state 1 (objects (large (32 ∷ 78 ∷ [])) (Ref 5 ∷ []) []))))
    × ((tries table 115 0).run (holding 20018 20057 (state 1 (objects None (nil ∷ []) [])))
    ≡ Went true (holding 20018 20057 (state 1 (objects (large (32 ∷ 78 ∷ [])) (Ref 5 ∷ []) []))))
unfolding opened holding state objects large bytes pointers class
left_before = (refl, refl)

-- 128: an object of kind Bytes is said, and is the answer
said : ((primitive_say table (Ref 31)).run (state 1 (objects None (Ref 31 ∷ []) (string (65 ∷ []) ∷ [])))
    ≡ done (Ref 31 ∷ []) (string (65 ∷ []) ∷ []))
    × ((primitive_say table (Ref 31)).run (state 1 (objects None (Ref 31 ∷ []) (array [] ∷ [])))
    ≡ failed (Ref 31 ∷ []) (array [] ∷ []))
unfolding opened done failed state objects string array pointers class bytes
said = (refl, refl)
