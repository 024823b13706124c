-- More worked rows of the primitives on objects: each once as a method of its number is executed, further bounds at which one
-- fails, and what is said of a String.
use Rattle.std.proofs.Common.{◌≡◌, ℕ, List, [], ◌∷◌, None, Some, Option, true, refl}
use Rattle.std.specs.Prelude.{codes, length}
use Rattle.st_model.specs.declared.kind.Kind.TheVariants as kind
use Rattle.st_model.specs.Values.{Value, Small, Ref}
use Rattle.st_model.specs.Objects.{Object, nil}
use Rattle.st_model.specs.Machine.{State, Transition, Went}
use Rattle.st_model.specs.Outcomes.{Outcome}
use Rattle.st_model.specs.Outcomes as outcome
use Rattle.st_model.specs.Table.{Table, table}
use Rattle.st_model.specs.Executing.{respond}
use Rattle.st_model.specs.Text.{escaped, said_text}
use Rattle.st_model.proofs.Opened.{opened, tries}
use Rattle.st_model.proofs.StorageRows.{pointers, words, bytes, method, large, string, array, class, objects, state, holding, trying, done, made, failed, Fails, stream}

-- this primitive is called with n arguments, where these words are the stack
executing : ℕ → ℕ → List Value → List (Option Object) → Transition (State Table) (Option Outcome)
unfolding state objects
executing k n stack others = (respond table k n).run (state (length stack) (objects None stack others))

-- 128 of a String; with an argument, and of an Array, it fails, as 0 does
says : (executing 128 0 (Ref 31 ∷ []) (string (65 ∷ []) ∷ []) ≡ Went (Some (outcome.Say (Ref 31))) (state 1 (objects None (Ref 31 ∷ []) (string (65 ∷ []) ∷ []))))
    × (executing 128 1 (Ref 31 ∷ nil ∷ []) (string (65 ∷ []) ∷ []) ≡ executing 0 1 (Ref 31 ∷ nil ∷ []) (string (65 ∷ []) ∷ []))
    × (executing 128 0 (Ref 31 ∷ []) (array [] ∷ []) ≡ executing 0 0 (Ref 31 ∷ []) (array [] ∷ []))
unfolding opened executing state objects string array pointers class bytes
says = (refl, refl, refl)

-- bytes from 32 to 126 but 92 stand for themselves; and an empty String has a line too
escapes : (escaped (31 ∷ 32 ∷ 92 ∷ 126 ∷ 127 ∷ 255 ∷ []) ≡ codes "\\1f \\5c~\\7f\\ff")
    × (said_text (string []) ≡ codes "say \n")
    × (said_text (string (72 ∷ 105 ∷ [])) ≡ codes "say Hi\n")
    × (said_text (words (72 ∷ [])) ≡ [])
unfolding string bytes words
escapes = (refl, refl, refl, refl)

-- 61: a SmallInteger as a word; what is no LargePositiveInteger isn't one, and a byte takes SmallIntegers alone
put_units : (trying 61 2 (Ref 31 ∷ Small 1 ∷ Small 16383 ∷ []) (words (7 ∷ []) ∷ [])
    ≡ done (Small 16383 ∷ Small 1 ∷ Small 16383 ∷ []) (words (16383 ∷ []) ∷ []))
    × Fails 61 2 (Ref 31 ∷ Small 1 ∷ Ref 32 ∷ []) (words (7 ∷ []) ∷ string (5 ∷ []) ∷ [])
    × Fails 61 2 (Ref 31 ∷ Small 1 ∷ Ref 32 ∷ []) (string (7 ∷ []) ∷ large (9 ∷ []) ∷ [])
    × Fails 61 2 (Ref 31 ∷ Small 3 ∷ Ref 32 ∷ []) (method (Small 0 ∷ []) (120 ∷ []) ∷ large (9 ∷ []) ∷ [])
    × Fails 61 2 (Small 5 ∷ Small 1 ∷ nil ∷ []) []
    × Fails 61 2 (Ref 31 ∷ Ref 31 ∷ nil ∷ []) (array (nil ∷ []) ∷ [])
    × Fails 61 2 (Ref 31 ∷ Small 1 ∷ nil ∷ []) (pointers 1 (Small 9 ∷ []) ∷ [])
unfolding opened trying done failed state objects words string method array large pointers class bytes
put_units = (refl, refl, refl, refl, refl, refl, refl)

-- 62 of bytes; 63 and 68 by no SmallInteger
more_elements : (trying 62 0 (Ref 31 ∷ []) (string (1 ∷ 2 ∷ 3 ∷ []) ∷ []) ≡ done (Small 3 ∷ []) (string (1 ∷ 2 ∷ 3 ∷ []) ∷ []))
    × Fails 63 1 (Ref 31 ∷ Ref 31 ∷ []) (string (1 ∷ []) ∷ [])
    × Fails 68 1 (Ref 31 ∷ Ref 31 ∷ []) (method (Small 0 ∷ []) [] ∷ [])
unfolding opened trying done failed state objects string method pointers class bytes
more_elements = (refl, refl, refl)

-- 64: into an object of kind Bytes alone, from 1 on, a Character of a SmallInteger
put_characters : Fails 64 2 (Ref 31 ∷ Small 3 ∷ Ref 32 ∷ []) (method (Small 0 ∷ []) (1 ∷ []) ∷ pointers 20 (Small 65 ∷ []) ∷ [])
    × Fails 64 2 (Ref 31 ∷ Small 1 ∷ Ref 32 ∷ []) (words (1 ∷ []) ∷ pointers 20 (Small 65 ∷ []) ∷ [])
    × Fails 64 2 (Ref 31 ∷ Small 0 ∷ Ref 32 ∷ []) (string (7 ∷ []) ∷ pointers 20 (Small 65 ∷ []) ∷ [])
    × Fails 64 2 (Ref 31 ∷ Small 1 ∷ Ref 32 ∷ []) (string (7 ∷ []) ∷ pointers 20 (nil ∷ []) ∷ [])
    × Fails 64 2 (Ref 31 ∷ Small 1 ∷ Ref 32 ∷ []) (string (7 ∷ []) ∷ pointers 20 [] ∷ [])
    × Fails 64 2 (Ref 31 ∷ Small 1 ∷ Ref 32 ∷ []) (string (7 ∷ []) ∷ pointers 20 (Ref 33 ∷ []) ∷ large (9 ∷ []) ∷ [])
unfolding opened trying failed state objects words string method large pointers class bytes
put_characters = (refl, refl, refl, refl, refl, refl)

-- an Array of kind Words
word_array : List ℕ → Option Object
word_array us = Some (record { class = 8; kind = kind.Words; fields = []; units = us })

-- 65: position and limit are SmallIntegers, of an object of kind Pointers; a String ends too; and a word is an element
take_bounds : Fails 65 0 (Ref 31 ∷ []) (pointers 6 (Ref 32 ∷ nil ∷ Small 2 ∷ nil ∷ []) ∷ array (nil ∷ nil ∷ []) ∷ [])
    × Fails 65 0 (Ref 31 ∷ []) (pointers 6 (Ref 32 ∷ Small 0 ∷ nil ∷ nil ∷ []) ∷ array (nil ∷ nil ∷ []) ∷ [])
    × Fails 65 0 (Ref 31 ∷ []) (pointers 6 (Ref 32 ∷ Small 0 ∷ []) ∷ array (nil ∷ nil ∷ []) ∷ [])
    × Fails 65 0 (Ref 31 ∷ []) (stream 1 9 0 ∷ string (1 ∷ []) ∷ [])
    × Fails 65 0 (Ref 31 ∷ []) (string (1 ∷ 2 ∷ 3 ∷ []) ∷ [])
    × Fails 65 0 (Small 5 ∷ []) []
    × (trying 65 0 (Ref 31 ∷ []) (stream 0 1 0 ∷ word_array (65535 ∷ []) ∷ [])
    ≡ made (large (255 ∷ 255 ∷ [])) (Ref 5 ∷ []) (stream 1 1 0 ∷ word_array (65535 ∷ []) ∷ []))
unfolding opened trying made failed state objects stream array word_array string large pointers class bytes
take_bounds = (refl, refl, refl, refl, refl, refl, refl)

-- 66: the same of its own limit
put_bounds : Fails 66 1 (Ref 31 ∷ Ref 3 ∷ []) (stream 32767 0 9 ∷ array (nil ∷ nil ∷ []) ∷ [])
    × Fails 66 1 (Ref 31 ∷ Ref 3 ∷ []) (pointers 6 (Ref 32 ∷ Small 0 ∷ Small 9 ∷ nil ∷ []) ∷ array (nil ∷ nil ∷ []) ∷ [])
    × Fails 66 1 (Ref 31 ∷ Ref 3 ∷ []) (pointers 6 (Ref 32 ∷ Small 0 ∷ Small 9 ∷ []) ∷ array (nil ∷ nil ∷ []) ∷ [])
    × Fails 66 1 (Ref 31 ∷ Ref 3 ∷ []) (stream 0 0 1 ∷ pointers 29 (nil ∷ nil ∷ nil ∷ []) ∷ [])
    × Fails 66 1 (Ref 31 ∷ Ref 33 ∷ []) (stream 1 0 9 ∷ string (1 ∷ []) ∷ pointers 20 (Small 65 ∷ []) ∷ [])
    × (trying 66 1 (Ref 31 ∷ Ref 33 ∷ []) (stream 0 0 1 ∷ word_array (7 ∷ []) ∷ large (255 ∷ 255 ∷ []) ∷ [])
    ≡ done (Ref 33 ∷ Ref 33 ∷ []) (stream 1 0 1 ∷ word_array (65535 ∷ []) ∷ large (255 ∷ 255 ∷ []) ∷ []))
    × Fails 66 1 (Ref 31 ∷ Ref 33 ∷ []) (stream 0 0 1 ∷ word_array (7 ∷ []) ∷ large (0 ∷ 0 ∷ 1 ∷ []) ∷ [])
unfolding opened trying done failed state objects stream array word_array string large pointers class bytes
put_bounds = (refl, refl, refl, refl, refl, refl, refl)

-- 67: the position too is a SmallInteger; 69: from 1 on, and of a Method
end_bounds : Fails 67 0 (Ref 31 ∷ []) (pointers 6 (Ref 32 ∷ nil ∷ Small 1 ∷ []) ∷ array [] ∷ [])
    × Fails 67 0 (Ref 31 ∷ []) (string (1 ∷ 2 ∷ 3 ∷ []) ∷ [])
    × Fails 69 2 (Ref 31 ∷ Small 0 ∷ Small 1 ∷ []) (method (Small 1 ∷ nil ∷ []) [] ∷ [])
    × Fails 69 2 (Ref 31 ∷ Small 1 ∷ Small 0 ∷ []) (array (Small 0 ∷ []) ∷ [])
unfolding opened trying failed state objects array string method pointers class bytes
end_bounds = (refl, refl, refl, refl)

-- 70 and 71: instances have pointers by bit 0, whatever bit 1 says; 71 wants a readable class and V of the class of large integers
shapes : (trying 70 0 (Ref 31 ∷ []) (class 24578 ∷ []) ≡ made (pointers 31 (nil ∷ nil ∷ [])) (Ref 5 ∷ []) (class 24578 ∷ []))
    × (trying 71 1 (Ref 31 ∷ Small 1 ∷ []) (class 28672 ∷ []) ≡ made (pointers 31 (nil ∷ [])) (Ref 5 ∷ Small 1 ∷ []) (class 28672 ∷ []))
    × Fails 71 1 (Small 5 ∷ Small 1 ∷ []) []
    × Fails 71 1 (Ref 31 ∷ Small 1 ∷ []) (pointers 6 (nil ∷ nil ∷ nil ∷ []) ∷ [])
    × Fails 71 1 (Ref 29 ∷ Ref 31 ∷ []) (string (1 ∷ []) ∷ [])
unfolding opened trying made failed state objects string pointers class bytes
shapes = (refl, refl, refl, refl, refl)

-- 73 and 74: places from 1 to the size; a class that says nothing is not asked
instance_bounds : Fails 73 1 (Ref 31 ∷ Small 0 ∷ []) (pointers 29 (Small 7 ∷ []) ∷ [])
    × Fails 73 1 (Small 5 ∷ Small 1 ∷ []) []
    × (trying 73 1 (Ref 31 ∷ Small 1 ∷ []) (pointers 1 (Small 9 ∷ []) ∷ []) ≡ done (Small 9 ∷ Small 1 ∷ []) (pointers 1 (Small 9 ∷ []) ∷ []))
    × Fails 74 2 (Ref 31 ∷ Small 2 ∷ nil ∷ []) (pointers 29 (Small 7 ∷ []) ∷ [])
    × Fails 74 2 (Small 5 ∷ Small 1 ∷ nil ∷ []) []
    × (trying 74 2 (Ref 31 ∷ Small 1 ∷ Small 9 ∷ []) (words (7 ∷ []) ∷ []) ≡ done (Small 9 ∷ Small 1 ∷ Small 9 ∷ []) (words (9 ∷ []) ∷ []))
    × Fails 74 2 (Ref 31 ∷ Small 1 ∷ Ref 32 ∷ []) (string (7 ∷ []) ∷ large (9 ∷ []) ∷ [])
unfolding opened trying done failed state objects words string large pointers class bytes
instance_bounds = (refl, refl, refl, refl, refl, refl, refl)

-- 79 and 105 take SmallIntegers alone
small_alone : Fails 79 2 (Ref 17 ∷ Ref 31 ∷ Small 129 ∷ []) (large (3 ∷ []) ∷ [])
    × Fails 105 4 (Ref 31 ∷ Ref 32 ∷ Small 1 ∷ Ref 31 ∷ Small 1 ∷ []) (string (1 ∷ []) ∷ large (1 ∷ []) ∷ [])
    × Fails 105 4 (Ref 31 ∷ Small 1 ∷ Ref 32 ∷ Ref 31 ∷ Small 1 ∷ []) (string (1 ∷ []) ∷ large (1 ∷ []) ∷ [])
    × Fails 105 4 (Ref 31 ∷ Small 1 ∷ Small 1 ∷ Ref 31 ∷ Ref 32 ∷ []) (string (1 ∷ []) ∷ large (1 ∷ []) ∷ [])
unfolding opened trying failed state objects string large pointers class bytes
small_alone = (refl, refl, refl, refl)

-- 112 with 65593 words, of which 57 are used: a number of three bytes
wide_left : (tries table 112 0).run (holding 100 65593 (state 1 (objects None (nil ∷ []) []))) ≡ Went true (holding 100 65593 (state 1 (objects (large (0 ∷ 0 ∷ 1 ∷ [])) (Ref 5 ∷ []) [])))
unfolding opened holding state objects large bytes pointers class
wide_left = refl

-- each with another number of arguments than its own fails
other_numbers : Fails 61 1 (Ref 31 ∷ Small 1 ∷ []) (array (Small 9 ∷ []) ∷ [])
    × Fails 70 1 (Ref 31 ∷ nil ∷ []) (class 16386 ∷ [])
    × Fails 72 0 (Ref 31 ∷ []) (array [] ∷ [])
    × Fails 105 3 (Ref 31 ∷ Small 1 ∷ Small 1 ∷ Ref 31 ∷ []) (string (1 ∷ []) ∷ [])
    × Fails 112 1 (nil ∷ nil ∷ []) []
    × Fails 115 1 (nil ∷ nil ∷ []) []
unfolding opened trying failed state objects array string pointers class bytes
other_numbers = (refl, refl, refl, refl, refl, refl)
