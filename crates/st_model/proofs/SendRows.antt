-- Worked rows of sends and returns, computed from the definitions: an image of 28 objects on a table of 37 places. Its
-- method pushes the literal 16383 and 1, and sends the selector 66 with one argument. The class of SmallIntegers has the
-- dictionary 68, in which the method 72 stands for that selector, or else for doesNotUnderstand:. It answers the receiver.
use Rattle.std.proofs.Common.{◌≡◌, ℕ, List, [], ◌∷◌, Some, None, Option, refl}
use Rattle.std.specs.Prelude.{ℤ, pos, replicate}
use Rattle.st_model.specs.declared.kind.Kind.TheVariants as kind
use Rattle.st_model.specs.Values.{Value, Small, Ref}
use Rattle.st_model.specs.Objects.{Object, nil}
use Rattle.st_model.specs.Outcomes.{With, Space}
use Rattle.st_model.specs.Outcomes as outcome
use Rattle.st_model.specs.Machine.{State, Registers, empty_world, Went, used}
use Rattle.st_model.specs.Table.{Table, table}
use Rattle.st_model.specs.Cycles.{run, run_of, finished}
use Rattle.st_model.specs.inside.Foreseen.{foreseen_cycle}
use Rattle.st_model.proofs.Opened.{opened}
use Rattle.st_model.proofs.StorageRows.{pointers, method}

unfoldable pub plain : List Value → Option Object
unfolding pointers
plain fields = pointers 6 fields

-- the active context, with these pointers in stored form and these two words on its stack
unfoldable pub active : ℕ → ℕ → Value → Value → Option Object
unfolding pointers
active ip sp x y = pointers 11 (nil ∷ Small ip ∷ Small sp ∷ Ref 32 ∷ nil ∷ nil ∷ x ∷ y ∷ replicate 10 nil)

-- a context of the method 72, with this argument
unfoldable pub activation : ℕ → Value → Option Object
unfolding pointers
activation ip x = pointers 11 (Ref 31 ∷ Small ip ∷ Small 1 ∷ Ref 36 ∷ nil ∷ Small 16383 ∷ x ∷ replicate 11 nil)

-- the image's objects, with the one whose class is understood under the selector 66 or 42, those of pointers 10, 18 and
-- 20, the active context, and the literals and bytes of its method
unfoldable pub objects : ℕ → Option Object → Option Object → Option Object → Option Object → List Value → List ℕ → Table
unfolding plain pointers method
objects selector at10 at18 at20 context literals bytes =
    None ∷ plain [] ∷ plain [] ∷ plain [] ∷ plain (nil ∷ Ref 29 ∷ []) ∷ at10 ∷ plain (nil ∷ Ref 34 ∷ Small 0 ∷ []) ∷ plain [] ∷ plain [] ∷ at18 ∷ at20
    ∷ plain [] ∷ plain [] ∷ plain [] ∷ plain [] ∷ None ∷ plain [] ∷ plain [] ∷ None ∷ None ∷ plain [] ∷ plain [] ∷ plain []
    ∷ None ∷ plain (Ref 33 ∷ Small 1 ∷ []) ∷ plain [] ∷ plain [] ∷ None ∷ plain [] ∷ plain (nil ∷ Ref 30 ∷ []) ∷ plain (nil ∷ Ref 31 ∷ Small 4 ∷ nil ∷ [])
    ∷ context ∷ method literals bytes ∷ Some (record { class = 28; kind = kind.Bytes; fields = []; units = 43 ∷ [] })
    ∷ plain (Small 1 ∷ Ref 35 ∷ Ref selector ∷ []) ∷ pointers 8 (Ref 36 ∷ []) ∷ method (Small 4224 ∷ []) (120 ∷ []) ∷ []

unfoldable pub state : ℕ → Registers → Table → State Table
state entries r t = record { memory = t; registers = r; world = empty_world nil; head = record { entries = entries; words = 1048576; globals = None; symbols = None } }

unfoldable pub in_sender : ℤ → ℕ → Registers
in_sender ip sp = record { active = Ref 31; home = Ref 31; method = Ref 32; receiver = nil; ip = ip; sp = sp }

unfoldable pub in_method : ℕ → Registers
in_method context = record { active = Ref context; home = Ref context; method = Ref 36; receiver = Small 16383; ip = pos 2; sp = 6 }

-- the header counts two literals
literals : List Value
literals = Small 2 ∷ Small 16383 ∷ Ref 33 ∷ []

-- push literal 0, push 1, send literal 1 with one argument
bytes : List ℕ
bytes = 32 ∷ 118 ∷ 225 ∷ []

at_first : ℕ → ℕ → State Table
unfolding state in_sender objects active literals bytes plain pointers method
at_first entries selector = state entries (in_sender (pos 6) 5) (objects selector None None None (active 7 0 nil nil) literals bytes)

-- the method is activated: the new context has pointer 10, and receiver and argument have left the sender's stack
activated : run table 3 (at_first 32767 33) ≡ Went (With outcome.Went) (state 32767 (in_method 5) (objects 33 (activation 3 (Small 1)) None None (active 10 0 (Small 16383) (Small 1)) literals bytes))
unfolding opened at_first activation in_method state in_sender objects active literals bytes plain pointers method
activated = refl

activated_use : used table (objects 33 (activation 3 (Small 1)) None None (active 10 0 (Small 16383) (Small 1)) literals bytes) ≡ record { entries = 29; words = 119 }
unfolding activation objects active literals bytes plain pointers method
activated_use = refl

-- it returns its receiver, and the context that was left is reclaimed
returned : run table 4 (at_first 32767 33) ≡ Went (With outcome.Went) (state 32767 (in_sender (pos 9) 6) (objects 33 None None None (active 10 0 (Small 16383) (Small 1)) literals bytes))
unfolding opened at_first activation in_method state in_sender objects active literals bytes plain pointers method
returned = refl

returned_use : used table (objects 33 None None None (active 10 0 (Small 16383) (Small 1)) literals bytes) ≡ record { entries = 28; words = 99 }
unfolding objects active literals bytes plain pointers method
returned_use = refl

-- A selector that isn't understood goes into a Message, of pointer 18, with the Array of its argument, of pointer 10. The
-- Message is the argument of doesNotUnderstand:, whose context has pointer 20.
not_understood : run table 3 (at_first 32767 21) ≡ Went (With outcome.Went) (state 32767 (in_method 10) (objects 21 (pointers 8 (Small 1 ∷ [])) (pointers 16 (Ref 33 ∷ Ref 5 ∷ [])) (activation 3 (Ref 9)) (active 10 0 (Small 16383) (Ref 9)) literals bytes))
unfolding opened at_first activation in_method state in_sender objects active literals bytes plain pointers method
not_understood = refl

not_understood_use : used table (objects 21 (pointers 8 (Small 1 ∷ [])) (pointers 16 (Ref 33 ∷ Ref 5 ∷ [])) (activation 3 (Ref 9)) (active 10 0 (Small 16383) (Ref 9)) literals bytes) ≡ record { entries = 31; words = 126 }
unfolding activation objects active literals bytes plain pointers method
not_understood_use = refl

-- with 30 entries there is no room for these three objects, of 27 words, where 2 entries and 1048477 words are free
no_space : run table 3 (at_first 30 21) ≡ Went (Space (record { entries = 3; words = 27 }) (record { entries = 2; words = 1048477 })) (state 30 (in_sender (pos 8) 7) (objects 21 None None None (active 7 0 (Small 16383) (Small 1)) literals bytes))
unfolding opened at_first activation in_method state in_sender objects active literals bytes plain pointers method
no_space = refl

two_finished : finished table 3 (at_first 30 21) ≡ 2
unfolding opened at_first activation in_method state in_sender objects active literals bytes plain pointers method
two_finished = refl

-- a running machine, which foresees each step, ends the same
foreseen_space : run_of foreseen_cycle 3 (at_first 30 21) ≡ Went (Space (record { entries = 3; words = 27 }) (record { entries = 2; words = 1048477 })) (state 30 (in_sender (pos 8) 7) (objects 21 None None None (active 7 0 (Small 16383) (Small 1)) literals bytes))
unfolding opened at_first activation in_method state in_sender objects active literals bytes plain pointers method
foreseen_space = refl

foreseen_not_understood : run_of foreseen_cycle 3 (at_first 31 21) ≡ Went (With outcome.Went) (state 31 (in_method 10) (objects 21 (pointers 8 (Small 1 ∷ [])) (pointers 16 (Ref 33 ∷ Ref 5 ∷ [])) (activation 3 (Ref 9)) (active 10 0 (Small 16383) (Ref 9)) literals bytes))
unfolding opened at_first activation in_method state in_sender objects active literals bytes plain pointers method
foreseen_not_understood = refl
