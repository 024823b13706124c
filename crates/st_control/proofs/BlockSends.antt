-- Worked rows of the codes 200 to 202, computed from the definitions: an image on a table of 33 places. The method 60 has one
-- bytecode and runs in the context 58; 62 and 64 are blocks of that context. A new object has the pointer 10.
use Rattle.std.proofs.Common.{◌≡◌, ℕ, List, [], ◌∷◌, Some, None, Option, refl}
use Rattle.std.specs.Prelude.{◌+◌, ℤ, pos, length}
use Rattle.st_model.specs.declared.dead.Dead.TheVariants as dead
use Rattle.st_model.specs.declared.kind.Kind.TheVariants as kind
use Rattle.st_model.specs.Values.{Value, Small, Ref}
use Rattle.st_model.specs.Objects.{Object, nil}
use Rattle.st_model.specs.Outcomes.{Outcome}
use Rattle.st_model.specs.Outcomes as outcome
use Rattle.st_model.specs.Machine.{State, Transition, Died, Went, empty_world}
use Rattle.st_model.specs.Table.{Table, table}
use Rattle.st_model.specs.Bytecodes.{step}
use Rattle.st_model.proofs.Opened.{opened}

-- an object of kind Pointers, by half the pointer of its class
pointers : ℕ → List Value → Option Object
pointers class fields = Some (record { class = class; kind = kind.Pointers; fields = fields; units = [] })

method : ℕ → Option Object
method code = Some (record { class = 17; kind = kind.Method; fields = Small 0 ∷ []; units = code ∷ [] })

-- the context, with these pointers in stored form and this stack
context : ℕ → ℕ → List Value → Option Object
unfolding pointers
context ip sp stack = pointers 11 (nil ∷ Small ip ∷ Small sp ∷ Ref 30 ∷ nil ∷ nil ∷ stack)

-- a block of it, with its caller, its stored pointers, its number of arguments and a stack; its first bytecode is the method's
block : Value → Value → Value → ℕ → List Value → Option Object
unfolding pointers
block caller ip sp arguments stack = pointers 12 (caller ∷ ip ∷ sp ∷ Small arguments ∷ Small 3 ∷ Ref 29 ∷ stack)

-- what is at pointers 10, 58, 62 and 64
objects : ℕ → Option Object → Option Object → Option Object → Option Object → Table
unfolding pointers method
objects code new active none one =
    None ∷ pointers 6 [] ∷ pointers 6 [] ∷ pointers 6 [] ∷ pointers 6 [] ∷ new ∷ pointers 6 [] ∷ pointers 6 [] ∷ pointers 6 [] ∷ pointers 6 [] ∷ pointers 6 []
    ∷ pointers 6 [] ∷ pointers 6 [] ∷ pointers 6 [] ∷ pointers 6 [] ∷ None ∷ pointers 6 [] ∷ pointers 6 [] ∷ None ∷ None ∷ pointers 6 []
    ∷ None ∷ None ∷ None ∷ pointers 6 [] ∷ None ∷ None ∷ None ∷ None ∷ active ∷ method code ∷ none ∷ one ∷ []

state : Value → ℤ → ℕ → Table → State Table
state active ip sp t = record {
  memory = t;
  registers = record { active = active; home = Ref 29; method = Ref 30; receiver = nil; ip = ip; sp = sp };
  world = empty_world nil;
  head = record { entries = 32767; words = 1048576; globals = None; symbols = None };
}

-- blocks that are not yet active
no_arguments : Option Object
unfolding block pointers
no_arguments = block nil nil nil 0 []

one_argument : Option Object
unfolding block pointers
one_argument = block nil nil nil 1 (nil ∷ [])

-- the code is done with this stack
doing : ℕ → List Value → Transition (State Table) Outcome
unfolding state objects context pointers method no_arguments one_argument block
doing code stack = (step table).run (state (Ref 29) (pos 2) (5 + length stack) (objects code None (context 0 0 stack) no_arguments one_argument))

-- 200 makes a block of the context, which takes one argument: its first bytecode is 3 bytes behind the next one
made : doing 200 (Ref 29 ∷ Small 1 ∷ [])
    ≡ Went outcome.Went (state (Ref 29) (pos 3) 6 (objects 200 (pointers 12 (nil ∷ Small 6 ∷ Small 0 ∷ Small 1 ∷ Small 6 ∷ Ref 29 ∷ nil ∷ nil ∷ [])) (context 0 0 (Ref 5 ∷ Small 1 ∷ [])) no_arguments one_argument))
unfolding opened doing state objects context pointers method no_arguments one_argument block
made = refl

-- 201 goes on in a block without arguments, and 202 in one with an argument; the context is left behind its bytecode
valued : doing 201 (Ref 31 ∷ [])
    ≡ Went outcome.Went (state (Ref 31) (pos 2) 5 (objects 201 None (context 4 0 (Ref 31 ∷ [])) (block (Ref 29) (Small 3) (Small 0) 0 []) one_argument))
unfolding opened doing state objects context pointers method no_arguments one_argument block
valued = refl

valued_with_one : doing 202 (Ref 32 ∷ Small 7 ∷ [])
    ≡ Went outcome.Went (state (Ref 32) (pos 2) 6 (objects 202 None (context 4 0 (Ref 32 ∷ Small 7 ∷ [])) no_arguments (block (Ref 29) (Small 3) (Small 1) 1 (Small 7 ∷ []))))
unfolding opened doing state objects context pointers method no_arguments one_argument block
valued_with_one = refl

-- where the primitive fails, the table of special selectors is asked, which here has none: for a receiver that is no context, and
-- blocks that take another number of arguments
asked : (doing 200 (Small 5 ∷ Small 1 ∷ []) ≡ Died dead.Field) × (doing 201 (Ref 32 ∷ []) ≡ Died dead.Field) × (doing 202 (Ref 31 ∷ Small 7 ∷ []) ≡ Died dead.Field)
unfolding opened doing state objects context pointers method no_arguments one_argument block
asked = (refl, refl, refl)

-- and too few words on the stack are a death
short : (doing 200 (Ref 29 ∷ []) ≡ Died dead.Sp) × (doing 201 [] ≡ Died dead.Sp) × (doing 202 (Ref 32 ∷ []) ≡ Died dead.Sp)
unfolding opened doing state objects context pointers method no_arguments one_argument block
short = (refl, refl, refl)
