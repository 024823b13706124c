-- Worked rows of the machine, computed from the definitions: an image of 24 objects on a table of 33 places. Its one
-- method pushes 1 and 2, pops into temporary variable 0, and jumps back to its begin.
use Rattle.std.proofs.Common.{◌≡◌, ℕ, List, [], ◌∷◌, ◌++◌, Some, None, Option, refl}
use Rattle.std.specs.Prelude.{ℤ, pos, codes}
use Rattle.std.specs.Fmt.{digits}
use Rattle.st_model.specs.declared.kind.Kind.TheVariants as kind
use Rattle.st_model.specs.Values.{Value, Small, Ref}
use Rattle.st_model.specs.Objects.{Object, nil}
use Rattle.st_model.specs.Outcomes.{With}
use Rattle.st_model.specs.Outcomes as outcome
use Rattle.st_model.specs.Table.{Table, table}
use Rattle.st_model.specs.Text.{ran_text, state_text}
use Rattle.st_model.specs.Machine.{State, Registers, empty_world, Went}
use Rattle.st_model.specs.Contexts.{fetch_scheduled_registers}
use Rattle.st_model.specs.Cycles.{run}
use Rattle.st_model.proofs.Opened.{opened}

-- an object of class 12 with these fields
plain : List Value → Option Object
plain fields = Some (record { class = 6; kind = kind.Pointers; fields = fields; units = [] })

-- a context of class 22 that runs the method 64, with these pointers in stored form and these words on its stack
context : ℕ → ℕ → List Value → Option Object
context ip sp stack = Some (record { class = 11; kind = kind.Pointers; fields = nil ∷ Small ip ∷ Small sp ∷ Ref 32 ∷ nil ∷ nil ∷ stack; units = [] })

-- a method of class 34 without literals, with these bytes
method : List ℕ → Option Object
method bytes = Some (record { class = 17; kind = kind.Method; fields = Small 128 ∷ []; units = bytes })

-- the image's objects, with those of pointers 62 and 64
objects : Option Object → Option Object → Table
unfolding plain
objects active code =
    None ∷ plain [] ∷ plain [] ∷ plain [] ∷ plain (nil ∷ Ref 29 ∷ []) ∷ None ∷ plain [] ∷ plain [] ∷ plain [] ∷ None ∷ None
    ∷ plain [] ∷ plain [] ∷ plain [] ∷ plain [] ∷ None ∷ plain [] ∷ plain [] ∷ None ∷ None ∷ plain [] ∷ plain [] ∷ plain []
    ∷ None ∷ plain [] ∷ plain [] ∷ plain [] ∷ None ∷ plain [] ∷ plain (nil ∷ Ref 30 ∷ []) ∷ plain (nil ∷ Ref 31 ∷ Small 4 ∷ nil ∷ [])
    ∷ active ∷ code ∷ []

registers_at : ℤ → ℕ → Registers
registers_at ip sp = record { active = Ref 31; home = Ref 31; method = Ref 32; receiver = nil; ip = ip; sp = sp }

state : Registers → Table → State Table
state r t = record { memory = t; registers = r; world = empty_world nil; head = record { entries = 32767; words = 1048576; globals = None; symbols = None } }

nils : List Value
nils = nil ∷ nil ∷ nil ∷ nil ∷ nil ∷ nil ∷ nil ∷ nil ∷ nil ∷ []

-- the method's bytes: push 1, push 2, pop into temporary variable 0, jump back by 5
loop : List ℕ
loop = 118 ∷ 119 ∷ 104 ∷ 163 ∷ 251 ∷ []

at_first : State Table
unfolding loop nils context method objects registers_at state
at_first = state (registers_at (pos 2) 6) (objects (context 3 1 (nil ∷ nil ∷ nil ∷ nils)) (method loop))

-- the registers are fetched from the context of the scheduler's active process
fetched : (fetch_scheduled_registers table).run (state (record { active = nil; home = nil; method = nil; receiver = nil; ip = pos 0; sp = 5 }) at_first.memory) ≡ Went tt at_first
unfolding opened at_first state registers_at objects context method nils loop plain
fetched = refl

-- after no cycle all is as it was
no_cycle : run table 0 at_first ≡ Went (With outcome.Went) at_first
unfolding opened
no_cycle = refl

-- after four cycles the instruction pointer stands at the begin again, and the words 2, 1 and 2 on the stack
four_cycles : run table 4 at_first ≡ Went (With outcome.Went) (state (registers_at (pos 2) 7) (objects (context 3 1 (Small 2 ∷ Small 1 ∷ Small 2 ∷ nils)) (method loop)))
unfolding opened at_first state registers_at objects context method nils loop plain
four_cycles = refl

-- and so it is said
four_cycles_said : ran_text 4 ++ state_text (state (registers_at (pos 2) 7) (objects (context 3 1 (Small 2 ∷ Small 1 ∷ Small 2 ∷ nils)) (method loop))) ≡
    codes "ran 4\n"
    ++ (codes "registers @62 @62 @64 @2 3 2\n"
    ++ (codes "input 0 0 0 0 0 0\n"
    ++ (codes "held @2 @2 @2 @2 @2\n"
    ++ (codes "used 24 78\n"
    ++ (codes "object 2 @12 p\n"
    ++ (codes "object 4 @12 p\n"
    ++ (codes "object 6 @12 p\n"
    ++ (codes "object 8 @12 p @2 @58\n"
    ++ (codes "object 12 @12 p\n"
    ++ (codes "object 14 @12 p\n"
    ++ (codes "object 16 @12 p\n"
    ++ (codes "object 22 @12 p\n"
    ++ (codes "object 24 @12 p\n"
    ++ (codes "object 26 @12 p\n"
    ++ (codes "object 28 @12 p\n"
    ++ (codes "object 32 @12 p\n"
    ++ (codes "object 34 @12 p\n"
    ++ (codes "object 40 @12 p\n"
    ++ (codes "object 42 @12 p\n"
    ++ (codes "object 44 @12 p\n"
    ++ (codes "object 48 @12 p\n"
    ++ (codes "object 50 @12 p\n"
    ++ (codes "object 52 @12 p\n"
    ++ (codes "object 56 @12 p\n"
    ++ (codes "object 58 @12 p @2 @60\n"
    ++ (codes "object 60 @12 p @2 @62 4 @2\n"
    ++ (codes "object 62 @22 p @2 3 1 @64 @2 @2 2 1 2 @2 @2 @2 @2 @2 @2 @2 @2 @2\n"
    ++ (codes "object 64 @34 m 128 : 118 119 104 163 251\n"))))))))))))))))))))))))))))
unfolding opened digits state_text at_first state registers_at objects context method nils loop plain
four_cycles_said = refl
