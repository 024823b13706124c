-- Worked rows of blocks, computed from the definitions: what a block is made of, each condition under which none is made, and the
-- values of blocks. The words on the stack are receiver and arguments; what is popped stays in its field.
use Rattle.std.proofs.Common.{◌≡◌, ℕ, List, [], ◌∷◌, Some, None, Option, Bool, true, false, refl}
use Rattle.std.specs.Prelude.{◌+◌, ℤ, pos, length, replicate}
use Rattle.st_model.specs.declared.kind.Kind.TheVariants as kind
use Rattle.st_model.specs.declared.dead.Dead.TheVariants as dead
use Rattle.st_model.specs.Values.{Value, Small, Ref}
use Rattle.st_model.specs.Objects.{Object, nil}
use Rattle.st_model.specs.Machine.{State, Registers, Transition, Died, Went, empty_world}
use Rattle.st_model.specs.Table.{Table, table}
use Rattle.st_model.proofs.Opened.{opened, tries}
use Rattle.st_model.proofs.StorageRows.{pointers}

unfoldable words : ℕ → Option Object
words class = Some (record { class = class; kind = kind.Words; fields = []; units = replicate 8 0 })

-- a context of a method: two stored pointers, the method 29, the receiver nil, and a stack
unfoldable method_context : ℕ → ℕ → List Value → Option Object
unfolding pointers
method_context ip sp stack = pointers 11 (nil ∷ Small ip ∷ Small sp ∷ Ref 29 ∷ nil ∷ nil ∷ stack)

-- a context of a block: its caller, two stored pointers, its number of arguments, its first instruction pointer, its home, and a
-- stack
unfoldable block_context : Value → Value → Value → Value → Value → Value → List Value → Option Object
unfolding pointers
block_context caller ip sp arguments first home stack = pointers 12 (caller ∷ ip ∷ sp ∷ arguments ∷ first ∷ home ∷ stack)

-- one that is not yet active, with the context 30 as home
unfoldable block : Value → List Value → Option Object
unfolding block_context
block arguments stack = block_context nil nil nil arguments (Small 7) (Ref 30) stack

-- objects of the page; the context 30, which is active; and from 31 on the objects of a row. A new object goes to place 5.
unfoldable objects : Option Object → Option Object → List (Option Object) → Table
unfolding pointers
objects new active others =
    None ∷ pointers 6 [] ∷ pointers 6 [] ∷ pointers 6 [] ∷ pointers 6 [] ∷ new ∷ pointers 6 [] ∷ pointers 6 [] ∷ pointers 6 [] ∷ pointers 6 [] ∷ pointers 6 []
    ∷ pointers 6 [] ∷ pointers 6 [] ∷ pointers 6 [] ∷ pointers 6 [] ∷ None ∷ pointers 6 [] ∷ pointers 6 [] ∷ None ∷ None ∷ pointers 6 []
    ∷ None ∷ None ∷ None ∷ None ∷ pointers 6 [] ∷ None ∷ None ∷ None ∷ pointers 6 []
    ∷ active ∷ others

unfoldable state : Registers → Table → State Table
state r t = record { memory = t; registers = r; world = empty_world nil; head = record { entries = 100; words = 1000; globals = None; symbols = None } }

-- the active context is 30, with so many words on its stack
unfoldable in_method : ℤ → ℕ → Registers
in_method ip depth = record { active = Ref 30; home = Ref 30; method = Ref 29; receiver = nil; ip = ip; sp = 5 + depth }

-- the active context is a block of that one
unfoldable in_block : Value → ℤ → ℕ → Registers
in_block block ip depth = record { active = block; home = Ref 30; method = Ref 29; receiver = nil; ip = ip; sp = 5 + depth }

unfoldable before : ℤ → List Value → List (Option Object) → State Table
unfolding state in_method objects method_context
before ip stack others = state (in_method ip (length stack)) (objects None (method_context 0 0 stack) others)

-- primitive k with n arguments, where these words are the stack
unfoldable trying : ℕ → ℕ → ℤ → List Value → List (Option Object) → Transition (State Table) Bool
unfolding before
trying k n ip stack others = (tries table k n).run (before ip stack others)

-- it fails, and nothing is changed
abbrev Fails : ℕ → ℕ → ℤ → List Value → List (Option Object) → Type 0
Fails k n ip stack others = trying k n ip stack others ≡ Went false (before ip stack others)

-- 80: a block of the active context that takes 2 arguments has no caller yet, the place 3 bytes on as its first instruction
-- pointer, an empty stack, and as many fields as its home
made : trying 80 1 (pos 9) (Ref 30 ∷ Small 2 ∷ []) []
    ≡ Went true (state (in_method (pos 9) 1) (objects (block_context nil (Small 12) (Small 0) (Small 2) (Small 12) (Ref 30) (nil ∷ nil ∷ [])) (method_context 0 0 (Ref 5 ∷ Small 2 ∷ [])) []))
unfolding opened trying before state in_method objects method_context block_context pointers
made = refl

-- a block of a block has the same home, and its size; and so has a block of one that is its own home
made_of_block : (trying 80 1 (pos 9) (Ref 32 ∷ Small 0 ∷ []) (method_context 0 0 (nil ∷ []) ∷ block_context nil nil nil (Small 1) (Small 7) (Ref 31) [] ∷ [])
    ≡ Went true (state (in_method (pos 9) 1) (objects (block_context nil (Small 12) (Small 0) (Small 0) (Small 12) (Ref 31) (nil ∷ [])) (method_context 0 0 (Ref 5 ∷ Small 0 ∷ []))
    (method_context 0 0 (nil ∷ []) ∷ block_context nil nil nil (Small 1) (Small 7) (Ref 31) [] ∷ []))))
    × (trying 80 1 (pos 9) (Ref 31 ∷ Small 0 ∷ []) (block_context nil nil nil (Small 0) nil (Ref 31) [] ∷ [])
    ≡ Went true (state (in_method (pos 9) 1) (objects (block_context nil (Small 12) (Small 0) (Small 0) (Small 12) (Ref 31) []) (method_context 0 0 (Ref 5 ∷ Small 0 ∷ []))
    (block_context nil nil nil (Small 0) nil (Ref 31) [] ∷ []))))
unfolding opened trying before state in_method objects method_context block_context pointers
made_of_block = (refl, refl)

-- the greatest number of arguments, and the greatest instruction pointer
made_greatest : trying 80 1 (pos 16380) (Ref 30 ∷ Small 16383 ∷ []) []
    ≡ Went true (state (in_method (pos 16380) 1) (objects (block_context nil (Small 16383) (Small 0) (Small 16383) (Small 16383) (Ref 30) (nil ∷ nil ∷ [])) (method_context 0 0 (Ref 5 ∷ Small 16383 ∷ [])) []))
unfolding opened trying before state in_method objects method_context block_context pointers
made_greatest = refl

-- none is made with another number of arguments given, of a SmallInteger, of an instance of another class, of a context that isn't
-- of kind Pointers or has no field 3; with a number of arguments below 0, or that is no SmallInteger
not_of : Fails 80 0 (pos 9) (Ref 30 ∷ []) []
    × Fails 80 2 (pos 9) (Ref 30 ∷ Small 1 ∷ Small 1 ∷ []) []
    × Fails 80 1 (pos 9) (Small 5 ∷ Small 1 ∷ []) []
    × Fails 80 1 (pos 9) (Ref 31 ∷ Small 1 ∷ []) (pointers 8 (replicate 8 nil) ∷ [])
    × Fails 80 1 (pos 9) (Ref 31 ∷ Small 1 ∷ []) (words 11 ∷ [])
    × Fails 80 1 (pos 9) (Ref 31 ∷ Small 1 ∷ []) (pointers 11 (nil ∷ nil ∷ nil ∷ []) ∷ [])
    × Fails 80 1 (pos 9) (Ref 30 ∷ Small 32767 ∷ []) []
    × Fails 80 1 (pos 9) (Ref 30 ∷ Small 16384 ∷ []) []
    × Fails 80 1 (pos 9) (Ref 30 ∷ nil ∷ []) []
unfolding opened trying before state in_method objects method_context block_context pointers words
not_of = (refl, refl, refl, refl, refl, refl, refl, refl, refl)

-- where the home has 5 fields, isn't of kind Pointers, or is a SmallInteger or missing; and where the place 3 bytes on is 16384
not_in : Fails 80 1 (pos 9) (Ref 31 ∷ Small 1 ∷ []) (pointers 11 (nil ∷ nil ∷ nil ∷ nil ∷ nil ∷ []) ∷ [])
    × Fails 80 1 (pos 9) (Ref 31 ∷ Small 1 ∷ []) (block_context nil nil nil (Small 1) nil nil [] ∷ [])
    × Fails 80 1 (pos 9) (Ref 31 ∷ Small 1 ∷ []) (block_context nil nil nil (Small 1) nil (Ref 32) [] ∷ words 11 ∷ [])
    × Fails 80 1 (pos 9) (Ref 31 ∷ Small 1 ∷ []) (block_context nil nil nil (Small 1) nil (Small 1) [] ∷ [])
    × Fails 80 1 (pos 9) (Ref 31 ∷ Small 1 ∷ []) (pointers 12 (nil ∷ nil ∷ nil ∷ Small 1 ∷ nil ∷ []) ∷ [])
    × Fails 80 1 (pos 16381) (Ref 30 ∷ Small 1 ∷ []) []
unfolding opened trying before state in_method objects method_context block_context pointers words
not_in = (refl, refl, refl, refl, refl, refl)

-- 81: the block is active, has the context as caller, and goes on at its first instruction pointer; the context's pointers are
-- stored
valued : trying 81 0 (pos 9) (Ref 31 ∷ []) (block (Small 0) [] ∷ [])
    ≡ Went true (state (in_block (Ref 31) (pos 6) 0) (objects None (method_context 10 0 (Ref 31 ∷ [])) (block_context (Ref 30) (Small 7) (Small 0) (Small 0) (Small 7) (Ref 30) [] ∷ [])))
unfolding opened trying before state in_method in_block objects method_context block_context block pointers
valued = refl

-- its arguments go to its stack, the lowest first; a word below the receiver stays
valued_with_two : trying 81 2 (pos 9) (nil ∷ Ref 31 ∷ Small 5 ∷ Small 6 ∷ []) (block (Small 2) (nil ∷ nil ∷ nil ∷ []) ∷ [])
    ≡ Went true (state (in_block (Ref 31) (pos 6) 2) (objects None (method_context 10 1 (nil ∷ Ref 31 ∷ Small 5 ∷ Small 6 ∷ []))
    (block_context (Ref 30) (Small 7) (Small 2) (Small 2) (Small 7) (Ref 30) (Small 5 ∷ Small 6 ∷ nil ∷ []) ∷ [])))
unfolding opened trying before state in_method in_block objects method_context block_context block pointers
valued_with_two = refl

-- a block that is its own home has its number of arguments as method, and itself as receiver
valued_in_itself : trying 81 0 (pos 9) (Ref 31 ∷ []) (block_context nil nil nil (Small 0) (Small 7) (Ref 31) [] ∷ [])
    ≡ Went true (state (record { active = Ref 31; home = Ref 31; method = Small 0; receiver = Ref 31; ip = pos 6; sp = 5 })
    (objects None (method_context 10 0 (Ref 31 ∷ [])) (block_context (Ref 30) (Small 7) (Small 0) (Small 0) (Small 7) (Ref 31) [] ∷ [])))
unfolding opened trying before state in_method objects method_context block_context pointers
valued_in_itself = refl

-- the value of the active block: it is its own caller, and goes on where it was, since its stored pointers are stored last
valued_again : (tries table 81 0).run (state (in_block (Ref 31) (pos 9) 2) (objects None (method_context 0 0 []) (block_context nil nil nil (Small 0) (Small 7) (Ref 30) (nil ∷ Ref 31 ∷ []) ∷ [])))
    ≡ Went true (state (in_block (Ref 31) (pos 9) 1) (objects None (method_context 0 0 []) (block_context (Ref 31) (Small 10) (Small 1) (Small 0) (Small 7) (Ref 30) (nil ∷ Ref 31 ∷ []) ∷ [])))
unfolding opened state in_block objects method_context block_context pointers
valued_again = refl

-- with its home gone the machine is dead: where nil has no fields, and where the home is a SmallInteger or no object of kind Pointers
home_gone : (trying 81 0 (pos 9) (Ref 31 ∷ []) (block_context nil nil nil (Small 0) (Small 7) nil [] ∷ []) ≡ Died dead.Field)
    × (trying 81 0 (pos 9) (Ref 31 ∷ []) (block_context nil nil nil (Small 0) (Small 7) (Small 1) [] ∷ []) ≡ Died dead.Small)
    × (trying 81 0 (pos 9) (Ref 31 ∷ []) (block_context nil nil nil (Small 0) (Small 7) (Ref 32) [] ∷ words 11 ∷ []) ≡ Died dead.Kind)
unfolding opened trying before state in_method objects method_context block_context pointers words
home_gone = (refl, refl, refl)

-- and with too few words on the stack
too_few : (trying 81 1 (pos 9) (Ref 31 ∷ []) (block (Small 1) (nil ∷ []) ∷ []) ≡ Died dead.Sp) × (trying 82 1 (pos 9) (Ref 31 ∷ []) (block (Small 1) (nil ∷ []) ∷ []) ≡ Died dead.Sp)
unfolding opened trying before state in_method objects method_context block_context block pointers
too_few = (refl, refl)

-- 81 fails for an instance of another class, for a SmallInteger, for a block that isn't of kind Pointers, whose number of arguments
-- is another or no SmallInteger, whose first instruction pointer is none or missing, or which has no field for each argument
not_valued : Fails 81 0 (pos 9) (Ref 30 ∷ []) []
    × Fails 81 0 (pos 9) (Small 5 ∷ []) []
    × Fails 81 0 (pos 9) (Ref 31 ∷ []) (words 12 ∷ [])
    × Fails 81 0 (pos 9) (Ref 31 ∷ []) (block (Small 1) (nil ∷ []) ∷ [])
    × Fails 81 1 (pos 9) (Ref 31 ∷ nil ∷ []) (block (Small 0) (nil ∷ []) ∷ [])
    × Fails 81 0 (pos 9) (Ref 31 ∷ []) (block nil [] ∷ [])
    × Fails 81 0 (pos 9) (Ref 31 ∷ []) (block_context nil nil nil (Small 0) nil (Ref 30) [] ∷ [])
    × Fails 81 0 (pos 9) (Ref 31 ∷ []) (pointers 12 (nil ∷ nil ∷ nil ∷ Small 0 ∷ []) ∷ [])
    × Fails 81 0 (pos 9) (Ref 31 ∷ []) (pointers 12 (nil ∷ nil ∷ nil ∷ Small 0 ∷ Small 7 ∷ []) ∷ [])
    × Fails 81 1 (pos 9) (Ref 31 ∷ nil ∷ []) (block (Small 1) [] ∷ [])
unfolding opened trying before state in_method objects method_context block_context block pointers words
not_valued = (refl, refl, refl, refl, refl, refl, refl, refl, refl, refl)

-- 82: the fields of an Array are the arguments; and an empty one has none
valued_with : (trying 82 1 (pos 9) (Ref 31 ∷ Ref 32 ∷ []) (block (Small 2) (nil ∷ nil ∷ []) ∷ pointers 8 (Small 5 ∷ Small 6 ∷ []) ∷ [])
    ≡ Went true (state (in_block (Ref 31) (pos 6) 2) (objects None (method_context 10 0 (Ref 31 ∷ Ref 32 ∷ []))
    (block_context (Ref 30) (Small 7) (Small 2) (Small 2) (Small 7) (Ref 30) (Small 5 ∷ Small 6 ∷ []) ∷ pointers 8 (Small 5 ∷ Small 6 ∷ []) ∷ []))))
    × (trying 82 1 (pos 9) (Ref 31 ∷ Ref 32 ∷ []) (block (Small 0) [] ∷ pointers 8 [] ∷ [])
    ≡ Went true (state (in_block (Ref 31) (pos 6) 0) (objects None (method_context 10 0 (Ref 31 ∷ Ref 32 ∷ []))
    (block_context (Ref 30) (Small 7) (Small 0) (Small 0) (Small 7) (Ref 30) [] ∷ pointers 8 [] ∷ []))))
unfolding opened trying before state in_method in_block objects method_context block_context block pointers
valued_with = (refl, refl)

-- it fails with another number of arguments given, for an instance of another class than Array, an Array that isn't of kind Pointers,
-- one of another size, and where the receiver is no block
not_valued_with : Fails 82 0 (pos 9) (Ref 31 ∷ []) (block (Small 0) [] ∷ [])
    × Fails 82 1 (pos 9) (Ref 31 ∷ Ref 32 ∷ []) (block (Small 1) (nil ∷ []) ∷ pointers 6 (nil ∷ []) ∷ [])
    × Fails 82 1 (pos 9) (Ref 31 ∷ Small 1 ∷ []) (block (Small 1) (nil ∷ []) ∷ [])
    × Fails 82 1 (pos 9) (Ref 31 ∷ Ref 32 ∷ []) (block (Small 1) (nil ∷ []) ∷ words 8 ∷ [])
    × Fails 82 1 (pos 9) (Ref 31 ∷ Ref 32 ∷ []) (block (Small 1) (nil ∷ []) ∷ pointers 8 [] ∷ [])
    × Fails 82 1 (pos 9) (Ref 31 ∷ Ref 32 ∷ []) (block (Small 1) [] ∷ pointers 8 (nil ∷ []) ∷ [])
    × Fails 82 1 (pos 9) (Ref 30 ∷ Ref 31 ∷ []) (pointers 8 [] ∷ [])
unfolding opened trying before state in_method objects method_context block_context block pointers words
not_valued_with = (refl, refl, refl, refl, refl, refl, refl)

-- a number of arguments below 0 is no size, also where its word is
not_below : Fails 82 1 (pos 9) (Ref 31 ∷ Ref 32 ∷ []) (block (Small 16384) (replicate 16384 nil) ∷ pointers 8 (replicate 16384 nil) ∷ [])
unfolding opened trying before state in_method objects method_context block_context block pointers
not_below = refl
