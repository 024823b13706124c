-- Worked rows of the primitives that perform a selector, computed from the definitions. The receiver is 5, a SmallInteger, whose
-- class knows one selector.
use Rattle.std.proofs.Common.{◌≡◌, ℕ, List, [], ◌∷◌, Some, None, Option, refl}
use Rattle.std.specs.Prelude.{◌+◌, ◌-◌, ◌*◌, pos, length, replicate}
use Rattle.st_model.specs.declared.kind.Kind.TheVariants as kind
use Rattle.st_model.specs.declared.dead.Dead.TheVariants as dead
use Rattle.st_model.specs.Values.{Value, Small, Ref}
use Rattle.st_model.specs.Objects.{Object, nil}
use Rattle.st_model.specs.Outcomes.{Outcome}
use Rattle.st_model.specs.Outcomes as outcome
use Rattle.st_model.specs.Machine.{State, Transition, Died, Went, empty_world}
use Rattle.st_model.specs.Table.{Table, table}
use Rattle.st_model.specs.Executing.{execute}
use Rattle.st_model.proofs.Opened.{opened}
use Rattle.st_model.proofs.StorageRows.{pointers}

unfoldable method : List Value → Option Object
method fields = Some (record { class = 17; kind = kind.Method; fields = fields; units = 120 ∷ [] })

-- a method of a primitive that takes so many arguments: its flag is 7, and the extension is the first of two literals
unfoldable with_primitive : ℕ → ℕ → Option Object
unfolding method
with_primitive arguments primitive = method (Small 28674 ∷ Small (256 * arguments + primitive) ∷ nil ∷ [])

-- the context that is active, with these stored pointers and this stack
unfoldable active : ℕ → ℕ → List Value → Option Object
unfolding pointers
active ip sp stack = pointers 11 (nil ∷ Small ip ∷ Small sp ∷ Ref 32 ∷ nil ∷ nil ∷ stack)

-- a new context of a method, with its first instruction pointer and its temporary count as they are stored, and receiver and
-- arguments
unfoldable activation : Value → ℕ → ℕ → List Value → Option Object
unfolding pointers
activation method ip sp words = pointers 11 (Ref 30 ∷ Small ip ∷ Small sp ∷ method ∷ nil ∷ words)

-- Objects of the page, with the dictionary 33 for the class of SmallIntegers; the context 30, which is active; the performing method 31, of this primitive; the
-- dictionary with one selector, and the method 35 for that; and from 36 on the objects of a row. New objects go to the places 5, 15 and 18.
unfoldable objects : Option Object → Option Object → Option Object → Option Object → ℕ → Value → Option Object → List (Option Object) → Table
unfolding pointers with_primitive method
objects at5 at15 at18 context primitive selector found others =
    None ∷ pointers 6 [] ∷ pointers 6 [] ∷ pointers 6 [] ∷ pointers 6 [] ∷ at5 ∷ pointers 6 (nil ∷ Ref 33 ∷ Small 0 ∷ []) ∷ pointers 6 [] ∷ pointers 6 [] ∷ pointers 6 [] ∷ pointers 6 []
    ∷ pointers 6 [] ∷ pointers 6 [] ∷ pointers 6 [] ∷ pointers 6 [] ∷ at15 ∷ pointers 6 [] ∷ pointers 6 [] ∷ at18 ∷ None ∷ pointers 6 []
    ∷ pointers 6 [] ∷ None ∷ None ∷ None ∷ pointers 6 [] ∷ None ∷ None ∷ None ∷ pointers 6 []
    ∷ context ∷ with_primitive 0 primitive ∷ pointers 6 [] ∷ pointers 6 (Small 1 ∷ Ref 34 ∷ selector ∷ []) ∷ pointers 8 (Ref 35 ∷ []) ∷ found ∷ others

-- the active context and so many words on its stack, or a new context with so many
unfoldable state : Value → Value → Value → ℕ → ℕ → Table → State Table
state context method receiver ip depth t = record {
  memory = t;
  registers = record { active = context; home = context; method = method; receiver = receiver; ip = pos ip; sp = 5 + depth };
  world = empty_world nil;
  head = record { entries = 100; words = 1000; globals = None; symbols = None };
}

unfoldable in_sender : ℕ → Table → State Table
unfolding state
in_sender depth t = state (Ref 30) (Ref 32) nil 9 depth t

-- the method of the primitive is executed with n arguments, where these words are the stack
unfoldable performing : ℕ → ℕ → List Value → Value → Option Object → List (Option Object) → Transition (State Table) Outcome
unfolding in_sender objects active
performing primitive n stack selector found others =
    (execute table (record { method = Ref 31; arguments = n })).run (in_sender (length stack) (objects None None None (active 0 0 stack) primitive selector found others))

-- It fails, and the performing method is activated with its arguments: 5 and two words, which are popped. It has two literals.
unfoldable failed : ℕ → Value → Value → Value → Option Object → List (Option Object) → Transition (State Table) Outcome
unfolding state objects active activation
failed primitive a b selector found others =
    Went outcome.Went (state (Ref 5) (Ref 31) (Small 5) 6 0
    (objects (activation (Ref 31) 7 0 (Small 5 ∷ a ∷ b ∷ replicate 10 nil)) None None (active 10 0 (Small 5 ∷ a ∷ b ∷ [])) primitive selector found others))

abbrev Fails : ℕ → Value → Value → Value → Option Object → List (Option Object) → Type 0
Fails primitive a b selector found others = performing primitive 2 (Small 5 ∷ a ∷ b ∷ []) selector found others ≡ failed primitive a b selector found others

-- a method that takes one argument, which is its only temporary variable; and one that takes none
unfoldable takes_one : Option Object
unfolding method
takes_one = method (Small 4224 ∷ [])

unfoldable takes_none : Option Object
unfolding method
takes_none = method (Small 0 ∷ [])

-- what a selector is performed by that takes one argument: its context has 5 and the argument, and the place of the selector has
-- the argument
unfoldable performed_by : Value → ℕ → ℕ → Value → Value → ℕ → Value → Option Object → List (Option Object) → Transition (State Table) Outcome
unfolding state objects active activation
performed_by method ip temporaries argument last primitive selector found others =
    Went outcome.Went (state (Ref 5) method (Small 5) (ip - 1) temporaries
    (objects (activation method ip temporaries (Small 5 ∷ argument ∷ replicate 11 nil)) None None (active 10 0 (Small 5 ∷ argument ∷ last ∷ [])) primitive selector found others))

-- 83: the selector is found, and its method takes the one argument
performed : performing 83 2 (Small 5 ∷ Ref 36 ∷ Small 6 ∷ []) (Ref 36) takes_one (pointers 6 [] ∷ []) ≡ performed_by (Ref 35) 3 1 (Small 6) (Small 6) 83 (Ref 36) takes_one (pointers 6 [] ∷ [])
unfolding opened performing performed_by state in_sender objects active activation with_primitive takes_one method pointers
performed = refl

-- of a method that is found a primitive is tried: 111 answers the class; but 83 and 84 are not, so that the method that has one of
-- them is activated. Its extension says that it takes one argument.
performed_primitive : (performing 83 1 (Small 5 ∷ Ref 36 ∷ []) (Ref 36) (with_primitive 0 111) (pointers 6 [] ∷ [])
    ≡ Went outcome.Went (in_sender 1 (objects None None None (active 0 0 (Ref 6 ∷ Ref 36 ∷ [])) 83 (Ref 36) (with_primitive 0 111) (pointers 6 [] ∷ []))))
    × (performing 83 2 (Small 5 ∷ Ref 36 ∷ Small 6 ∷ []) (Ref 36) (with_primitive 1 83) (pointers 6 [] ∷ [])
    ≡ performed_by (Ref 35) 7 0 (Small 6) (Small 6) 83 (Ref 36) (with_primitive 1 83) (pointers 6 [] ∷ []))
unfolding opened performing performed_by state in_sender objects active activation with_primitive method pointers
performed_primitive = (refl, refl)

-- 84 performs 84, which fails as it takes two arguments: receiver, selector and Array
performed_again : performing 84 2 (Small 5 ∷ Ref 36 ∷ Ref 37 ∷ []) (Ref 36) (with_primitive 2 84) (pointers 6 [] ∷ pointers 8 (Ref 36 ∷ Ref 37 ∷ []) ∷ [])
    ≡ Went outcome.Went (state (Ref 5) (Ref 35) (Small 5) 6 0
    (objects (activation (Ref 35) 7 0 (Small 5 ∷ Ref 36 ∷ Ref 37 ∷ replicate 10 nil)) None None (active 10 0 (Small 5 ∷ Ref 36 ∷ Ref 37 ∷ [])) 84 (Ref 36) (with_primitive 2 84)
    (pointers 6 [] ∷ pointers 8 (Ref 36 ∷ Ref 37 ∷ []) ∷ [])))
unfolding opened performing state in_sender objects active activation with_primitive method pointers
performed_again = refl

-- a method of flag 5 takes no argument, and answers the receiver
performed_itself : performing 83 1 (Small 5 ∷ Ref 36 ∷ []) (Ref 36) (method (Small 20480 ∷ [])) (pointers 6 [] ∷ [])
    ≡ Went outcome.Went (in_sender 1 (objects None None None (active 0 0 (Small 5 ∷ Ref 36 ∷ [])) 83 (Ref 36) (method (Small 20480 ∷ [])) (pointers 6 [] ∷ [])))
unfolding opened performing state in_sender objects active with_primitive method pointers
performed_itself = refl

-- 83 fails where the method takes another number of arguments
not_performed : Fails 83 (Ref 36) (Small 6) (Ref 36) takes_none (pointers 6 [] ∷ [])
    × Fails 83 (Ref 36) (Small 6) (Ref 36) (with_primitive 2 111) (pointers 6 [] ∷ [])
    × Fails 83 (Ref 36) (Small 6) (Ref 36) (method (Small 24576 ∷ [])) (pointers 6 [] ∷ [])
unfolding opened performing failed state in_sender objects active activation with_primitive takes_none method pointers
not_performed = (refl, refl, refl)

-- and without a selector
no_selector : performing 83 0 (Small 5 ∷ []) (Ref 36) takes_none (pointers 6 [] ∷ [])
    ≡ Went outcome.Went (state (Ref 5) (Ref 31) (Small 5) 6 0 (objects (activation (Ref 31) 7 0 (Small 5 ∷ replicate 12 nil)) None None (active 10 0 (Small 5 ∷ [])) 83 (Ref 36) takes_none (pointers 6 [] ∷ [])))
unfolding opened performing state in_sender objects active activation with_primitive takes_none method pointers
no_selector = refl

-- A selector that isn't found is not understood: doesNotUnderstand: has a Message of it and of the Array of the other arguments.
-- Where there is no method for that either, the machine is dead.
not_understood : (performing 83 2 (Small 5 ∷ Ref 36 ∷ Small 6 ∷ []) (Ref 21) takes_one (pointers 6 [] ∷ [])
    ≡ Went outcome.Went (state (Ref 18) (Ref 35) (Small 5) 2 1
    (objects (pointers 8 (Small 6 ∷ [])) (pointers 16 (Ref 36 ∷ Ref 5 ∷ [])) (activation (Ref 35) 3 1 (Small 5 ∷ Ref 15 ∷ replicate 11 nil)) (active 10 0 (Small 5 ∷ Ref 15 ∷ Small 6 ∷ [])) 83 (Ref 21) takes_one
    (pointers 6 [] ∷ []))))
    × (performing 83 2 (Small 5 ∷ Ref 36 ∷ Small 6 ∷ []) (Ref 37) takes_one (pointers 6 [] ∷ pointers 6 [] ∷ []) ≡ Died dead.Unanswered)
unfolding opened performing state in_sender objects active activation with_primitive takes_one method pointers
not_understood = (refl, refl)

-- a death of the search, or of reading the method that was found, is one: a class without a dictionary, no method, and a method that has
-- no extension or another one than a SmallInteger
deaths : (performing 83 1 (Ref 36 ∷ Ref 36 ∷ []) (Ref 36) takes_one (pointers 29 [] ∷ []) ≡ Died dead.Field)
    × (performing 83 1 (Small 5 ∷ Ref 36 ∷ []) (Ref 36) (pointers 6 []) (pointers 6 [] ∷ []) ≡ Died dead.Kind)
    × (performing 83 1 (Small 5 ∷ Ref 36 ∷ []) (Ref 36) (method (Small 28673 ∷ nil ∷ [])) (pointers 6 [] ∷ []) ≡ Died dead.Field)
    × (performing 83 1 (Small 5 ∷ Ref 36 ∷ []) (Ref 36) (method (Small 28674 ∷ nil ∷ nil ∷ [])) (pointers 6 [] ∷ []) ≡ Died dead.NotSmall)
    × (performing 83 1 (Ref 36 ∷ []) (Ref 36) takes_one (pointers 29 [] ∷ []) ≡ Died dead.Sp)
unfolding opened performing state in_sender objects active with_primitive takes_one method pointers
deaths = (refl, refl, refl, refl, refl)

-- 84: the fields of the Array take the places of selector and Array, as many as the method takes
performed_with : (performing 84 2 (Small 5 ∷ Ref 36 ∷ Ref 37 ∷ []) (Ref 36) takes_one (pointers 6 [] ∷ pointers 8 (Small 6 ∷ []) ∷ [])
    ≡ performed_by (Ref 35) 3 1 (Small 6) (Ref 37) 84 (Ref 36) takes_one (pointers 6 [] ∷ pointers 8 (Small 6 ∷ []) ∷ []))
    × (performing 84 2 (Small 5 ∷ Ref 36 ∷ Ref 37 ∷ []) (Ref 36) (method (Small 20480 ∷ [])) (pointers 6 [] ∷ pointers 8 [] ∷ [])
    ≡ Went outcome.Went (in_sender 1 (objects None None None (active 0 0 (Small 5 ∷ Ref 36 ∷ Ref 37 ∷ [])) 84 (Ref 36) (method (Small 20480 ∷ [])) (pointers 6 [] ∷ pointers 8 [] ∷ []))))
unfolding opened performing performed_by state in_sender objects active activation with_primitive takes_one method pointers
performed_with = (refl, refl)

-- it fails where the Array has more or fewer, isn't an Array or not of kind Pointers; and where the active context has no room for
-- its fields, whatever would be found
not_performed_with : Fails 84 (Ref 36) (Ref 37) (Ref 36) takes_one (pointers 6 [] ∷ pointers 8 [] ∷ [])
    × Fails 84 (Ref 36) (Ref 37) (Ref 36) takes_one (pointers 6 [] ∷ pointers 8 (Small 6 ∷ Small 7 ∷ []) ∷ [])
    × Fails 84 (Ref 36) (Ref 37) (Ref 36) takes_one (pointers 6 [] ∷ pointers 6 (Small 6 ∷ []) ∷ [])
    × Fails 84 (Ref 36) (Small 6) (Ref 36) takes_one (pointers 6 [] ∷ [])
    × Fails 84 (Ref 36) (Ref 37) (Ref 36) takes_none (pointers 6 [] ∷ Some (record { class = 8; kind = kind.Words; fields = []; units = [] }) ∷ [])
    × Fails 84 (Ref 36) (Ref 37) (Ref 38) takes_one (pointers 6 [] ∷ pointers 8 (Small 6 ∷ Small 7 ∷ Small 8 ∷ []) ∷ pointers 6 [] ∷ [])
unfolding opened performing failed state in_sender objects active activation with_primitive takes_one takes_none method pointers
not_performed_with = (refl, refl, refl, refl, refl, refl)

-- a selector that isn't found takes as many as there is room for
not_understood_with : performing 84 2 (Small 5 ∷ Ref 36 ∷ Ref 37 ∷ []) (Ref 21) takes_one (pointers 6 [] ∷ pointers 8 (Small 6 ∷ Small 7 ∷ []) ∷ [])
    ≡ Went outcome.Went (state (Ref 18) (Ref 35) (Small 5) 2 1
    (objects (pointers 8 (Small 6 ∷ Small 7 ∷ [])) (pointers 16 (Ref 36 ∷ Ref 5 ∷ [])) (activation (Ref 35) 3 1 (Small 5 ∷ Ref 15 ∷ replicate 11 nil)) (active 10 0 (Small 5 ∷ Ref 15 ∷ Small 7 ∷ [])) 84 (Ref 21) takes_one
    (pointers 6 [] ∷ pointers 8 (Small 6 ∷ Small 7 ∷ []) ∷ [])))
unfolding opened performing state in_sender objects active activation with_primitive takes_one method pointers
not_understood_with = refl

-- with another number of arguments than two it fails, and dies where words are missing
other_number : (performing 84 1 (Small 5 ∷ Ref 36 ∷ []) (Ref 36) takes_one (pointers 6 [] ∷ [])
    ≡ Went outcome.Went (state (Ref 5) (Ref 31) (Small 5) 6 0 (objects (activation (Ref 31) 7 0 (Small 5 ∷ Ref 36 ∷ replicate 11 nil)) None None (active 10 0 (Small 5 ∷ Ref 36 ∷ [])) 84 (Ref 36) takes_one (pointers 6 [] ∷ []))))
    × (performing 84 2 (Small 5 ∷ Ref 36 ∷ []) (Ref 36) takes_one (pointers 6 [] ∷ []) ≡ Died dead.Sp)
unfolding opened performing state in_sender objects active activation with_primitive takes_one method pointers
other_number = (refl, refl)
