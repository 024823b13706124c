-- Worked rows of steps that die, or that send a message because the machine refuses something, computed from the
-- definitions: an image on a table of 27 places. The method 20 runs in the context 24. One dictionary, 10, is that of the
-- class of SmallIntegers, 12, and that of MethodContext, 22; in it the method 18 stands for one selector. The place of the
-- pointer 28 is the first free one.
use Rattle.std.proofs.Common.{◌≡◌, ℕ, List, [], ◌∷◌, Some, None, Option, refl}
use Rattle.std.specs.Prelude.{ℤ, pos, replicate}
use Rattle.st_model.specs.declared.dead.Dead.{Dead}
use Rattle.st_model.specs.declared.dead.Dead.TheVariants as dead
use Rattle.st_model.specs.declared.kind.Kind.TheVariants as kind
use Rattle.st_model.specs.Values.{Value, Small, Ref}
use Rattle.st_model.specs.Objects.{Object, nil}
use Rattle.st_model.specs.Outcomes as outcome
use Rattle.st_model.specs.Machine.{State, empty_world, Died, Went}
use Rattle.st_model.specs.Table.{Table, table}
use Rattle.st_model.specs.Contexts.{activate}
use Rattle.st_model.specs.Sends.{send_to_super}
use Rattle.st_model.specs.Bytecodes.{step}
use Rattle.st_model.proofs.Opened.{opened}

-- an object of kind Pointers, by half the pointer of its class
pointers : ℕ → List Value → Option Object
pointers class fields = Some (record { class = class; kind = kind.Pointers; fields = fields; units = [] })

plain : List Value → Option Object
unfolding pointers
plain fields = pointers 6 fields

method : List Value → List ℕ → Option Object
method fields bytes = Some (record { class = 17; kind = kind.Method; fields = fields; units = bytes })

-- the class MethodContext
contexts : Option Object
unfolding pointers plain
contexts = plain (nil ∷ Ref 5 ∷ [])

-- a context of the method 20 with this sender, these pointers in stored form and this stack
context : Value → Value → ℕ → List Value → Option Object
unfolding pointers
context sender ip sp stack = pointers 11 (sender ∷ ip ∷ Small sp ∷ Ref 10 ∷ nil ∷ nil ∷ stack)

-- a context of the method 18, with the sender 24, that begins with this number of temporary variables
activation : ℕ → Value → List Value → Option Object
unfolding pointers
activation temporaries receiver stack = pointers 11 (Ref 12 ∷ Small 3 ∷ Small temporaries ∷ Ref 9 ∷ nil ∷ receiver ∷ stack)

-- what is at pointers 22 to 28: MethodContext, the context that runs, another one, and what is made
record Changing : Type 0 where
  class : Option Object
  active : Option Object
  other : Option Object
  new : Option Object

-- The image's objects: by the selector that is understood and the header of its method, the value of the association 14,
-- the literals and bytes of the method 20, and those others.
objects : ℕ → ℕ → Value → List Value → List ℕ → Changing → Table
unfolding pointers plain method
objects selector header value literals bytes c =
    None ∷ plain [] ∷ plain [] ∷ plain [] ∷ pointers 8 (Ref 9 ∷ []) ∷ plain (Small 1 ∷ Ref 4 ∷ Ref selector ∷ []) ∷ plain (nil ∷ Ref 5 ∷ []) ∷ plain (nil ∷ value ∷ [])
    ∷ plain [] ∷ method (Small header ∷ []) (120 ∷ []) ∷ method literals bytes ∷ c.class ∷ c.active ∷ c.other ∷ c.new ∷ None ∷ None ∷ None ∷ None ∷ None ∷ None
    ∷ plain [] ∷ plain [] ∷ None ∷ None ∷ None ∷ plain [] ∷ []

state : ℕ → ℕ → Value → ℤ → ℕ → Table → State Table
state context method receiver ip sp t = record {
  memory = t;
  registers = record { active = Ref context; home = Ref context; method = Ref method; receiver = receiver; ip = ip; sp = sp };
  world = empty_world nil;
  head = record { entries = 32767; words = 1048576; globals = None; symbols = None };
}

-- opens the image's definitions
image : Unit {0}
unfolding pointers plain method contexts context activation objects state
image = tt

-- the next bytecode dies of this cause
abbrev Dies : State Table → Dead → Type 0
Dies s cause = (step table).run s ≡ Died cause

-- Activation: the bytecode 208 sends the selector 52, literal 0, to 5 without arguments. Its method has this header.

sent : ℕ → Option Object → State Table
unfolding image
sent header class = state 12 10 nil (pos 4) 6 (objects 26 header nil (Small 1 ∷ Ref 26 ∷ []) (208 ∷ []) (record { class = class; active = context nil (Small 5) 1 (Small 5 ∷ []); other = plain []; new = None }))

-- 12 temporary variables have places in a context of 18 fields: 1536 is 12 * 128
twelve_temporaries : (step table).run (sent 1536 contexts) ≡ Went outcome.Went (state 14 9 (Small 5) (pos 2) 17 (objects 26 1536 nil (Small 1 ∷ Ref 26 ∷ []) (208 ∷ []) (record { class = contexts; active = context nil (Small 6) 0 (Small 5 ∷ []); other = plain []; new = activation 12 (Small 5) (replicate 12 nil) })))
unfolding opened image sent
twelve_temporaries = refl

-- 13 have none (dead 6), nor have 13 arguments, which with the receiver stand in fields 6 to 19 of the stack
thirteen : Dies (sent 1664 contexts) dead.Sp × ((activate table (Ref 9) (Small 0) 13).run (state 12 10 nil (pos 2) 19 (objects 26 0 nil (Small 0 ∷ []) [] (record { class = contexts; active = context nil (Small 3) 14 (replicate 14 nil); other = plain []; new = None }))) ≡ Died dead.Sp)
unfolding opened image sent
thirteen = (refl, refl)

-- no context is made of a class that isn't there (dead 2), but the places and the words on the stack are looked at before
no_class : Dies (sent 1536 None) dead.Kind × Dies (sent 1664 None) dead.Sp × ((activate table (Ref 9) (Small 0) 1).run (sent 0 None) ≡ Died dead.Sp)
unfolding opened image sent
no_class = (refl, refl, refl)

-- Returns: the bytecode 121 returns true to this sender. The object 26 is a context with this instruction pointer in
-- stored form. The method that is understood has one argument: 4224 is 4096 + 128.

returned : ℕ → Value → Value → Value → List Value → State Table
unfolding image
returned selector value sender ip stack = state 12 10 nil (pos 2) 5 (objects selector 4224 value (Small 0 ∷ []) (121 ∷ []) (record { class = contexts; active = context sender (Small 3) 0 stack; other = context nil ip 0 (nil ∷ []); new = None }))

-- cannotReturn:, the selector 44, was sent to the context 24 with true
refused : Value → State Table
unfolding image
refused sender = state 14 9 (Ref 12) (pos 2) 6 (objects 22 4224 nil (Small 0 ∷ []) (121 ∷ []) (record { class = contexts; active = context sender (Small 4) 0 (Ref 12 ∷ Ref 3 ∷ []); other = context nil nil 0 (nil ∷ []); new = activation 1 (Ref 12) (Ref 3 ∷ replicate 11 nil) }))

to_nil : (step table).run (returned 22 nil nil nil (nil ∷ nil ∷ [])) ≡ Went outcome.Went (refused nil)
unfolding opened image returned refused
to_nil = refl

-- a context was left for good where its instruction pointer is nil
to_what_was_left : (step table).run (returned 22 nil (Ref 13) nil (nil ∷ nil ∷ [])) ≡ Went outcome.Went (refused (Ref 13))
unfolding opened image returned refused
to_what_was_left = refl

-- both, where neither cannotReturn: nor doesNotUnderstand: is understood (dead 8)
unanswered_returns : Dies (returned 26 nil nil nil (nil ∷ nil ∷ [])) dead.Unanswered × Dies (returned 26 nil (Ref 13) nil (nil ∷ nil ∷ [])) dead.Unanswered
unfolding opened image returned
unanswered_returns = (refl, refl)

-- the context and true are pushed first: dead 6 on a stack of one place
to_nil_without_places : Dies (returned 22 nil nil nil (nil ∷ [])) dead.Sp
unfolding opened image returned
to_nil_without_places = refl

-- a context that wasn't left goes on, and the one that returns is left
to_context : (step table).run (returned 22 nil (Ref 13) (Small 3) (nil ∷ nil ∷ [])) ≡ Went outcome.Went (state 13 10 nil (pos 2) 6 (objects 22 4224 nil (Small 0 ∷ []) (121 ∷ []) (record { class = contexts; active = context nil nil 0 (nil ∷ nil ∷ []); other = context nil (Small 3) 0 (Ref 3 ∷ []); new = None })))
unfolding opened image returned
to_context = refl

-- no contexts: a SmallInteger (dead 3), false, which has no field 1 (dead 1), and a method (dead 2)
to_no_context : Dies (returned 22 nil (Small 5) nil (nil ∷ nil ∷ [])) dead.Small × Dies (returned 22 nil (Ref 2) nil (nil ∷ nil ∷ [])) dead.Field × Dies (returned 22 nil (Ref 10) nil (nil ∷ nil ∷ [])) dead.Kind
unfolding opened image returned
to_no_context = (refl, refl, refl)

-- where field 1 isn't nil: an association, which has no field 3 (dead 1), and a context with false there (dead 4)
to_no_pointer : Dies (returned 22 (Ref 6) (Ref 7) nil (nil ∷ nil ∷ [])) dead.Field × Dies (returned 22 nil (Ref 13) (Ref 2) (nil ∷ nil ∷ [])) dead.NotSmall
unfolding opened image returned
to_no_pointer = (refl, refl)

-- Jumps on a condition, with this word at the top.

tested : ℕ → List ℕ → Value → State Table
unfolding image
tested selector bytes x = state 12 10 nil (pos 2) 6 (objects selector 0 nil (Small 0 ∷ []) bytes (record { class = contexts; active = context nil (Small 3) 1 (x ∷ []); other = plain []; new = None }))

-- the bytecode 152 jumps by 1 on false, and goes on where the word is true
on_booleans : ((step table).run (tested 26 (152 ∷ []) (Ref 2)) ≡ Went outcome.Went (state 12 10 nil (pos 4) 5 (tested 26 (152 ∷ []) (Ref 2)).memory)) × ((step table).run (tested 26 (152 ∷ []) (Ref 3)) ≡ Went outcome.Went (state 12 10 nil (pos 3) 5 (tested 26 (152 ∷ []) (Ref 3)).memory))
unfolding opened image tested
on_booleans = (refl, refl)

-- mustBeBoolean, the selector 52, is sent to any other word
on_five : (step table).run (tested 26 (152 ∷ []) (Small 5)) ≡ Went outcome.Went (state 14 9 (Small 5) (pos 2) 5 (objects 26 0 nil (Small 0 ∷ []) (152 ∷ []) (record { class = contexts; active = context nil (Small 4) 0 (Small 5 ∷ []); other = plain []; new = activation 0 (Small 5) (replicate 12 nil) })))
unfolding opened image tested
on_five = refl

-- which is dead 8 where it isn't understood; 168 is the jump on true
unanswered_jumps : Dies (tested 22 (152 ∷ []) (Small 5)) dead.Unanswered × Dies (tested 22 (168 ∷ 0 ∷ []) nil) dead.Unanswered
unfolding opened image tested
unanswered_jumps = (refl, refl)

-- Sends to super: the bytecode 133 sends literal 0 to super, where the method has this last literal.

sent_to_super : Value → Value → ℕ → State Table
unfolding image
sent_to_super last value sp = state 12 10 nil (pos 6) sp (objects 26 0 value (Small 2 ∷ Ref 26 ∷ last ∷ []) (133 ∷ 0 ∷ []) (record { class = contexts; active = context nil (Small 7) 1 (Small 5 ∷ []); other = plain []; new = None }))

-- no associations: a SmallInteger (dead 3), false, which has no field 1 (dead 1), and a method (dead 2)
no_association : Dies (sent_to_super (Small 5) nil 6) dead.Small × Dies (sent_to_super (Ref 2) nil 6) dead.Field × Dies (sent_to_super (Ref 10) nil 6) dead.Kind
unfolding opened image sent_to_super
no_association = (refl, refl, refl)

-- an association with one of these, and no class
association_without_class : Dies (sent_to_super (Ref 7) (Small 5) 6) dead.Small × Dies (sent_to_super (Ref 7) (Ref 2) 6) dead.Field × Dies (sent_to_super (Ref 7) (Ref 10) 6) dead.Kind
unfolding opened image sent_to_super
association_without_class = (refl, refl, refl)

-- above a class without a superclass nothing is understood (dead 8)
no_superclass : Dies (sent_to_super (Ref 7) (Ref 6) 6) dead.Unanswered
unfolding opened image sent_to_super
no_superclass = refl

-- the receiver is looked at before the last literal (dead 6 on an empty stack); without literals there is none (dead 1)
no_receiver : Dies (sent_to_super (Small 5) nil 5) dead.Sp × ((send_to_super table (Ref 26) 0).run (tested 26 [] (Small 5)) ≡ Died dead.Field)
unfolding opened image tested sent_to_super
no_receiver = (refl, refl)
