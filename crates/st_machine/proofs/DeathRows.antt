-- Worked rows of code that no compiler makes, and of images that it dies in, computed from the definitions: of which cause a run
-- dies, and after how many cycles. There are 30 objects on a table of 39 places. The context 62 runs the method 64; the class of
-- SmallIntegers, 12, has the dictionary 68, in which the method 72 stands for the selector 66.
use Rattle.std.proofs.Common.{◌≡◌, ℕ, List, [], ◌∷◌, ◌+◌, ◌*◌, Some, None, Option, refl}
use Rattle.std.specs.Prelude.{pos, replicate, length}
use Rattle.st_model.specs.declared.dead.Dead.{Dead}
use Rattle.st_model.specs.declared.dead.Dead.TheVariants as dead
use Rattle.st_model.specs.declared.kind.Kind.TheVariants as kind
use Rattle.st_model.specs.Values.{Value, Small, Ref}
use Rattle.st_model.specs.Objects.{Object, nil}
use Rattle.st_model.specs.Machine.{State, empty_world, Died}
use Rattle.st_model.specs.Table.{Table, table}
use Rattle.st_model.specs.Cycles.{run, run_of, finished}
use Rattle.st_model.specs.inside.Foreseen.{foreseen_cycle}
use Rattle.st_model.proofs.Opened.{opened}

-- an object of kind Pointers, by half the pointer of its class
pointers : ℕ → List Value → Option Object
pointers class fields = Some (record { class = class; kind = kind.Pointers; fields = fields; units = [] })

plain : List Value → Option Object
unfolding pointers
plain fields = pointers 6 fields

bytes : List ℕ → Option Object
bytes units = Some (record { class = 28; kind = kind.Bytes; fields = []; units = units })

method : List Value → List ℕ → Option Object
method fields units = Some (record { class = 17; kind = kind.Method; fields = fields; units = units })

-- what an image has of its own
record Image : Type 0 where
  -- the fields of the class of SmallIntegers
  integers : List Value
  -- the object of the special selectors
  specials : List Value
  -- the lists of the processes that are ready
  lists : Value
  -- the receiver of the context
  receiver : Value
  -- the method's literals behind its header, and its bytes
  literals : List Value
  code : List ℕ
  dictionary : List Value
  -- the literals of the method 72, its header before them
  found : List Value
  -- at 74 and 76
  others : List (Option Object)

objects : Image → Table
unfolding plain pointers method bytes
objects i =
    None ∷ plain [] ∷ plain [] ∷ plain [] ∷ plain (nil ∷ Ref 29 ∷ []) ∷ None ∷ plain i.integers ∷ plain [] ∷ plain [] ∷ None ∷ None
    ∷ plain [] ∷ plain [] ∷ plain [] ∷ plain [] ∷ None ∷ plain [] ∷ plain [] ∷ None ∷ None ∷ plain [] ∷ plain [] ∷ plain []
    ∷ None ∷ plain i.specials ∷ plain [] ∷ plain [] ∷ None ∷ plain [] ∷ plain (i.lists ∷ Ref 30 ∷ []) ∷ plain (nil ∷ Ref 31 ∷ Small 4 ∷ nil ∷ [])
    ∷ pointers 11 (nil ∷ Small (2 * length i.literals + 3) ∷ Small 0 ∷ Ref 32 ∷ nil ∷ i.receiver ∷ replicate 12 nil) ∷ method (Small (length i.literals) ∷ i.literals) i.code
    ∷ bytes (43 ∷ []) ∷ plain i.dictionary ∷ pointers 8 (Ref 36 ∷ []) ∷ method i.found (120 ∷ []) ∷ i.others

-- The registers are those of the context: the first byte comes next, and the stack is empty.
start : Image → State Table
unfolding objects
start i = record {
  memory = objects i;
  registers = record { active = Ref 31; home = Ref 31; method = Ref 32; receiver = i.receiver; ip = pos (2 * length i.literals + 2); sp = 5 };
  world = empty_world nil;
  head = record { entries = 32767; words = 1048576; globals = None; symbols = None };
}

-- no literals, these bytes, and this receiver
running : Value → List ℕ → Image
running receiver code = record {
  integers = nil ∷ Ref 34 ∷ Small 0 ∷ [];
  specials = Ref 33 ∷ Small 1 ∷ [];
  lists = nil;
  receiver = receiver;
  literals = [];
  code = code;
  dictionary = Small 1 ∷ Ref 35 ∷ Ref 33 ∷ [];
  found = Small 4224 ∷ [];
  others = [];
}

-- 16383 and 1 are pushed, and the special selector + is sent, since their sum is no SmallInteger
adding : Image
unfolding running
adding = record (running nil (32 ∷ 118 ∷ 176 ∷ [])) { literals = Small 16383 ∷ [] }

-- this receiver is pushed, and sent the selector 66, whose method has this number of a primitive
trying : Value → ℕ → Image
unfolding running
trying receiver primitive = record (running nil (32 ∷ 209 ∷ [])) {
  literals = receiver ∷ Ref 33 ∷ [];
  found = Small 28674 ∷ Small primitive ∷ nil ∷ [];
}

-- The n-th cycle dies of this cause, also in a machine that foresees its steps, and those before it are finished.
abbrev Dies : ℕ → Image → Dead → Type 0
Dies n i cause = (run table n (start i) ≡ Died cause) × (run_of foreseen_cycle n (start i) ≡ Died cause) × (finished table n (start i) + 1 ≡ n)

-- opens the image's definitions
image : Unit {0}
unfolding pointers plain bytes method objects start running adding trying
image = tt

-- 1: field 0 of nil, which has none
no_field : Dies 1 (running nil (0 ∷ [])) dead.Field
unfolding opened image
no_field = (refl, refl, refl)

-- 2: field 0 of a Symbol
field_of_bytes : Dies 1 (running (Ref 33) (0 ∷ [])) dead.Kind
unfolding opened image
field_of_bytes = (refl, refl, refl)

-- 3: field 0 of a SmallInteger
field_of_an_integer : Dies 1 (running (Small 1) (0 ∷ [])) dead.Small
unfolding opened image
field_of_an_integer = (refl, refl, refl)

-- 4: a special selector whose number of arguments is nil
no_number : Dies 3 (record adding { specials = Ref 33 ∷ nil ∷ [] }) dead.NotSmall
unfolding opened image
no_number = (refl, refl, refl)

-- 5: the bytecodes end without a return
no_return : Dies 2 (running nil (118 ∷ [])) dead.Ip
unfolding opened image
no_return = (refl, refl, refl)

-- 6: a word is pushed, and two are popped
no_word : Dies 3 (running nil (118 ∷ 135 ∷ 135 ∷ [])) dead.Sp
unfolding opened image
no_word = (refl, refl, refl)

-- 7: bytecodes that there aren't
no_bytecode : Dies 1 (running nil (126 ∷ [])) dead.Code × Dies 1 (running nil (127 ∷ [])) dead.Code × Dies 1 (running nil (138 ∷ [])) dead.Code × Dies 1 (running nil (143 ∷ [])) dead.Code
unfolding opened image
no_bytecode = ((refl, refl, refl), (refl, refl, refl), (refl, refl, refl), (refl, refl, refl))

-- 8: neither the message nor doesNotUnderstand: is understood
no_answer : Dies 3 (record adding { dictionary = Small 1 ∷ Ref 35 ∷ nil ∷ [] }) dead.Unanswered
unfolding opened image
no_answer = (refl, refl, refl)

-- 9: the one process suspends itself, and none is ready
no_process : Dies 2 (record (trying (Ref 30) 88) { lists = Ref 37; others = pointers 8 (Ref 38 ∷ []) ∷ plain (nil ∷ nil ∷ []) ∷ [] }) dead.Idle
unfolding opened image
no_process = (refl, refl, refl)

-- 10: a semaphore has 16383 signals in excess, and is signalled
excess : Dies 2 (record (trying (Ref 37) 85) { others = plain (nil ∷ nil ∷ Small 16383 ∷ []) ∷ [] }) dead.Excess
unfolding opened image
excess = (refl, refl, refl)

-- 11: a class that is its own superclass
circle : Dies 3 (record adding { integers = Ref 6 ∷ Ref 34 ∷ Small 0 ∷ []; dictionary = Small 1 ∷ Ref 35 ∷ nil ∷ [] }) dead.Chain
unfolding opened image
circle = (refl, refl, refl)

-- 12: a dictionary without places
no_places : Dies 3 (record adding { dictionary = Small 0 ∷ Ref 35 ∷ [] }) dead.Places
unfolding opened image
no_places = (refl, refl, refl)
