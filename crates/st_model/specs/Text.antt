-- The text of a report: what bytecodes say, a run's end, the registers, the input state, what is held, what is used, and every
-- object.
-- Each line ends with LF. Pointers are written as @60, SmallIntegers as numbers.
use Rattle.std.specs.Prelude.{codes, ℕ, ◌+◌, ◌-◌, ◌*◌, ◌/◌, ◌%◌, ◌==◌, suc, List, [], ◌∷◌, ◌++◌, length, Option, Some, None, ℤ, pos, ◌+ℤ◌, nat_lt, if◌then◌else◌}
use Rattle.std.specs.Fmt.{decimal, signed_decimal}
use Rattle.std.specs.List.{flat_map}
use Rattle.st_model.specs.declared.dead.Dead.{Dead}
use Rattle.st_model.specs.declared.kind.Kind.{Kind}
use Rattle.st_model.specs.declared.kind.Kind.TheVariants.{Pointers, Words, Bytes, Method}
use Rattle.st_model.specs.declared.demand.Demand.{Demand}
use Rattle.st_model.specs.Values.{Value, Small, Ref, integer}
use Rattle.st_model.specs.Objects.{Object, is_bytes, one, words_of}
use Rattle.st_model.specs.Deaths.{dead_number}
use Rattle.st_model.specs.Machine.{Registers, Devices, World, State}
use Rattle.st_model.specs.Table.{Table, total_used}
use Rattle.st_model.specs.Births.{Births, object_born}

abbrev pub value_text : Value → List ℕ
value_text (Small n) = signed_decimal (integer n)
value_text (Ref n) = codes "@" ++ decimal (2 * n)

-- each of the values, and of the numbers, after a space
abbrev pub values_text : List Value → List ℕ
values_text vs = flat_map (λ v. codes " " ++ value_text v) vs

abbrev pub numbers_text : List ℕ → List ℕ
numbers_text ns = flat_map (λ n. codes " " ++ decimal n) ns

-- the instruction pointer and the stack pointer of a context, and the line's end
abbrev pub pointers_text : ℤ → ℕ → List ℕ
pointers_text ip sp = (codes " " ++ signed_decimal ip) ++ ((codes " " ++ decimal sp) ++ codes "\n")

-- the instruction and stack pointers stand as they are stored in a context
abbrev pub registers_text : Registers → List ℕ
registers_text r = codes "registers" ++ (values_text (r.active ∷ r.home ∷ r.method ∷ r.receiver ∷ []) ++ pointers_text (r.ip +ℤ pos 1) (r.sp - 5))

-- the words that wait, the signals that are pending, the mouse, and the two clocks
abbrev pub input_text : World → List ℕ
input_text w = codes "input" ++ (numbers_text (length w.waiting ∷ length w.devices.pending ∷ w.mouse_x ∷ w.mouse_y ∷ w.second_clock ∷ w.millisecond_clock ∷ []) ++ codes "\n")

-- display, cursor, input semaphore, timer and low-space semaphore
abbrev pub held_text : Devices → List ℕ
held_text d = codes "held" ++ (values_text (d.display ∷ d.cursor ∷ d.input_semaphore ∷ d.timer ∷ d.low_space ∷ []) ++ codes "\n")

-- how many objects are kept, and how many words they have
abbrev pub used_text : Table → List ℕ
used_text t = codes "used" ++ (numbers_text (total_used one t ∷ total_used words_of t ∷ []) ++ codes "\n")

abbrev pub kind_text : Kind → List ℕ
kind_text Pointers = codes " p"
kind_text Words = codes " w"
kind_text Bytes = codes " b"
kind_text Method = codes " m"

-- a colon stands between a method's literals and its bytes
abbrev pub colon_text : Kind → List ℕ
colon_text Method = codes " :"
colon_text k = []

-- the pointer of an object, its class and the letter of its kind
abbrev pub heading_text : ℕ → Value → List ℕ → List ℕ
heading_text pointer class letter = codes "object" ++ ((codes " " ++ decimal pointer) ++ ((codes " " ++ value_text class) ++ letter))

abbrev pub object_head : ℕ → Object → List ℕ
object_head k o = heading_text (2 * k) (Ref o.class) (kind_text o.kind)

-- its fields, words or bytes
abbrev pub object_body : Object → List ℕ
object_body o = values_text o.fields ++ (colon_text o.kind ++ (numbers_text o.units ++ codes "\n"))

-- the line of the object of a halved pointer
abbrev pub object_text : ℕ → Object → List ℕ
object_text k o = object_head k o ++ object_body o

-- the objects from a place on, by rising pointer
abbrev pub objects_text : ℕ → Table → List ℕ
objects_text k [] = []
objects_text k (None ∷ t) = objects_text (suc k) t
objects_text k (Some o ∷ t) = object_text k o ++ objects_text (suc k) t

unfoldable pub state_text : State Table → List ℕ
state_text s = registers_text s.registers ++ (input_text s.world ++ (held_text s.world.devices ++ (used_text s.memory ++ objects_text 0 s.memory)))

-- a run's end, with the number of finished cycles
abbrev pub ran_text : ℕ → List ℕ
ran_text n = codes "ran" ++ (numbers_text (n ∷ []) ++ codes "\n")

abbrev pub dead_text : ℕ → Dead → List ℕ
dead_text n cause = codes "dead" ++ (numbers_text (n ∷ dead_number cause ∷ []) ++ codes "\n")

-- what the step would have made, and what was free
abbrev pub space_text : ℕ → Demand → Demand → List ℕ
space_text n demand left = codes "space" ++ (numbers_text (n ∷ demand.entries ∷ demand.words ∷ left.entries ∷ left.words ∷ []) ++ codes "\n")

abbrev pub quit_text : ℕ → List ℕ
quit_text n = codes "quit" ++ (numbers_text (n ∷ []) ++ codes "\n")

abbrev pub debugger_text : ℕ → List ℕ
debugger_text n = codes "debugger" ++ (numbers_text (n ∷ []) ++ codes "\n")

-- the digit of a number below 16
abbrev pub hexadecimal : ℕ → ℕ
hexadecimal n = if nat_lt n 10 then 48 + n else 87 + n

-- a byte from 32 to 126 but 92 stands for itself, and others are a backslash and two hexadecimal digits
abbrev pub escaped_byte : ℕ → List ℕ
escaped_byte b =
    if nat_lt b 32 then 92 ∷ hexadecimal (b / 16) ∷ hexadecimal (b % 16) ∷ [] else
    if nat_lt 126 b then 92 ∷ hexadecimal (b / 16) ∷ hexadecimal (b % 16) ∷ [] else
    if b == 92 then 92 ∷ hexadecimal (b / 16) ∷ hexadecimal (b % 16) ∷ [] else b ∷ []

abbrev pub escaped : List ℕ → List ℕ
escaped bytes = flat_map escaped_byte bytes

-- the line that says the bytes of an object of kind Bytes; of nothing else is there a line, nor is anything else said
abbrev pub said_text : Option Object → List ℕ
said_text None = []
said_text (Some o) = if is_bytes o.kind then codes "say " ++ (escaped o.units ++ codes "\n") else []

abbrev pub said_value : Births → Value → List ℕ
said_value h (Small n) = []
said_value h (Ref n) = said_text (object_born h n)
