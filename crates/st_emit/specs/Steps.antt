-- Instructions as bytes.
use Rattle.std.specs.Prelude.{ℕ, zero, suc, ◌+◌, ◌-◌, ◌*◌, ◌/◌, ◌%◌, Bool, true, false, ◌&&◌, nat_lt, nat_le, List, [], ◌∷◌, if◌then◌else◌, flat_map}
use Rattle.std.specs.List.{list_all, list_any}
use Rattle.st_emit.specs.Bounds.{short_pushes, short_literals, short_pops, short_selectors, short_arguments, long_selectors, long_arguments, short_jump, most_forward, most_back}
use Rattle.st_emit.specs.declared.instruction.Constant.{Constant}
use Rattle.st_emit.specs.declared.instruction.Constant.TheVariants.{Receiver, True, False, Nil, Context}
use Rattle.st_emit.specs.declared.instruction.InstructionOperand.{InstructionOperand}
use Rattle.st_emit.specs.declared.instruction.InstructionOperand.TheVariants.{Field, Temporary, Literal, Shared}
use Rattle.st_emit.specs.declared.instruction.Instruction.{Instruction}
use Rattle.st_emit.specs.declared.instruction.Instruction.TheVariants.{Push, PushConstant, PushNumber, Store, PopStore, Pop, Duplicate, Send, SendSuper, SendSpecial, ReturnConstant, ReturnTop, ReturnBlock, Jump, JumpBack, JumpIf, JumpPast}

-- PLACES

-- what the long codes name: the type in the upper two bits, the number in the lower six
abbrev pub named_by : (type number : ℕ) → ℕ
named_by type number = type * 64 + number % 64

abbrev pub long_place : InstructionOperand → ℕ
long_place (Field n) = named_by 0 n
long_place (Temporary n) = named_by 1 n
long_place (Literal n) = named_by 2 n
long_place (Shared n) = named_by 3 n

-- by the short form where the number allows, else by the long one
abbrev pub short_or : (below first : ℕ) → (n : ℕ) → (long : List ℕ) → List ℕ
short_or below first n long = if nat_lt n below then (first + n) ∷ [] else long

abbrev pub push_bytes : InstructionOperand → List ℕ
push_bytes (Field n) = short_or short_pushes 0 n (128 ∷ named_by 0 n ∷ [])
push_bytes (Temporary n) = short_or short_pushes 16 n (128 ∷ named_by 1 n ∷ [])
push_bytes (Literal n) = short_or short_literals 32 n (128 ∷ named_by 2 n ∷ [])
push_bytes (Shared n) = short_or short_literals 64 n (128 ∷ named_by 3 n ∷ [])

abbrev pub pop_bytes : InstructionOperand → List ℕ
pop_bytes (Field n) = short_or short_pops 96 n (130 ∷ named_by 0 n ∷ [])
pop_bytes (Temporary n) = short_or short_pops 104 n (130 ∷ named_by 1 n ∷ [])
pop_bytes p = 130 ∷ long_place p ∷ []

-- SENDS

-- a literal below 32 with up to 7 arguments by two bytes, else three
abbrev pub long_send : (two three arguments selector : ℕ) → List ℕ
long_send two three arguments selector =
    if nat_lt selector long_selectors && nat_le arguments long_arguments then two ∷ (arguments * 32 + selector) ∷ [] else three ∷ (arguments % 256) ∷ (selector % 256) ∷ []

-- one below 16 with up to 2 by one byte
abbrev pub send_bytes : (arguments selector : ℕ) → List ℕ
send_bytes arguments selector =
    if nat_lt selector short_selectors && nat_le arguments short_arguments then (208 + 16 * arguments + selector) ∷ [] else long_send 131 132 arguments selector

-- CONSTANTS

abbrev pub constant_byte : Constant → ℕ
constant_byte Receiver = 112
constant_byte True = 113
constant_byte False = 114
constant_byte Nil = 115
constant_byte Context = 137

-- -1, 0, 1 and 2, by one more
abbrev pub small_byte : ℕ → ℕ
small_byte zero = 116
small_byte (suc zero) = 117
small_byte (suc (suc zero)) = 118
small_byte (suc (suc (suc n))) = 119

abbrev pub return_byte : Constant → ℕ
return_byte Receiver = 120
return_byte True = 121
return_byte False = 122
return_byte Nil = 123
return_byte Context = 124

-- JUMPS

-- one byte passes 1 to 8
abbrev pub is_short : ℕ → Bool
is_short d = nat_le 1 d && nat_le d short_jump

-- 256 passed for each of a row of codes, and as many as the second byte says
abbrev pub long_jump : (first d : ℕ) → List ℕ
long_jump first d = (first + d / 256) ∷ (d % 256) ∷ []

abbrev pub jump_bytes : (short long d : ℕ) → List ℕ
jump_bytes short long d = if is_short d then (short + d - 1) ∷ [] else long_jump long d

abbrev pub reaches : Instruction → Bool
reaches (Jump d) = nat_le d most_forward
reaches (JumpIf on d) = nat_le d most_forward
reaches (JumpPast d) = nat_le d most_forward
reaches (JumpBack d) = nat_le d most_back
reaches _ = true

abbrev pub all_reach : List Instruction → Bool
all_reach steps = list_all reaches steps

-- BYTES

abbrev pub bytes_of : Instruction → List ℕ
bytes_of (Push p) = push_bytes p
bytes_of (PushConstant k) = constant_byte k ∷ []
bytes_of (PushNumber n) = small_byte n ∷ []
bytes_of (Store p) = 129 ∷ long_place p ∷ []
bytes_of (PopStore p) = pop_bytes p
bytes_of Pop = 135 ∷ []
bytes_of Duplicate = 136 ∷ []
bytes_of (Send n s) = send_bytes n s
bytes_of (SendSuper n s) = long_send 133 134 n s
bytes_of (SendSpecial code) = code ∷ []
bytes_of (ReturnConstant k) = return_byte k ∷ []
bytes_of ReturnTop = 124 ∷ []
bytes_of ReturnBlock = 125 ∷ []
bytes_of (Jump d) = jump_bytes 144 164 d
bytes_of (JumpBack d) = long_jump 160 (most_back - d)
bytes_of (JumpIf true d) = long_jump 168 d
bytes_of (JumpIf false d) = jump_bytes 152 172 d
bytes_of (JumpPast d) = long_jump 164 d

abbrev pub all_bytes : List Instruction → List ℕ
all_bytes steps = flat_map bytes_of steps

-- SIZES

abbrev pub long_if : Bool → ℕ
long_if short = if short then 1 else 2

abbrev pub push_size : InstructionOperand → ℕ
push_size (Field n) = long_if (nat_lt n short_pushes)
push_size (Temporary n) = long_if (nat_lt n short_pushes)
push_size (Literal n) = long_if (nat_lt n short_literals)
push_size (Shared n) = long_if (nat_lt n short_literals)

abbrev pub pop_size : InstructionOperand → ℕ
pop_size (Field n) = long_if (nat_lt n short_pops)
pop_size (Temporary n) = long_if (nat_lt n short_pops)
pop_size p = 2

abbrev pub long_send_size : (arguments selector : ℕ) → ℕ
long_send_size arguments selector = if nat_lt selector long_selectors && nat_le arguments long_arguments then 2 else 3

-- how many bytes an instruction has, without what they are
abbrev pub size_of : Instruction → ℕ
size_of (Push p) = push_size p
size_of (PushConstant k) = 1
size_of (PushNumber n) = 1
size_of (Store p) = 2
size_of (PopStore p) = pop_size p
size_of Pop = 1
size_of Duplicate = 1
size_of (Send n s) = if nat_lt s short_selectors && nat_le n short_arguments then 1 else long_send_size n s
size_of (SendSuper n s) = long_send_size n s
size_of (SendSpecial k) = 1
size_of (ReturnConstant k) = 1
size_of ReturnTop = 1
size_of ReturnBlock = 1
size_of (Jump d) = long_if (is_short d)
size_of (JumpBack d) = 2
size_of (JumpIf true d) = 2
size_of (JumpIf false d) = long_if (is_short d)
size_of (JumpPast d) = 2

abbrev pub size : List Instruction → ℕ
size [] = 0
size (s ∷ ss) = size_of s + size ss

abbrev pub is_super_send : Instruction → Bool
is_super_send (SendSuper n s) = true
is_super_send _ = false

abbrev pub sends_super : List Instruction → Bool
sends_super steps = list_any is_super_send steps
