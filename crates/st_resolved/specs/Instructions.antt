-- Bytes as instructions (chapter 28). An instruction that is read has as many bytes as the one that was written, though
-- not always its own numbers: of a message with 256 arguments and more the bytes say the rest, and a jump over a block's
-- body is a jump.
use Rattle.std.specs.Prelude.{ℕ, zero, suc, Bool, ◌+◌, ◌-◌, ◌*◌, ◌%◌, ◌<◌, ◌≤◌, nat_lt, nat_le, ◌&&◌, true, false, List, [], ◌∷◌, drop, length, Option, Some, None, option_map, if◌then◌else◌}
use Rattle.st_model.specs.declared.bytecode.Operand.{Operand}
use Rattle.st_model.specs.declared.bytecode.Operand.TheVariants.{ReceiverVariable, TemporaryVariable, LiteralConstant, LiteralVariable}
use Rattle.st_model.specs.declared.bytecode.Constant.{Constant}
use Rattle.st_model.specs.declared.bytecode.Constant.TheVariants as constant
use Rattle.st_model.specs.declared.bytecode.Bytecode.{Bytecode}
use Rattle.st_model.specs.declared.bytecode.Bytecode.TheVariants as code
use Rattle.st_model.specs.Decoded.{decoded, operand_of, selector_of, arguments_of}
use Rattle.st_emit.specs.Bounds.{long_selectors, long_arguments}
use Rattle.st_emit.specs.declared.instruction.Constant.TheVariants.{Receiver, True, False, Nil, Context}
use Rattle.st_emit.specs.declared.instruction.InstructionOperand.{InstructionOperand}
use Rattle.st_emit.specs.declared.instruction.InstructionOperand.TheVariants.{Field, Temporary, Literal, Shared}
use Rattle.st_emit.specs.declared.instruction.Instruction.{Instruction}
use Rattle.st_emit.specs.declared.instruction.Instruction.TheVariants.{Push, PushConstant, PushNumber, Store, PopStore, Pop, Duplicate, Send, SendSuper, SendSpecial, ReturnConstant, ReturnTop, ReturnBlock, Jump, JumpBack, JumpIf, JumpPast}
use Rattle.st_emit.specs.Steps.{is_short}
use Rattle.st_emit.specs.Resolving.{first_special}
use Rattle.st_resolved.specs.declared.reading.Found.{Found}

-- READING

abbrev pub place_of : Operand → InstructionOperand
place_of (ReceiverVariable n) = Field n
place_of (TemporaryVariable n) = Temporary n
place_of (LiteralConstant n) = Literal n
place_of (LiteralVariable n) = Shared n

abbrev pub place_in : ℕ → InstructionOperand
place_in b = place_of (operand_of b)

abbrev pub pushed_constant : Constant → Instruction
pushed_constant constant.True = PushConstant True
pushed_constant constant.False = PushConstant False
pushed_constant constant.Nil = PushConstant Nil
pushed_constant constant.MinusOne = PushNumber 0
pushed_constant constant.Zero = PushNumber 1
pushed_constant constant.One = PushNumber 2
pushed_constant constant.Two = PushNumber 3

-- no code returns a number
abbrev pub returned_constant : Constant → Option Instruction
returned_constant constant.True = Some (ReturnConstant True)
returned_constant constant.False = Some (ReturnConstant False)
returned_constant constant.Nil = Some (ReturnConstant Nil)
returned_constant _ = None

abbrev pub in_one : Instruction → Option Found
in_one step = Some (record { step = step; size = 1 })

-- with one more byte, or two
abbrev pub in_two : (ℕ → Instruction) → List ℕ → Option Found
in_two f [] = None
in_two f (b ∷ bs) = Some (record { step = f b; size = 2 })

abbrev pub in_three : (ℕ → ℕ → Instruction) → List ℕ → Option Found
in_three f (b ∷ c ∷ bs) = Some (record { step = f b c; size = 3 })
in_three f _ = None

-- a message to super or not
abbrev pub sending : (above : Bool) → (arguments selector : ℕ) → Instruction
sending true n s = SendSuper n s
sending false n s = Send n s

-- a send by three bytes: where two would have done, it has 256 arguments more
abbrev pub long_count : (arguments selector : ℕ) → ℕ
long_count n s = if nat_lt s long_selectors && nat_le n long_arguments then n + 256 else n

abbrev pub doubly : (above : Bool) → List ℕ → Option Found
doubly above bs = in_three (λ n s. sending above (long_count n s) s) bs

-- a jump by two bytes that one would have done passes a block's body
abbrev pub long_on : ℕ → Instruction
long_on d = if is_short d then JumpPast d else Jump d

-- the codes from 160 on, by their number: back, and from the fifth on forward
abbrev pub long_jump_by : ℕ → ℕ → Instruction
long_jump_by i b = if nat_lt i 4 then JumpBack ((4 - i) * 256 - b) else long_on ((i - 4) * 256 + b)

-- a bytecode and the bytes behind its first
abbrev pub instruction_by : Bytecode → List ℕ → Option Found
instruction_by (code.Push o) bs = in_one (Push (place_of o))
instruction_by (code.StoreAndPop o) bs = in_one (PopStore (place_of o))
instruction_by code.PushReceiver bs = in_one (PushConstant Receiver)
instruction_by (code.PushConstant k) bs = in_one (pushed_constant k)
instruction_by code.ReturnReceiver bs = in_one (ReturnConstant Receiver)
instruction_by (code.ReturnConstant k) bs = option_map (λ (s : Instruction). record { step = s; size = 1 }) (returned_constant k)
instruction_by code.ReturnTopToSender bs = in_one ReturnTop
instruction_by code.ReturnTopToCaller bs = in_one ReturnBlock
instruction_by code.Unused bs = None
instruction_by code.ExtendedPush bs = in_two (λ b. Push (place_in b)) bs
instruction_by code.ExtendedStore bs = in_two (λ b. Store (place_in b)) bs
instruction_by code.ExtendedStoreAndPop bs = in_two (λ b. PopStore (place_in b)) bs
instruction_by code.ExtendedSend bs = in_two (λ b. Send (arguments_of b) (selector_of b)) bs
instruction_by code.DoubleExtendedSend bs = doubly false bs
instruction_by code.ExtendedSuperSend bs = in_two (λ b. SendSuper (arguments_of b) (selector_of b)) bs
instruction_by code.DoubleExtendedSuperSend bs = doubly true bs
instruction_by code.PopStack bs = in_one Pop
instruction_by code.DuplicateTop bs = in_one Duplicate
instruction_by code.PushActiveContext bs = in_one (PushConstant Context)
instruction_by (code.ShortUnconditionalJump i) bs = in_one (Jump (i + 1))
instruction_by (code.ShortJumpOnFalse i) bs = in_one (JumpIf false (i + 1))
instruction_by (code.LongUnconditionalJump i) bs = in_two (long_jump_by i) bs
instruction_by (code.LongJumpOnTrue i) bs = in_two (λ b. JumpIf true (i * 256 + b)) bs
instruction_by (code.LongJumpOnFalse i) bs = in_two (λ b. JumpIf false (i * 256 + b)) bs
instruction_by (code.ArithmeticSend i) bs = in_one (SendSpecial (first_special + i))
instruction_by (code.SpecialSend i) bs = in_one (SendSpecial (first_special + i))
instruction_by (code.PrimitiveSend i) bs = in_one (SendSpecial (first_special + i))
instruction_by (code.LiteralSend s n) bs = in_one (Send n s)

abbrev pub instruction : List ℕ → Option Found
instruction [] = None
instruction (b ∷ bs) = instruction_by (decoded b) bs

abbrev pub on_some : {A B : Type 0} → Option A → (A → Option B) → Option B
on_some None f = None
on_some (Some x) f = f x

-- at most so many instructions
abbrev pub steps_up : ℕ → List ℕ → Option (List Instruction)
steps_up f [] = Some []
steps_up zero (b ∷ bs) = None
steps_up (suc f) (b ∷ bs) = on_some (instruction (b ∷ bs)) (λ x. option_map (λ (ss : List Instruction). x.step ∷ ss) (steps_up f (drop x.size (b ∷ bs))))

abbrev pub steps_of : List ℕ → Option (List Instruction)
steps_of bytes = steps_up (length bytes) bytes

-- READING BACK

-- an instruction as it is read back
abbrev pub read_as : Instruction → Instruction
read_as (Send n s) = Send (if nat_lt n 256 then n else long_count (n % 256) s) s
read_as (SendSuper n s) = SendSuper (if nat_lt n 256 then n else long_count (n % 256) s) s
read_as (JumpPast d) = long_on d
read_as s = s

abbrev pub IsNumbered : InstructionOperand → Type 0
IsNumbered (Field n) = n < 64
IsNumbered (Temporary n) = n < 64
IsNumbered (Literal n) = n < 64
IsNumbered (Shared n) = n < 64

-- an instruction whose numbers its bytes can hold
abbrev pub Fits : Instruction → Type 0
Fits (Push p) = IsNumbered p
Fits (PushNumber n) = n ≤ 3
Fits (Store p) = IsNumbered p
Fits (PopStore p) = IsNumbered p
Fits (Send n s) = s < 64
Fits (SendSuper n s) = s < 64
Fits (SendSpecial c) = (176 ≤ c) × (c < 208)
Fits (ReturnConstant Context) = ⊥
Fits (Jump d) = d ≤ 1023
Fits (JumpPast d) = d ≤ 1023
Fits (JumpIf on d) = d ≤ 1023
Fits (JumpBack d) = (1 ≤ d) × (d ≤ 1024)
Fits _ = Unit {0}

abbrev pub AllFit : List Instruction → Type 0
AllFit [] = Unit {0}
AllFit (x ∷ xs) = Fits x × AllFit xs
