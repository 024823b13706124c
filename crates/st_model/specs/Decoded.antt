-- What the bytes of the bytecodes name (the table of chapter 28).
use Rattle.std.specs.Prelude.{ℕ, ◌-◌, ◌/◌, ◌%◌, ◌<◌, ◌≤◌, nat_lt, ◌==◌, if◌then◌else◌, ⊤}
use Rattle.st_model.specs.declared.bytecode.Operand.{Operand}
use Rattle.st_model.specs.declared.bytecode.Operand.TheVariants.{ReceiverVariable, TemporaryVariable, LiteralConstant, LiteralVariable}
use Rattle.st_model.specs.declared.bytecode.Constant.TheVariants.{True, False, Nil, MinusOne, Zero, One, Two}
use Rattle.st_model.specs.declared.bytecode.Bytecode.{Bytecode}
use Rattle.st_model.specs.declared.bytecode.Bytecode.TheVariants.{Push, StoreAndPop, PushReceiver, PushConstant, ReturnReceiver, ReturnConstant, ReturnTopToSender, ReturnTopToCaller, Unused, ExtendedPush, ExtendedStore, ExtendedStoreAndPop, ExtendedSend, DoubleExtendedSend, ExtendedSuperSend, DoubleExtendedSuperSend, PopStack, DuplicateTop, PushActiveContext, ShortUnconditionalJump, ShortJumpOnFalse, LongUnconditionalJump, LongJumpOnTrue, LongJumpOnFalse, ArithmeticSend, SpecialSend, PrimitiveSend, LiteralSend}

-- the byte after an extended code: the upper two bits are the type, the lower six the number
abbrev pub operand_of : ℕ → Operand
operand_of b =
    if nat_lt b 64 then ReceiverVariable (b % 64) else
    if nat_lt b 128 then TemporaryVariable (b % 64) else
    if nat_lt b 192 then LiteralConstant (b % 64) else LiteralVariable (b % 64)

-- of the byte after 131 or 133 the lower five bits number a literal, and the upper three are the number of arguments
abbrev pub selector_of : ℕ → ℕ
selector_of b = b % 32

abbrev pub arguments_of : ℕ → ℕ
arguments_of b = b / 32

-- what the first byte of a bytecode means
abbrev pub decoded : ℕ → Bytecode
decoded b =
    if nat_lt b 16 then Push (ReceiverVariable b) else
    if nat_lt b 32 then Push (TemporaryVariable (b - 16)) else
    if nat_lt b 64 then Push (LiteralConstant (b - 32)) else
    if nat_lt b 96 then Push (LiteralVariable (b - 64)) else
    if nat_lt b 104 then StoreAndPop (ReceiverVariable (b - 96)) else
    if nat_lt b 112 then StoreAndPop (TemporaryVariable (b - 104)) else
    if b == 112 then PushReceiver else
    if b == 113 then PushConstant True else
    if b == 114 then PushConstant False else
    if b == 115 then PushConstant Nil else
    if b == 116 then PushConstant MinusOne else
    if b == 117 then PushConstant Zero else
    if b == 118 then PushConstant One else
    if b == 119 then PushConstant Two else
    if b == 120 then ReturnReceiver else
    if b == 121 then ReturnConstant True else
    if b == 122 then ReturnConstant False else
    if b == 123 then ReturnConstant Nil else
    if b == 124 then ReturnTopToSender else
    if b == 125 then ReturnTopToCaller else
    if nat_lt b 128 then Unused else
    if b == 128 then ExtendedPush else
    if b == 129 then ExtendedStore else
    if b == 130 then ExtendedStoreAndPop else
    if b == 131 then ExtendedSend else
    if b == 132 then DoubleExtendedSend else
    if b == 133 then ExtendedSuperSend else
    if b == 134 then DoubleExtendedSuperSend else
    if b == 135 then PopStack else
    if b == 136 then DuplicateTop else
    if b == 137 then PushActiveContext else
    if nat_lt b 144 then Unused else
    if nat_lt b 152 then ShortUnconditionalJump (b - 144) else
    if nat_lt b 160 then ShortJumpOnFalse (b - 152) else
    if nat_lt b 168 then LongUnconditionalJump (b - 160) else
    if nat_lt b 172 then LongJumpOnTrue (b - 168) else
    if nat_lt b 176 then LongJumpOnFalse (b - 172) else
    if nat_lt b 192 then ArithmeticSend (b - 176) else
    if nat_lt b 198 then SpecialSend (b - 176) else
    if nat_lt b 203 then PrimitiveSend (b - 176) else
    if nat_lt b 208 then SpecialSend (b - 176) else
    if nat_lt b 224 then LiteralSend (b - 208) 0 else
    if nat_lt b 240 then LiteralSend (b - 224) 1 else LiteralSend (b - 240) 2

-- an operand's number has six bits at most
abbrev pub IsNumberedOperand : Operand → Type 0
IsNumberedOperand (ReceiverVariable i) = i < 64
IsNumberedOperand (TemporaryVariable i) = i < 64
IsNumberedOperand (LiteralConstant i) = i < 64
IsNumberedOperand (LiteralVariable i) = i < 64

-- the range of a bytecode's numbers
abbrev pub IsNumbered : Bytecode → Type 0
IsNumbered (Push o) = IsNumberedOperand o
IsNumbered (StoreAndPop o) = IsNumberedOperand o
IsNumbered (ShortUnconditionalJump i) = i < 8
IsNumbered (ShortJumpOnFalse i) = i < 8
IsNumbered (LongUnconditionalJump i) = i < 8
IsNumbered (LongJumpOnTrue i) = i < 4
IsNumbered (LongJumpOnFalse i) = i < 4
IsNumbered (ArithmeticSend i) = i < 16
IsNumbered (SpecialSend i) = i < 32
IsNumbered (PrimitiveSend i) = i < 32
IsNumbered (LiteralSend i n) = (i < 16) × (n ≤ 2)
IsNumbered b = ⊤
