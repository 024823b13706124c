-- Worked rows of what the bytes of bytecodes mean, the first and the last code of each row of the book's table, and of the
-- integers of words.
use Rattle.std.proofs.Common.{◌≡◌, [], ◌∷◌, refl}
use Rattle.std.specs.Prelude.{map, pos, negsuc}
use Rattle.st_model.specs.declared.bytecode.Operand.TheVariants.{ReceiverVariable, TemporaryVariable, LiteralConstant, LiteralVariable}
use Rattle.st_model.specs.declared.bytecode.Constant.TheVariants.{True, False, Nil, MinusOne, Zero, One, Two}
use Rattle.st_model.specs.declared.bytecode.Bytecode.TheVariants.{Push, StoreAndPop, PushReceiver, PushConstant, ReturnReceiver, ReturnConstant, ReturnTopToSender, ReturnTopToCaller, Unused, ExtendedPush, ExtendedStore, ExtendedStoreAndPop, ExtendedSend, DoubleExtendedSend, ExtendedSuperSend, DoubleExtendedSuperSend, PopStack, DuplicateTop, PushActiveContext, ShortUnconditionalJump, ShortJumpOnFalse, LongUnconditionalJump, LongJumpOnTrue, LongJumpOnFalse, ArithmeticSend, SpecialSend, PrimitiveSend, LiteralSend}
use Rattle.st_model.specs.Values.{integer_of, value_of}
use Rattle.st_model.specs.Decoded.{decoded, operand_of}

pushes : map decoded (0 ∷ 15 ∷ 16 ∷ 31 ∷ 32 ∷ 63 ∷ 64 ∷ 95 ∷ []) ≡
    Push (ReceiverVariable 0) ∷ Push (ReceiverVariable 15) ∷ Push (TemporaryVariable 0) ∷ Push (TemporaryVariable 15) ∷ Push (LiteralConstant 0) ∷ Push (LiteralConstant 31) ∷ Push (LiteralVariable 0) ∷ Push (LiteralVariable 31) ∷ []
pushes = refl

stores : map decoded (96 ∷ 103 ∷ 104 ∷ 111 ∷ []) ≡
    StoreAndPop (ReceiverVariable 0) ∷ StoreAndPop (ReceiverVariable 7) ∷ StoreAndPop (TemporaryVariable 0) ∷ StoreAndPop (TemporaryVariable 7) ∷ []
stores = refl

constants : map decoded (112 ∷ 113 ∷ 114 ∷ 115 ∷ 116 ∷ 117 ∷ 118 ∷ 119 ∷ []) ≡
    PushReceiver ∷ PushConstant True ∷ PushConstant False ∷ PushConstant Nil ∷ PushConstant MinusOne ∷ PushConstant Zero ∷ PushConstant One ∷ PushConstant Two ∷ []
constants = refl

returns : map decoded (120 ∷ 121 ∷ 122 ∷ 123 ∷ 124 ∷ 125 ∷ []) ≡
    ReturnReceiver ∷ ReturnConstant True ∷ ReturnConstant False ∷ ReturnConstant Nil ∷ ReturnTopToSender ∷ ReturnTopToCaller ∷ []
returns = refl

unused : map decoded (126 ∷ 127 ∷ 138 ∷ 143 ∷ []) ≡
    Unused ∷ Unused ∷ Unused ∷ Unused ∷ []
unused = refl

extended : map decoded (128 ∷ 129 ∷ 130 ∷ 131 ∷ 132 ∷ 133 ∷ 134 ∷ 135 ∷ 136 ∷ 137 ∷ []) ≡
    ExtendedPush ∷ ExtendedStore ∷ ExtendedStoreAndPop ∷ ExtendedSend ∷ DoubleExtendedSend ∷ ExtendedSuperSend ∷ DoubleExtendedSuperSend ∷ PopStack ∷ DuplicateTop ∷ PushActiveContext ∷ []
extended = refl

jumps : map decoded (144 ∷ 151 ∷ 152 ∷ 159 ∷ 160 ∷ 167 ∷ 168 ∷ 171 ∷ 172 ∷ 175 ∷ []) ≡
    ShortUnconditionalJump 0 ∷ ShortUnconditionalJump 7 ∷ ShortJumpOnFalse 0 ∷ ShortJumpOnFalse 7 ∷ LongUnconditionalJump 0 ∷ LongUnconditionalJump 7 ∷ LongJumpOnTrue 0 ∷ LongJumpOnTrue 3 ∷ LongJumpOnFalse 0 ∷ LongJumpOnFalse 3 ∷ []
jumps = refl

special_sends : map decoded (176 ∷ 191 ∷ 192 ∷ 197 ∷ 198 ∷ 202 ∷ 203 ∷ 207 ∷ []) ≡
    ArithmeticSend 0 ∷ ArithmeticSend 15 ∷ SpecialSend 16 ∷ SpecialSend 21 ∷ PrimitiveSend 22 ∷ PrimitiveSend 26 ∷ SpecialSend 27 ∷ SpecialSend 31 ∷ []
special_sends = refl

literal_sends : map decoded (208 ∷ 223 ∷ 224 ∷ 239 ∷ 240 ∷ 255 ∷ []) ≡
    LiteralSend 0 0 ∷ LiteralSend 15 0 ∷ LiteralSend 0 1 ∷ LiteralSend 15 1 ∷ LiteralSend 0 2 ∷ LiteralSend 15 2 ∷ []
literal_sends = refl

-- the upper two bits are the type
operands : (operand_of 0 ≡ ReceiverVariable 0) × (operand_of 127 ≡ TemporaryVariable 63) × (operand_of 128 ≡ LiteralConstant 0) × (operand_of 255 ≡ LiteralVariable 63)
operands = (refl, refl, refl, refl)

-- the words 1, 3, 7fff, 8001 and ffff
integers : (integer_of (value_of 1) ≡ pos 0) × (integer_of (value_of 3) ≡ pos 1) × (integer_of (value_of 32767) ≡ pos 16383) × (integer_of (value_of 32769) ≡ negsuc 16383) × (integer_of (value_of 65535) ≡ negsuc 0)
unfolding value_of
integers = (refl, refl, refl, refl, refl)
