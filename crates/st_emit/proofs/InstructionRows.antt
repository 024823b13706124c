-- Instructions with their bytes, in the order of the book's table of bytecodes (chapter 28): of each range the first code and the
-- last, and what stands behind it in the long form.
use Rattle.std.proofs.Common.{◌≡◌, ℕ, List, [], ◌∷◌, true, false, length, refl}
use Rattle.std.specs.Prelude.{map}
use Rattle.st_emit.specs.declared.instruction.Constant.TheVariants.{Receiver, True, False, Nil, Context}
use Rattle.st_emit.specs.declared.instruction.InstructionOperand.TheVariants.{Field, Temporary, Literal, Shared}
use Rattle.st_emit.specs.declared.instruction.Instruction.{Instruction}
use Rattle.st_emit.specs.declared.instruction.Instruction.TheVariants.{Push, PushConstant, PushNumber, Store, PopStore, Pop, Duplicate, Send, SendSuper, SendSpecial, ReturnConstant, ReturnTop, ReturnBlock, Jump, JumpBack, JumpIf, JumpPast}
use Rattle.st_emit.specs.Steps.{size_of, bytes_of}

abbrev instructions : List (Instruction × List ℕ)
instructions =
    -- 0 to 95 push a variable or a literal, 128 by its type and a number of six bits
    (Push (Field 0), 0 ∷ []) ∷ (Push (Field 15), 15 ∷ []) ∷ (Push (Field 16), 128 ∷ 16 ∷ []) ∷ (Push (Field 63), 128 ∷ 63 ∷ [])
    ∷ (Push (Temporary 0), 16 ∷ []) ∷ (Push (Temporary 15), 31 ∷ []) ∷ (Push (Temporary 16), 128 ∷ 80 ∷ []) ∷ (Push (Temporary 63), 128 ∷ 127 ∷ [])
    ∷ (Push (Literal 0), 32 ∷ []) ∷ (Push (Literal 31), 63 ∷ []) ∷ (Push (Literal 32), 128 ∷ 160 ∷ []) ∷ (Push (Literal 63), 128 ∷ 191 ∷ [])
    ∷ (Push (Shared 0), 64 ∷ []) ∷ (Push (Shared 31), 95 ∷ []) ∷ (Push (Shared 32), 128 ∷ 224 ∷ []) ∷ (Push (Shared 63), 128 ∷ 255 ∷ [])
    -- 96 to 111 pop and store, 130 by type and number
    ∷ (PopStore (Field 0), 96 ∷ []) ∷ (PopStore (Field 7), 103 ∷ []) ∷ (PopStore (Field 8), 130 ∷ 8 ∷ []) ∷ (PopStore (Field 63), 130 ∷ 63 ∷ [])
    ∷ (PopStore (Temporary 0), 104 ∷ []) ∷ (PopStore (Temporary 7), 111 ∷ []) ∷ (PopStore (Temporary 8), 130 ∷ 72 ∷ []) ∷ (PopStore (Temporary 63), 130 ∷ 127 ∷ [])
    ∷ (PopStore (Shared 0), 130 ∷ 192 ∷ []) ∷ (PopStore (Shared 63), 130 ∷ 255 ∷ [])
    -- 112 to 119 push receiver, true, false, nil, -1, 0, 1 and 2
    ∷ (PushConstant Receiver, 112 ∷ []) ∷ (PushConstant True, 113 ∷ []) ∷ (PushConstant False, 114 ∷ []) ∷ (PushConstant Nil, 115 ∷ [])
    ∷ (PushNumber 0, 116 ∷ []) ∷ (PushNumber 1, 117 ∷ []) ∷ (PushNumber 2, 118 ∷ []) ∷ (PushNumber 3, 119 ∷ [])
    -- 120 to 123 return receiver, true, false and nil, 124 and 125 the top of the stack from a message and from a block
    ∷ (ReturnConstant Receiver, 120 ∷ []) ∷ (ReturnConstant True, 121 ∷ []) ∷ (ReturnConstant False, 122 ∷ []) ∷ (ReturnConstant Nil, 123 ∷ [])
    ∷ (ReturnTop, 124 ∷ []) ∷ (ReturnBlock, 125 ∷ [])
    -- 129 stores by type and number
    ∷ (Store (Field 0), 129 ∷ 0 ∷ []) ∷ (Store (Field 63), 129 ∷ 63 ∷ []) ∷ (Store (Temporary 0), 129 ∷ 64 ∷ []) ∷ (Store (Temporary 63), 129 ∷ 127 ∷ [])
    ∷ (Store (Shared 0), 129 ∷ 192 ∷ []) ∷ (Store (Shared 63), 129 ∷ 255 ∷ [])
    -- 133 and 134 send to super, 135 pops, 136 pushes the top again, 137 the active context
    ∷ (SendSuper 0 0, 133 ∷ 0 ∷ []) ∷ (SendSuper 7 31, 133 ∷ 255 ∷ []) ∷ (SendSuper 0 32, 134 ∷ 0 ∷ 32 ∷ []) ∷ (SendSuper 8 0, 134 ∷ 8 ∷ 0 ∷ [])
    ∷ (Pop, 135 ∷ []) ∷ (Duplicate, 136 ∷ []) ∷ (PushConstant Context, 137 ∷ [])
    -- 144 to 151 jump over 1 to 8 bytes, 152 to 159 on false
    ∷ (Jump 1, 144 ∷ []) ∷ (Jump 8, 151 ∷ []) ∷ (JumpIf false 1, 152 ∷ []) ∷ (JumpIf false 8, 159 ∷ [])
    -- 160 to 163 jump back, 164 to 167 forward, 168 to 171 on true, 172 to 175 on false, each over 256 more than the one before
    ∷ (JumpBack 1024, 160 ∷ 0 ∷ []) ∷ (JumpBack 257, 162 ∷ 255 ∷ []) ∷ (JumpBack 256, 163 ∷ 0 ∷ []) ∷ (JumpBack 1, 163 ∷ 255 ∷ [])
    ∷ (Jump 9, 164 ∷ 9 ∷ []) ∷ (Jump 256, 165 ∷ 0 ∷ []) ∷ (Jump 1023, 167 ∷ 255 ∷ [])
    ∷ (JumpPast 1, 164 ∷ 1 ∷ []) ∷ (JumpPast 8, 164 ∷ 8 ∷ []) ∷ (JumpPast 1023, 167 ∷ 255 ∷ [])
    ∷ (JumpIf true 1, 168 ∷ 1 ∷ []) ∷ (JumpIf true 1023, 171 ∷ 255 ∷ []) ∷ (JumpIf false 9, 172 ∷ 9 ∷ []) ∷ (JumpIf false 1023, 175 ∷ 255 ∷ [])
    -- 176 to 207 send special selectors
    ∷ (SendSpecial 176, 176 ∷ []) ∷ (SendSpecial 207, 207 ∷ [])
    -- 208 to 255 send with no argument, one and two, 131 and 132 with more or further literals
    ∷ (Send 0 0, 208 ∷ []) ∷ (Send 0 15, 223 ∷ []) ∷ (Send 1 0, 224 ∷ []) ∷ (Send 1 15, 239 ∷ []) ∷ (Send 2 0, 240 ∷ []) ∷ (Send 2 15, 255 ∷ [])
    ∷ (Send 0 16, 131 ∷ 16 ∷ []) ∷ (Send 3 0, 131 ∷ 96 ∷ []) ∷ (Send 7 31, 131 ∷ 255 ∷ [])
    ∷ (Send 0 32, 132 ∷ 0 ∷ 32 ∷ []) ∷ (Send 8 0, 132 ∷ 8 ∷ 0 ∷ []) ∷ (Send 32 63, 132 ∷ 32 ∷ 63 ∷ [])
    ∷ []

-- each has these bytes, and so many
bytes_rows : map (λ i. bytes_of i.0) instructions ≡ map (λ i. i.1) instructions
bytes_rows = refl

size_rows : map (λ i. size_of i.0) instructions ≡ map (λ i. length i.1) instructions
size_rows = refl
