-- The table of the first bytes is the definition at each of the 256, by computing.
use Rattle.std.proofs.Common.{◌≡◌, ℕ, zero, suc, ◌+◌, ◌<◌, Bool, true, false, ◌&&◌, List, [], ◌∷◌, get_or, refl, ap, ◌∙◌, arith}
use Rattle.std.specs.Prelude.{nat_lt, nat_le}
use Rattle.std.proofs.lemmas.Bool.Decides.{nat_tests}
use Rattle.st_model.specs.declared.bytecode.Operand.{Operand}
use Rattle.st_model.specs.declared.bytecode.Operand.TheVariants.{ReceiverVariable, TemporaryVariable, LiteralConstant, LiteralVariable}
use Rattle.st_model.specs.declared.bytecode.Bytecode.{Bytecode}
use Rattle.st_model.specs.declared.bytecode.Bytecode.TheVariants as code
use Rattle.st_model.specs.declared.codes.TheConstants.{CODES}
use Rattle.st_model.specs.Decoded.{decoded, IsNumbered, IsNumberedOperand}

-- what n codes from b on mean
codes_from : ℕ → ℕ → List Bytecode
codes_from b zero = []
codes_from b (suc n) = decoded b ∷ codes_from (suc b) n

code_from : (n b i : ℕ) (d : Bytecode) → i < n → get_or (codes_from b n) i d ≡ decoded (b + i)
unfolding codes_from
code_from zero b i d lt = absurd (omega arith)
code_from (suc n) b zero d lt = let e : b ≡ b + 0 = omega arith in ap decoded e
code_from (suc n) b (suc i) d lt = let e : suc b + i ≡ b + suc i = omega arith in code_from n (suc b) i d (omega arith) ∙ ap decoded e

listed : CODES ≡ codes_from 0 256
unfolding codes_from
listed = refl

pub code_at : (i : ℕ) (d : Bytecode) → i < 256 → get_or CODES i d ≡ decoded i
code_at i d lt = let e : 0 + i ≡ i = omega arith in ap (λ (xs : List Bytecode). get_or xs i d) listed ∙ code_from 256 0 i d lt ∙ ap decoded e

is_numbered_operand : Operand → Bool
is_numbered_operand (ReceiverVariable i) = nat_lt i 64
is_numbered_operand (TemporaryVariable i) = nat_lt i 64
is_numbered_operand (LiteralConstant i) = nat_lt i 64
is_numbered_operand (LiteralVariable i) = nat_lt i 64

is_numbered : Bytecode → Bool
is_numbered (code.Push o) = is_numbered_operand o
is_numbered (code.StoreAndPop o) = is_numbered_operand o
is_numbered (code.ShortUnconditionalJump i) = nat_lt i 8
is_numbered (code.ShortJumpOnFalse i) = nat_lt i 8
is_numbered (code.LongUnconditionalJump i) = nat_lt i 8
is_numbered (code.LongJumpOnTrue i) = nat_lt i 4
is_numbered (code.LongJumpOnFalse i) = nat_lt i 4
is_numbered (code.ArithmeticSend i) = nat_lt i 16
is_numbered (code.SpecialSend i) = nat_lt i 32
is_numbered (code.PrimitiveSend i) = nat_lt i 32
is_numbered (code.LiteralSend i n) = nat_lt i 16 && nat_le n 2
is_numbered b = true

numbered_operand : (o : Operand) → is_numbered_operand o ≡ true → IsNumberedOperand o
unfolding is_numbered_operand
numbered_operand (ReceiverVariable i) h = grind (arith, nat_tests, h)
numbered_operand (TemporaryVariable i) h = grind (arith, nat_tests, h)
numbered_operand (LiteralConstant i) h = grind (arith, nat_tests, h)
numbered_operand (LiteralVariable i) h = grind (arith, nat_tests, h)

numbered_code : (b : Bytecode) → is_numbered b ≡ true → IsNumbered b
unfolding is_numbered
numbered_code (code.Push o) h = numbered_operand o h
numbered_code (code.StoreAndPop o) h = numbered_operand o h
numbered_code (code.ShortUnconditionalJump i) h = grind (arith, nat_tests, h)
numbered_code (code.ShortJumpOnFalse i) h = grind (arith, nat_tests, h)
numbered_code (code.LongUnconditionalJump i) h = grind (arith, nat_tests, h)
numbered_code (code.LongJumpOnTrue i) h = grind (arith, nat_tests, h)
numbered_code (code.LongJumpOnFalse i) h = grind (arith, nat_tests, h)
numbered_code (code.ArithmeticSend i) h = grind (arith, nat_tests, h)
numbered_code (code.SpecialSend i) h = grind (arith, nat_tests, h)
numbered_code (code.PrimitiveSend i) h = grind (arith, nat_tests, h)
numbered_code (code.LiteralSend i n) h = grind (arith, nat_tests, h)
numbered_code b h = tt

all_numbered : List Bytecode → Bool
all_numbered [] = true
all_numbered (b ∷ bs) = is_numbered b && all_numbered bs

both_of : (x y : Bool) → (x && y) ≡ true → (x ≡ true) × (y ≡ true)
both_of true true h = (refl, refl)
both_of true false h = cc
both_of false y h = cc

numbered_from : (bs : List Bytecode) (i : ℕ) (d : Bytecode) → all_numbered bs ≡ true → IsNumbered d → IsNumbered (get_or bs i d)
unfolding all_numbered
numbered_from [] i d h e = e
numbered_from (b ∷ bs) zero d h e = numbered_code b (both_of (is_numbered b) (all_numbered bs) h).0
numbered_from (b ∷ bs) (suc i) d h e = numbered_from bs i d (both_of (is_numbered b) (all_numbered bs) h).1 e

in_range : all_numbered CODES ≡ true
unfolding all_numbered is_numbered is_numbered_operand
in_range = refl

pub code_numbered : (i : ℕ) (d : Bytecode) → IsNumbered d → IsNumbered (get_or CODES i d)
code_numbered i d e = numbered_from CODES i d in_range e
