-- Instructions have as many bytes as their sizes say.
use Rattle.std.proofs.Common.{◌≡◌, ℕ, ◌+◌, ◌-◌, ◌*◌, ◌/◌, ◌%◌, Bool, true, false, ◌&&◌, List, [], ◌∷◌, ◌++◌, length, refl, arith, length-append}
use Rattle.std.specs.Prelude.{if◌then◌else◌, nat_lt, nat_le}
use Rattle.st_emit.specs.declared.instruction.InstructionOperand.TheVariants.{Field, Temporary, Literal, Shared}
use Rattle.st_emit.specs.declared.instruction.Instruction.{Instruction}
use Rattle.st_emit.specs.declared.instruction.Instruction.TheVariants.{Push, PushConstant, PushNumber, Store, PopStore, Pop, Duplicate, Send, SendSuper, SendSpecial, ReturnConstant, ReturnTop, ReturnBlock, Jump, JumpBack, JumpIf, JumpPast}
use Rattle.st_emit.specs.Steps.{size, size_of, bytes_of, all_bytes, named_by, long_send, long_send_size}
use Rattle.st_emit.specs.inside.Laws.{HasItsSize, HaveTheirSize}

-- as many bytes as the size says
one_or_two : (b : Bool) (x y z : ℕ) → length (if b then x ∷ [] else y ∷ z ∷ []) ≡ (if b then 1 else 2)
one_or_two true x y z = refl
one_or_two false x y z = refl

two_or_three : (b : Bool) (x y z w v : ℕ) → length (if b then x ∷ y ∷ [] else z ∷ w ∷ v ∷ []) ≡ (if b then 2 else 3)
two_or_three true x y z w v = refl
two_or_three false x y z w v = refl

one_or : (b : Bool) (x : ℕ) (ys : List ℕ) (n : ℕ) → length ys ≡ n → length (if b then x ∷ [] else ys) ≡ (if b then 1 else n)
one_or true x ys n e = refl
one_or false x ys n e = e

pub size-bytes : (x : Instruction) → HasItsSize x
size-bytes (Push (Field n)) = one_or_two (nat_lt n 16) (0 + n) 128 (named_by 0 n)
size-bytes (Push (Temporary n)) = one_or_two (nat_lt n 16) (16 + n) 128 (named_by 1 n)
size-bytes (Push (Literal n)) = one_or_two (nat_lt n 32) (32 + n) 128 (named_by 2 n)
size-bytes (Push (Shared n)) = one_or_two (nat_lt n 32) (64 + n) 128 (named_by 3 n)
size-bytes (PushConstant k) = refl
size-bytes (PushNumber n) = refl
size-bytes (Store p) = refl
size-bytes (PopStore (Field n)) = one_or_two (nat_lt n 8) (96 + n) 130 (named_by 0 n)
size-bytes (PopStore (Temporary n)) = one_or_two (nat_lt n 8) (104 + n) 130 (named_by 1 n)
size-bytes (PopStore (Literal n)) = refl
size-bytes (PopStore (Shared n)) = refl
size-bytes Pop = refl
size-bytes Duplicate = refl
size-bytes (Send n s) =
    one_or (nat_lt s 16 && nat_le n 2) (208 + 16 * n + s) (long_send 131 132 n s) (long_send_size n s) (two_or_three (nat_lt s 32 && nat_le n 7) 131 (n * 32 + s) 132 (n % 256) (s % 256))
size-bytes (SendSuper n s) = two_or_three (nat_lt s 32 && nat_le n 7) 133 (n * 32 + s) 134 (n % 256) (s % 256)
size-bytes (SendSpecial code) = refl
size-bytes (ReturnConstant k) = refl
size-bytes ReturnTop = refl
size-bytes ReturnBlock = refl
size-bytes (Jump d) = one_or_two (nat_le 1 d && nat_le d 8) (144 + d - 1) (164 + d / 256) (d % 256)
size-bytes (JumpBack d) = refl
size-bytes (JumpIf true d) = refl
size-bytes (JumpIf false d) = one_or_two (nat_le 1 d && nat_le d 8) (152 + d - 1) (172 + d / 256) (d % 256)
size-bytes (JumpPast d) = refl

pub sizes-bytes : (xs : List Instruction) → HaveTheirSize xs
sizes-bytes [] = refl
sizes-bytes (x ∷ xs) = omega (arith, length-append (bytes_of x) (all_bytes xs), size-bytes x, sizes-bytes xs)
