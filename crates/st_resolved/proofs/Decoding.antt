-- Instructions are read back from their bytes.
use Rattle.std.proofs.Common.{◌≡◌, ℕ, zero, suc, ◌+◌, ◌-◌, ◌*◌, ◌/◌, ◌%◌, ◌<◌, ◌≤◌, Bool, true, false, ◌&&◌, List, [], ◌∷◌, ◌++◌, length, drop, Option, Some, None, refl, sym, ap, ◌∙◌, subst, arith, drop_at, length-append}
use Rattle.std.proofs.lemmas.Bool.Decides.{nat_tests}
use Rattle.std.specs.Prelude.{if◌then◌else◌, nat_lt, nat_le, map, option_map}
use Rattle.st_model.specs.declared.bytecode.Operand.{Operand}
use Rattle.st_model.specs.declared.bytecode.Operand.TheVariants.{ReceiverVariable, TemporaryVariable, LiteralConstant, LiteralVariable}
use Rattle.st_model.specs.declared.bytecode.Bytecode.{Bytecode}
use Rattle.st_model.specs.declared.bytecode.Bytecode.TheVariants as code
use Rattle.st_model.specs.Decoded.{decoded, operand_of}
use Rattle.st_emit.specs.declared.instruction.Constant.TheVariants.{Receiver, True, False, Nil, Context}
use Rattle.st_emit.specs.declared.instruction.InstructionOperand.{InstructionOperand}
use Rattle.st_emit.specs.declared.instruction.InstructionOperand.TheVariants.{Field, Temporary, Literal, Shared}
use Rattle.st_emit.specs.declared.instruction.Instruction.{Instruction}
use Rattle.st_emit.specs.declared.instruction.Instruction.TheVariants.{Push, PushConstant, PushNumber, Store, PopStore, Pop, Duplicate, Send, SendSuper, SendSpecial, ReturnConstant, ReturnTop, ReturnBlock, Jump, JumpBack, JumpIf, JumpPast}
use Rattle.st_emit.specs.Steps.{size_of, bytes_of, all_bytes, named_by, long_send, long_send_size}
use Rattle.st_resolved.specs.Instructions.{in_one, in_two, doubly, sending, returned_constant, place_of, long_count, long_on, instruction, instruction_by, on_some, steps_up, steps_of, read_as, Fits, AllFit}
use Rattle.st_emit.proofs.Sizes.{size-bytes}
use Rattle.st_resolved.specs.declared.reading.Found.{Found}
use Rattle.st_resolved.proofs.Sizes.{step_some}
use Rattle.std.proofs.lemmas.Bool.{and_parts}

abbrev found : Instruction → ℕ → Option Found
found x n = Some (record { step = x; size = n })

field_back : (n : ℕ) → n < 64 → operand_of (named_by 0 n) ≡ ReceiverVariable n
field_back n h = grind (arith, nat_tests)

temporary_back : (n : ℕ) → n < 64 → operand_of (named_by 1 n) ≡ TemporaryVariable n
temporary_back n h = grind (arith, nat_tests)

literal_back : (n : ℕ) → n < 64 → operand_of (named_by 2 n) ≡ LiteralConstant n
literal_back n h = grind (arith, nat_tests)

shared_back : (n : ℕ) → n < 64 → operand_of (named_by 3 n) ≡ LiteralVariable n
shared_back n h = grind (arith, nat_tests)

-- short forms
push_field : (n : ℕ) → n < 16 → decoded (0 + n) ≡ code.Push (ReceiverVariable n)
push_field n h = grind (arith, nat_tests)

push_temporary : (n : ℕ) → n < 16 → decoded (16 + n) ≡ code.Push (TemporaryVariable n)
push_temporary n h = grind (arith, nat_tests)

push_literal : (n : ℕ) → n < 32 → decoded (32 + n) ≡ code.Push (LiteralConstant n)
push_literal n h = grind (arith, nat_tests)

push_shared : (n : ℕ) → n < 32 → decoded (64 + n) ≡ code.Push (LiteralVariable n)
push_shared n h = grind (arith, nat_tests)

pop_field : (n : ℕ) → n < 8 → decoded (96 + n) ≡ code.StoreAndPop (ReceiverVariable n)
pop_field n h = grind (arith, nat_tests)

pop_temporary : (n : ℕ) → n < 8 → decoded (104 + n) ≡ code.StoreAndPop (TemporaryVariable n)
pop_temporary n h = grind (arith, nat_tests)

short_jump : (d : ℕ) → 1 ≤ d → d ≤ 8 → decoded (144 + d - 1) ≡ code.ShortUnconditionalJump (d - 1)
short_jump d l h = grind (arith, nat_tests)

short_jump_if : (d : ℕ) → 1 ≤ d → d ≤ 8 → decoded (152 + d - 1) ≡ code.ShortJumpOnFalse (d - 1)
short_jump_if d l h = grind (arith, nat_tests)

arithmetic_code : (c : ℕ) → 176 ≤ c → c < 192 → decoded c ≡ code.ArithmeticSend (c - 176)
arithmetic_code c l h = grind (arith, nat_tests)

early_code : (c : ℕ) → 192 ≤ c → c < 198 → decoded c ≡ code.SpecialSend (c - 176)
early_code c l h = grind (arith, nat_tests)

primitive_code : (c : ℕ) → 198 ≤ c → c < 203 → decoded c ≡ code.PrimitiveSend (c - 176)
primitive_code c l h = grind (arith, nat_tests)

late_code : (c : ℕ) → 203 ≤ c → c < 208 → decoded c ≡ code.SpecialSend (c - 176)
late_code c l h = grind (arith, nat_tests)

special_send : (c : ℕ) (bs : List ℕ) → 176 ≤ c → c < 208 → instruction (c ∷ bs) ≡ in_one (SendSpecial c)
special_send c bs l h = by_range (nat_lt c 192) (nat_lt c 198) (nat_lt c 203) refl refl refl ∙ ap (λ (i : ℕ). in_one (SendSpecial i)) back
  where
    back : 176 + (c - 176) ≡ c
    back = omega (arith, l)

    by_range : (x y z : Bool) → nat_lt c 192 ≡ x → nat_lt c 198 ≡ y → nat_lt c 203 ≡ z → instruction_by (decoded c) bs ≡ in_one (SendSpecial (176 + (c - 176)))
    by_range true y z e f g = let low : c < 192 = grind (arith, nat_tests, e) in ap (λ (b : Bytecode). instruction_by b bs) (arithmetic_code c l low)
    by_range false true z e f g =
        let high : 192 ≤ c = grind (arith, nat_tests, e) in
        let low : c < 198 = grind (arith, nat_tests, f) in
        ap (λ (b : Bytecode). instruction_by b bs) (early_code c high low)
    by_range false false true e f g =
        let high : 198 ≤ c = grind (arith, nat_tests, f) in
        let low : c < 203 = grind (arith, nat_tests, g) in
        ap (λ (b : Bytecode). instruction_by b bs) (primitive_code c high low)
    by_range false false false e f g =
        let high : 203 ≤ c = grind (arith, nat_tests, g) in
        ap (λ (b : Bytecode). instruction_by b bs) (late_code c high h)

send_code : (n s : ℕ) → n ≤ 2 → s < 16 → decoded (208 + 16 * n + s) ≡ code.LiteralSend s n
send_code zero s h l = grind (arith, nat_tests)
send_code (suc zero) s h l = grind (arith, nat_tests)
send_code (suc (suc zero)) s h l = grind (arith, nat_tests)
send_code (suc (suc (suc n))) s h l = absurd (omega (arith, h))

-- long forms
jump_code : (k : ℕ) → k < 8 → decoded (160 + k) ≡ code.LongUnconditionalJump k
jump_code k h = grind (arith, nat_tests)

true_code : (k : ℕ) → k < 4 → decoded (168 + k) ≡ code.LongJumpOnTrue k
true_code k h = grind (arith, nat_tests)

false_code : (k : ℕ) → k < 4 → decoded (172 + k) ≡ code.LongJumpOnFalse k
false_code k h = grind (arith, nat_tests)

-- behind a bytecode that is known
decoded_as : (c : ℕ) (x : Bytecode) (bs : List ℕ) → decoded c ≡ x → instruction (c ∷ bs) ≡ instruction_by x bs
decoded_as c x bs e = ap (λ (b : Bytecode). instruction_by b bs) e

pub below : (m n : ℕ) → nat_lt m n ≡ true → m < n
below m n e = grind (arith, nat_tests)

long_jump_back : (d : ℕ) (bs : List ℕ) → 1 ≤ d → d ≤ 1024 → instruction ((160 + (1024 - d) / 256) ∷ (1024 - d) % 256 ∷ bs) ≡ found (JumpBack d) 2
long_jump_back d bs l h =
    let k : (1024 - d) / 256 < 4 = omega arith in
    let e : nat_lt ((1024 - d) / 256) 4 ≡ true = grind (arith, nat_tests, k) in
    let g : (4 - (1024 - d) / 256) * 256 - (1024 - d) % 256 ≡ d = omega arith in
    decoded_as (160 + (1024 - d) / 256) (code.LongUnconditionalJump ((1024 - d) / 256)) ((1024 - d) % 256 ∷ bs) (jump_code ((1024 - d) / 256) (omega arith))
    ∙ ap (λ (t : Bool). found (if t then JumpBack ((4 - (1024 - d) / 256) * 256 - (1024 - d) % 256) else long_on (((1024 - d) / 256 - 4) * 256 + (1024 - d) % 256)) 2) e
    ∙ ap (λ i. found (JumpBack i) 2) g

long_jump_on : (d : ℕ) (bs : List ℕ) → d ≤ 1023 → instruction ((164 + d / 256) ∷ d % 256 ∷ bs) ≡ found (long_on d) 2
long_jump_on d bs h =
    let q : 164 + d / 256 ≡ 160 + (4 + d / 256) = omega arith in
    let e : nat_lt (4 + d / 256) 4 ≡ false = grind (arith, nat_tests) in
    let g : (4 + d / 256 - 4) * 256 + d % 256 ≡ d = omega arith in
    ap (λ (c : ℕ). instruction (c ∷ d % 256 ∷ bs)) q
    ∙ decoded_as (160 + (4 + d / 256)) (code.LongUnconditionalJump (4 + d / 256)) (d % 256 ∷ bs) (jump_code (4 + d / 256) (omega arith))
    ∙ ap (λ (t : Bool). found (if t then JumpBack ((4 - (4 + d / 256)) * 256 - d % 256) else long_on ((4 + d / 256 - 4) * 256 + d % 256)) 2) e
    ∙ ap (λ i. found (long_on i) 2) g

long_jump_true : (d : ℕ) (bs : List ℕ) → d ≤ 1023 → instruction ((168 + d / 256) ∷ d % 256 ∷ bs) ≡ found (JumpIf true d) 2
long_jump_true d bs h =
    let g : d / 256 * 256 + d % 256 ≡ d = omega arith in
    decoded_as (168 + d / 256) (code.LongJumpOnTrue (d / 256)) (d % 256 ∷ bs) (true_code (d / 256) (omega arith)) ∙ ap (λ i. found (JumpIf true i) 2) g

long_jump_false : (d : ℕ) (bs : List ℕ) → d ≤ 1023 → instruction ((172 + d / 256) ∷ d % 256 ∷ bs) ≡ found (JumpIf false d) 2
long_jump_false d bs h =
    let g : d / 256 * 256 + d % 256 ≡ d = omega arith in
    decoded_as (172 + d / 256) (code.LongJumpOnFalse (d / 256)) (d % 256 ∷ bs) (false_code (d / 256) (omega arith)) ∙ ap (λ i. found (JumpIf false i) 2) g

-- a choice of two forms
by_test : (b : Bool) (x y : List ℕ) (m n : ℕ) (rest : List ℕ) (z : Instruction)
    → (b ≡ true → instruction (x ++ rest) ≡ found z m) → (b ≡ false → instruction (y ++ rest) ≡ found z n)
    → instruction ((if b then x else y) ++ rest) ≡ found z (if b then m else n)
by_test true x y m n rest z t f = t refl
by_test false x y m n rest z t f = f refl

one_more : (d : ℕ) → 1 ≤ d → d - 1 + 1 ≡ d
one_more d h = omega (arith, h)

within : (d : ℕ) → (nat_le 1 d && nat_le d 8) ≡ true → (1 ≤ d) × (d ≤ 8)
within d e = (grind (arith, nat_tests), grind (arith, nat_tests))

at_most : (m n : ℕ) → nat_le m n ≡ true → m ≤ n
at_most m n e = grind (arith, nat_tests)

-- a long send's byte
send_back : (n s : ℕ) → n ≤ 7 → s < 32 → ((n * 32 + s) / 32 ≡ n) × ((n * 32 + s) % 32 ≡ s)
send_back n s h l = (omega arith, omega arith)

small_mod : (n : ℕ) → n < 256 → n % 256 ≡ n
small_mod n h = omega arith

-- as many arguments as the bytes say
abbrev read_count : ℕ → ℕ → ℕ
read_count n s = if nat_lt n 256 then n else long_count (n % 256) s

few_count : (n s : ℕ) → n < 256 → n ≡ read_count n s
few_count n s h = let e : nat_lt n 256 ≡ true = grind (arith, nat_tests, h) in sym (ap (λ (b : Bool). if b then n else long_count (n % 256) s) e)

count_back : (n s : ℕ) → (nat_lt s 32 && nat_le n 7) ≡ false → long_count (n % 256) s ≡ read_count n s
count_back n s f = by_count (nat_lt n 256) refl
  where
    by_count : (b : Bool) → nat_lt n 256 ≡ b → long_count (n % 256) s ≡ (if b then n else long_count (n % 256) s)
    by_count true e = ap (λ (i : ℕ). long_count i s) (small_mod n (below n 256 e)) ∙ ap (λ (b : Bool). if b then n + 256 else n) f
    by_count false e = refl

pub reads_back : (x : Instruction) (rest : List ℕ) → Fits x → instruction (bytes_of x ++ rest) ≡ Some (record { step = read_as x; size = size_of x })
reads_back (Push (Field n)) rest h =
    by_test (nat_lt n 16) ((0 + n) ∷ []) (128 ∷ named_by 0 n ∷ []) 1 2 rest (Push (Field n)) (λ e. decoded_as (0 + n) (code.Push (ReceiverVariable n)) rest (push_field n (below n 16 e))) (λ e. ap (λ p. found (Push p) 2) (ap place_of (field_back n h)))
reads_back (Push (Temporary n)) rest h =
    by_test (nat_lt n 16) ((16 + n) ∷ []) (128 ∷ named_by 1 n ∷ []) 1 2 rest (Push (Temporary n)) (λ e. decoded_as (16 + n) (code.Push (TemporaryVariable n)) rest (push_temporary n (below n 16 e))) (λ e. ap (λ p. found (Push p) 2) (ap place_of (temporary_back n h)))
reads_back (Push (Literal n)) rest h =
    by_test (nat_lt n 32) ((32 + n) ∷ []) (128 ∷ named_by 2 n ∷ []) 1 2 rest (Push (Literal n)) (λ e. decoded_as (32 + n) (code.Push (LiteralConstant n)) rest (push_literal n (below n 32 e))) (λ e. ap (λ p. found (Push p) 2) (ap place_of (literal_back n h)))
reads_back (Push (Shared n)) rest h =
    by_test (nat_lt n 32) ((64 + n) ∷ []) (128 ∷ named_by 3 n ∷ []) 1 2 rest (Push (Shared n)) (λ e. decoded_as (64 + n) (code.Push (LiteralVariable n)) rest (push_shared n (below n 32 e))) (λ e. ap (λ p. found (Push p) 2) (ap place_of (shared_back n h)))
reads_back (PushConstant Receiver) rest h = refl
reads_back (PushConstant True) rest h = refl
reads_back (PushConstant False) rest h = refl
reads_back (PushConstant Nil) rest h = refl
reads_back (PushConstant Context) rest h = refl
reads_back (PushNumber zero) rest h = refl
reads_back (PushNumber (suc zero)) rest h = refl
reads_back (PushNumber (suc (suc zero))) rest h = refl
reads_back (PushNumber (suc (suc (suc zero)))) rest h = refl
reads_back (PushNumber (suc (suc (suc (suc n))))) rest h = absurd (omega arith)
reads_back (Store (Field n)) rest h = ap (λ p. found (Store p) 2) (ap place_of (field_back n h))
reads_back (Store (Temporary n)) rest h = ap (λ p. found (Store p) 2) (ap place_of (temporary_back n h))
reads_back (Store (Literal n)) rest h = ap (λ p. found (Store p) 2) (ap place_of (literal_back n h))
reads_back (Store (Shared n)) rest h = ap (λ p. found (Store p) 2) (ap place_of (shared_back n h))
reads_back (PopStore (Field n)) rest h =
    by_test (nat_lt n 8) ((96 + n) ∷ []) (130 ∷ named_by 0 n ∷ []) 1 2 rest (PopStore (Field n)) (λ e. decoded_as (96 + n) (code.StoreAndPop (ReceiverVariable n)) rest (pop_field n (below n 8 e))) (λ e. ap (λ p. found (PopStore p) 2) (ap place_of (field_back n h)))
reads_back (PopStore (Temporary n)) rest h =
    by_test (nat_lt n 8) ((104 + n) ∷ []) (130 ∷ named_by 1 n ∷ []) 1 2 rest (PopStore (Temporary n)) (λ e. decoded_as (104 + n) (code.StoreAndPop (TemporaryVariable n)) rest (pop_temporary n (below n 8 e))) (λ e. ap (λ p. found (PopStore p) 2) (ap place_of (temporary_back n h)))
reads_back (PopStore (Literal n)) rest h = ap (λ p. found (PopStore p) 2) (ap place_of (literal_back n h))
reads_back (PopStore (Shared n)) rest h = ap (λ p. found (PopStore p) 2) (ap place_of (shared_back n h))
reads_back Pop rest h = refl
reads_back Duplicate rest h = refl
reads_back (Send n s) rest h =
    by_test (nat_lt s 16 && nat_le n 2) ((208 + 16 * n + s) ∷ []) (long_send 131 132 n s) 1 (long_send_size n s) rest (read_as (Send n s))
    (λ e. let p = and_parts (nat_lt s 16) (nat_le n 2) e in decoded_as (208 + 16 * n + s) (code.LiteralSend s n) rest (send_code n s (at_most n 2 p.1) (below s 16 p.0)) ∙ ap (λ (i : ℕ). found (Send i s) 1) (few_count n s (omega (arith, at_most n 2 p.1))))
    (λ e. by_test (nat_lt s 32 && nat_le n 7) (131 ∷ (n * 32 + s) ∷ []) (132 ∷ (n % 256) ∷ (s % 256) ∷ []) 2 3 rest (read_as (Send n s))
    (λ f. let p = and_parts (nat_lt s 32) (nat_le n 7) f in let q = send_back n s (at_most n 7 p.1) (below s 32 p.0) in
    ap (λ i. found (Send i ((n * 32 + s) % 32)) 2) q.0 ∙ ap (λ j. found (Send n j) 2) q.1 ∙ ap (λ (i : ℕ). found (Send i s) 2) (few_count n s (omega (arith, at_most n 7 p.1))))
    (λ f. ap (λ j. found (Send (long_count (n % 256) j) j) 3) (small_mod s (omega arith)) ∙ ap (λ (i : ℕ). found (Send i s) 3) (count_back n s f)))
reads_back (SendSuper n s) rest h =
    by_test (nat_lt s 32 && nat_le n 7) (133 ∷ (n * 32 + s) ∷ []) (134 ∷ (n % 256) ∷ (s % 256) ∷ []) 2 3 rest (read_as (SendSuper n s))
    (λ f. let p = and_parts (nat_lt s 32) (nat_le n 7) f in let q = send_back n s (at_most n 7 p.1) (below s 32 p.0) in
    ap (λ i. found (SendSuper i ((n * 32 + s) % 32)) 2) q.0 ∙ ap (λ j. found (SendSuper n j) 2) q.1 ∙ ap (λ (i : ℕ). found (SendSuper i s) 2) (few_count n s (omega (arith, at_most n 7 p.1))))
    (λ f. ap (λ j. found (SendSuper (long_count (n % 256) j) j) 3) (small_mod s (omega arith)) ∙ ap (λ (i : ℕ). found (SendSuper i s) 3) (count_back n s f))
reads_back (SendSpecial code) rest h = special_send code rest h.0 h.1
reads_back (ReturnConstant Receiver) rest h = refl
reads_back (ReturnConstant True) rest h = refl
reads_back (ReturnConstant False) rest h = refl
reads_back (ReturnConstant Nil) rest h = refl
reads_back (ReturnConstant Context) rest h = absurd h
reads_back ReturnTop rest h = refl
reads_back ReturnBlock rest h = refl
reads_back (Jump d) rest h =
    by_test (nat_le 1 d && nat_le d 8) ((144 + d - 1) ∷ []) ((164 + d / 256) ∷ (d % 256) ∷ []) 1 2 rest (Jump d) (λ e. decoded_as (144 + d - 1) (code.ShortUnconditionalJump (d - 1)) rest (short_jump d (within d e).0 (within d e).1) ∙ ap (λ (i : ℕ). found (Jump i) 1) (one_more d (within d e).0)) (λ e. long_jump_on d rest h ∙ ap (λ (b : Bool). found (if b then JumpPast d else Jump d) 2) e)
reads_back (JumpBack d) rest h = long_jump_back d rest h.0 h.1
reads_back (JumpIf true d) rest h = long_jump_true d rest h
reads_back (JumpIf false d) rest h =
    by_test (nat_le 1 d && nat_le d 8) ((152 + d - 1) ∷ []) ((172 + d / 256) ∷ (d % 256) ∷ []) 1 2 rest (JumpIf false d) (λ e. decoded_as (152 + d - 1) (code.ShortJumpOnFalse (d - 1)) rest (short_jump_if d (within d e).0 (within d e).1) ∙ ap (λ (i : ℕ). found (JumpIf false i) 1) (one_more d (within d e).0)) (λ e. long_jump_false d rest h)
reads_back (JumpPast d) rest h = long_jump_on d rest h

-- as many instructions as were written are read, if there are as many
step_bytes : (x : Instruction) → (b : ℕ) × ((bs : List ℕ) × (bytes_of x ≡ b ∷ bs))
step_bytes x = some_bytes (bytes_of x) (omega (arith, size-bytes x, step_some x))
  where
    some_bytes : (l : List ℕ) → 1 ≤ length l → (b : ℕ) × ((bs : List ℕ) × (l ≡ b ∷ bs))
    some_bytes [] h = absurd (omega (arith, h))
    some_bytes (b ∷ bs) h = (b, (bs, refl))

steps_more : (f : ℕ) (b : ℕ) (bs : List ℕ) (whole : List ℕ) (x : Found) → whole ≡ b ∷ bs → instruction whole ≡ Some x → steps_up (suc f) whole ≡ option_map (λ (ss : List Instruction). x.step ∷ ss) (steps_up f (drop x.size whole))
steps_more f b bs whole x e h =
    ap (steps_up (suc f)) e
    ∙ ap (λ (o : Option Found). on_some o (λ y. option_map (λ (ss : List Instruction). y.step ∷ ss) (steps_up f (drop y.size (b ∷ bs))))) (sym (ap instruction e) ∙ h)
    ∙ ap (λ (l : List ℕ). option_map (λ (ss : List Instruction). x.step ∷ ss) (steps_up f (drop x.size l))) (sym e)

pub steps_up_back : (steps : List Instruction) (f : ℕ) → AllFit steps → length (all_bytes steps) ≤ f → steps_up f (all_bytes steps) ≡ Some (map read_as steps)
steps_up_back [] zero h k = refl
steps_up_back [] (suc f) h k = refl
steps_up_back (x ∷ xs) zero h k =
    let more : 1 ≤ length (all_bytes (x ∷ xs)) = omega (arith, length-append (bytes_of x) (all_bytes xs), size-bytes x, step_some x) in
    absurd (omega (arith, k, more))
steps_up_back (x ∷ xs) (suc f) h k =
    let s = step_bytes x in
    let whole : all_bytes (x ∷ xs) ≡ s.0 ∷ (s.1.0 ++ all_bytes xs) = ap (λ (l : List ℕ). l ++ all_bytes xs) s.1.1 in
    let dropped : drop (size_of x) (bytes_of x ++ all_bytes xs) ≡ all_bytes xs = drop_at (bytes_of x) (all_bytes xs) (size_of x) (size-bytes x) in
    let less : length (all_bytes xs) ≤ f = omega (arith, k, length-append (bytes_of x) (all_bytes xs), size-bytes x, step_some x) in
    steps_more f s.0 (s.1.0 ++ all_bytes xs) (all_bytes (x ∷ xs)) (record { step = read_as x; size = size_of x }) whole (reads_back x (all_bytes xs) h.0)
    ∙ ap (λ (l : List ℕ). option_map (λ (ss : List Instruction). read_as x ∷ ss) (steps_up f l)) dropped
    ∙ ap (λ (o : Option (List Instruction)). option_map (λ (ss : List Instruction). read_as x ∷ ss) o) (steps_up_back xs f h.1 less)

-- the instructions of bytes
pub steps_back : (steps : List Instruction) → AllFit steps → steps_of (all_bytes steps) ≡ Some (map read_as steps)
steps_back steps h = steps_up_back steps (length (all_bytes steps)) h (omega arith)

-- an instruction has bytes
some_size : (y x : Found) → Some y ≡ Some x → 1 ≤ y.size → 1 ≤ x.size
some_size y x e h = let is : y ≡ x = cc in subst (λ (z : Found). 1 ≤ z.size) is h

one_size : (s : Instruction) (x : Found) → in_one s ≡ Some x → 1 ≤ x.size
one_size s x e = some_size (record { step = s; size = 1 }) x e (omega arith)

two_size : (f : ℕ → Instruction) (bs : List ℕ) (x : Found) → in_two f bs ≡ Some x → 1 ≤ x.size
two_size f [] x e = absurd cc
two_size f (b ∷ bs) x e = some_size (record { step = f b; size = 2 }) x e (omega arith)

three_size : (above : Bool) (bs : List ℕ) (x : Found) → doubly above bs ≡ Some x → 1 ≤ x.size
three_size above [] x e = absurd cc
three_size above (b ∷ []) x e = absurd cc
three_size above (b ∷ c ∷ bs) x e = some_size (record { step = sending above (long_count b c) c; size = 3 }) x e (omega arith)

returned_size : (o : Option Instruction) (x : Found) → option_map (λ (s : Instruction). record { step = s; size = 1 }) o ≡ Some x → 1 ≤ x.size
returned_size None x e = absurd cc
returned_size (Some s) x e = one_size s x e

by_code : (c : Bytecode) (bs : List ℕ) (x : Found) → instruction_by c bs ≡ Some x → 1 ≤ x.size
by_code (code.Push o) bs x e = one_size _ x e
by_code (code.StoreAndPop o) bs x e = one_size _ x e
by_code code.PushReceiver bs x e = one_size _ x e
by_code (code.PushConstant k) bs x e = one_size _ x e
by_code code.ReturnReceiver bs x e = one_size _ x e
by_code (code.ReturnConstant k) bs x e = returned_size (returned_constant k) x e
by_code code.ReturnTopToSender bs x e = one_size _ x e
by_code code.ReturnTopToCaller bs x e = one_size _ x e
by_code code.Unused bs x e = absurd cc
by_code code.ExtendedPush bs x e = two_size _ bs x e
by_code code.ExtendedStore bs x e = two_size _ bs x e
by_code code.ExtendedStoreAndPop bs x e = two_size _ bs x e
by_code code.ExtendedSend bs x e = two_size _ bs x e
by_code code.DoubleExtendedSend bs x e = three_size false bs x e
by_code code.ExtendedSuperSend bs x e = two_size _ bs x e
by_code code.DoubleExtendedSuperSend bs x e = three_size true bs x e
by_code code.PopStack bs x e = one_size _ x e
by_code code.DuplicateTop bs x e = one_size _ x e
by_code code.PushActiveContext bs x e = one_size _ x e
by_code (code.ShortUnconditionalJump i) bs x e = one_size _ x e
by_code (code.ShortJumpOnFalse i) bs x e = one_size _ x e
by_code (code.LongUnconditionalJump i) bs x e = two_size _ bs x e
by_code (code.LongJumpOnTrue i) bs x e = two_size _ bs x e
by_code (code.LongJumpOnFalse i) bs x e = two_size _ bs x e
by_code (code.ArithmeticSend i) bs x e = one_size _ x e
by_code (code.SpecialSend i) bs x e = one_size _ x e
by_code (code.PrimitiveSend i) bs x e = one_size _ x e
by_code (code.LiteralSend s n) bs x e = one_size _ x e

pub found_some : (bs : List ℕ) (x : Found) → instruction bs ≡ Some x → 1 ≤ x.size
found_some [] x e = absurd cc
found_some (b ∷ bs) x e = by_code (decoded b) bs x e
