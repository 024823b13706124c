-- Places in 8 bits: those of a method without faults, and all that bytes say.
use Rattle.std.proofs.Common.{◌≡◌, ℕ, ◌+◌, ◌-◌, ◌*◌, ◌<◌, ◌≤◌, ◌%◌, ◌==◌, Bool, true, false, List, [], ◌∷◌, length, Option, Some, None, refl, sym, subst, arith}
use Rattle.std.proofs.lemmas.Bool.Decides.{nat_tests}
use Rattle.std.proofs.lemmas.Option.{slice_get_within}
use Rattle.std.specs.Prelude.{if◌then◌else◌, nat_lt, bytes_eq, option_map}
use Rattle.st_scan.specs.declared.tree.Name.{Name}
use Rattle.st_model.specs.declared.bytecode.Operand.{Operand}
use Rattle.st_model.specs.declared.bytecode.Operand.TheVariants.{ReceiverVariable, TemporaryVariable, LiteralConstant, LiteralVariable}
use Rattle.st_model.specs.declared.bytecode.Constant.{Constant}
use Rattle.st_model.specs.declared.bytecode.Constant.TheVariants as constant
use Rattle.st_model.specs.declared.bytecode.Bytecode.{Bytecode}
use Rattle.st_model.specs.declared.bytecode.Bytecode.TheVariants as code
use Rattle.st_model.specs.Decoded.{decoded, operand_of, IsNumberedOperand}
use Rattle.st_emit.specs.declared.names.Around.{Around}
use Rattle.st_emit.specs.declared.instruction.Instruction.{Instruction}
use Rattle.st_emit.specs.declared.instruction.Instruction.TheVariants.{Jump, JumpBack, JumpPast}
use Rattle.st_emit.specs.Names.{NamesView, Scope, Declared, Variable, temporary, field, shared, declared_as, own_variable, variable_named, or_else, if_named, field_from, field_named, shared_named}
use Rattle.st_emit.specs.Literals.{LiteralView, named, named_literal}
use Rattle.st_emit.specs.Steps.{is_short}
use Rattle.st_emit.specs.Resolving.{place_named, by_selector, by_literal, special_code}
use Rattle.st_emit.specs.inside.NameViews.{names_view, scope_view}
use Rattle.st_emit.specs.inside.Emits.{place_at}
use Rattle.st_resolved.specs.declared.reading.Found.{Found}
use Rattle.st_resolved.specs.Instructions.{place_of, place_in, pushed_constant, returned_constant, sending, doubly, long_on, long_jump_by, instruction, instruction_by}
use Rattle.st_resolved.specs.inside.Seen.{AllBelow, numbers}
use Rattle.st_resolved.proofs.Grows.{Grows, extends_same, grows_place, grows_by_literal, grows_code}
use Rattle.st_resolved.proofs.Places.{named_found}
use Rattle.st_meaning.specs.inside.Values.{IsShort}
use Rattle.st_meaning.specs.inside.Courses.{NamesShort}
use Rattle.st_meaning.specs.inside.Sketches.{IsFew}

-- NAMES

-- a literal that is named stands among the literals then
pub literal_short : (l : LiteralView) (ls : List LiteralView) → length (named_literal l ls).literals ≤ 256 → (named_literal l ls).part < 256
literal_short l ls few =
    let there = slice_get_within (named_literal l ls).literals (named_literal l ls).part l (named_found l ls (named_literal l ls).literals (extends_same (named_literal l ls).literals)) in
    omega (arith, there, few)

-- a variable whose number has 8 bits
abbrev IsLow : Option Variable → Type 0
IsLow None = Unit {0}
IsLow (Some (temporary n assignable)) = n < 256
IsLow (Some (field n)) = n < 256
IsLow (Some (shared association)) = Unit {0}

abbrev IsLowOwn : Option Declared → Type 0
IsLowOwn None = Unit {0}
IsLowOwn (Some d) = d.number < 256

declared_low : (scope : Scope) (text : List ℕ) → AllBelow 256 (numbers scope) → IsLowOwn (declared_as scope text)
declared_low [] text h = tt
declared_low (d ∷ ds) text h = by_test (bytes_eq d.text text) (declared_low ds text h.1)
  where
    by_test : (b : Bool) → IsLowOwn (declared_as ds text) → IsLowOwn (if b then Some d else declared_as ds text)
    by_test true k = h.0
    by_test false k = k

own_low : (o : Option Declared) (v : Option Variable) → IsLowOwn o → IsLow v → IsLow (or_else (own_variable o) v)
own_low None v h k = k
own_low (Some d) v h k = h

field_low : (o : Option ℕ) (v : Option Variable) → IsLow v → IsLow (or_else (option_map field (if_named o)) v)
field_low None v h = h
field_low (Some n) v h = by_test (nat_lt n 64) refl
  where
    by_test : (b : Bool) → nat_lt n 64 ≡ b → IsLow (or_else (option_map field (if b then Some n else None)) v)
    by_test true e = let low : n < 64 = grind (arith, nat_tests, e) in omega (arith, low)
    by_test false e = h

shared_low : (o : Option ℕ) → IsLow (option_map shared o)
shared_low None = tt
shared_low (Some association) = tt

variable_low : (names : NamesView) (scope : Scope) (text : List ℕ) → AllBelow 256 (numbers scope) → IsLow (variable_named names scope text)
variable_low names scope text h =
    own_low (declared_as scope text) (or_else (option_map field (field_named names text)) (option_map shared (shared_named names text))) (declared_low scope text h)
    (field_low (field_from 0 names.fields text) (option_map shared (shared_named names text)) (shared_low (shared_named names text)))

place_short : (v : Option Variable) (ls : List LiteralView) → IsLow v → length (place_named v ls).literals ≤ 256 → IsShort (place_named v ls).part
place_short None ls h few = omega arith
place_short (Some (temporary n assignable)) ls h few = h
place_short (Some (field n)) ls h few = h
place_short (Some (shared association)) ls h few = literal_short (named association) ls few

-- what a name means has a place of 8 bits, where variables and literals have such numbers
pub name_short : (a : Around) (n : Name) (ls : List LiteralView) → IsFew a → length (place_at a n ls).literals ≤ 256 → IsShort (place_at a n ls).part
name_short a n ls h few =
    place_short (variable_named (names_view a.names.now) (scope_view a.scope.now) n.text.items) ls (variable_low (names_view a.names.now) (scope_view a.scope.now) n.text.items h) few

pub name_grows : (a : Around) (n : Name) → Grows (place_at a n)
name_grows a n = grows_place (variable_named (names_view a.names.now) (scope_view a.scope.now) n.text.items)

pub selector_grows : (above : Bool) (text : List ℕ) → Grows (by_selector above text)
selector_grows true text = grows_by_literal text
selector_grows false text = grows_code (special_code text) (by_literal text) (grows_by_literal text)

-- BYTES

abbrev IsLowCode : Bytecode → Type 0
IsLowCode (code.Push o) = IsNumberedOperand o
IsLowCode (code.StoreAndPop o) = IsNumberedOperand o
IsLowCode _ = Unit {0}

either : (b : Bool) (x y : Bytecode) → (b ≡ true → IsLowCode x) → (b ≡ false → IsLowCode y) → IsLowCode (if b then x else y)
either true x y h k = h refl
either false x y h k = k refl

low_under : (b n : ℕ) → nat_lt b n ≡ true → b < n
low_under b n e = grind (arith, nat_tests, e)

-- all numbers of variables and literals in one byte are low
decoded_low : (b : ℕ) → IsLowCode (decoded b)
decoded_low b =
    either (nat_lt b 16) _ _ (λ e. omega (arith, low_under b 16 e)) (λ e.
    either (nat_lt b 32) _ _ (λ e. omega (arith, low_under b 32 e)) (λ e.
    either (nat_lt b 64) _ _ (λ e. omega (arith, low_under b 64 e)) (λ e.
    either (nat_lt b 96) _ _ (λ e. omega (arith, low_under b 96 e)) (λ e.
    either (nat_lt b 104) _ _ (λ e. omega (arith, low_under b 104 e)) (λ e.
    either (nat_lt b 112) _ _ (λ e. omega (arith, low_under b 112 e)) (λ e.
    either (b == 112) _ _ (λ e. tt) (λ e.
    either (b == 113) _ _ (λ e. tt) (λ e.
    either (b == 114) _ _ (λ e. tt) (λ e.
    either (b == 115) _ _ (λ e. tt) (λ e.
    either (b == 116) _ _ (λ e. tt) (λ e.
    either (b == 117) _ _ (λ e. tt) (λ e.
    either (b == 118) _ _ (λ e. tt) (λ e.
    either (b == 119) _ _ (λ e. tt) (λ e.
    either (b == 120) _ _ (λ e. tt) (λ e.
    either (b == 121) _ _ (λ e. tt) (λ e.
    either (b == 122) _ _ (λ e. tt) (λ e.
    either (b == 123) _ _ (λ e. tt) (λ e.
    either (b == 124) _ _ (λ e. tt) (λ e.
    either (b == 125) _ _ (λ e. tt) (λ e.
    either (nat_lt b 128) _ _ (λ e. tt) (λ e.
    either (b == 128) _ _ (λ e. tt) (λ e.
    either (b == 129) _ _ (λ e. tt) (λ e.
    either (b == 130) _ _ (λ e. tt) (λ e.
    either (b == 131) _ _ (λ e. tt) (λ e.
    either (b == 132) _ _ (λ e. tt) (λ e.
    either (b == 133) _ _ (λ e. tt) (λ e.
    either (b == 134) _ _ (λ e. tt) (λ e.
    either (b == 135) _ _ (λ e. tt) (λ e.
    either (b == 136) _ _ (λ e. tt) (λ e.
    either (b == 137) _ _ (λ e. tt) (λ e.
    either (nat_lt b 144) _ _ (λ e. tt) (λ e.
    either (nat_lt b 152) _ _ (λ e. tt) (λ e.
    either (nat_lt b 160) _ _ (λ e. tt) (λ e.
    either (nat_lt b 168) _ _ (λ e. tt) (λ e.
    either (nat_lt b 172) _ _ (λ e. tt) (λ e.
    either (nat_lt b 176) _ _ (λ e. tt) (λ e.
    either (nat_lt b 192) _ _ (λ e. tt) (λ e.
    either (nat_lt b 198) _ _ (λ e. tt) (λ e.
    either (nat_lt b 203) _ _ (λ e. tt) (λ e.
    either (nat_lt b 208) _ _ (λ e. tt) (λ e.
    either (nat_lt b 224) _ _ (λ e. tt) (λ e.
    either (nat_lt b 240) _ _ (λ e. tt) (λ e.
    tt)))))))))))))))))))))))))))))))))))))))))))

place_low : (o : Operand) → IsNumberedOperand o → IsShort (place_of o)
place_low (ReceiverVariable n) h = omega (arith, h)
place_low (TemporaryVariable n) h = omega (arith, h)
place_low (LiteralConstant n) h = omega (arith, h)
place_low (LiteralVariable n) h = omega (arith, h)

operand_low : (b : ℕ) → IsNumberedOperand (operand_of b)
operand_low b = by_tests (nat_lt b 64) (nat_lt b 128) (nat_lt b 192)
  where
    low : b % 64 < 64
    low = omega arith

    by_tests : (x y z : Bool) → IsNumberedOperand (if x then ReceiverVariable (b % 64) else if y then TemporaryVariable (b % 64) else if z then LiteralConstant (b % 64) else LiteralVariable (b % 64))
    by_tests true y z = low
    by_tests false true z = low
    by_tests false false true = low
    by_tests false false false = low

byte_low : (b : ℕ) → IsShort (place_in b)
byte_low b = place_low (operand_of b) (operand_low b)

-- what an instruction names, if there is one, has 8 bits
abbrev FoundShort : Option Found → Type 0
FoundShort None = Unit {0}
FoundShort (Some x) = NamesShort x.step

constant_low : (k : Constant) → NamesShort (pushed_constant k)
constant_low constant.True = tt
constant_low constant.False = tt
constant_low constant.Nil = tt
constant_low constant.MinusOne = tt
constant_low constant.Zero = tt
constant_low constant.One = tt
constant_low constant.Two = tt

returned_low : (k : Constant) → FoundShort (option_map (λ (s : Instruction). record { step = s; size = 1 }) (returned_constant k))
returned_low constant.True = tt
returned_low constant.False = tt
returned_low constant.Nil = tt
returned_low constant.MinusOne = tt
returned_low constant.Zero = tt
returned_low constant.One = tt
returned_low constant.Two = tt

sending_low : (above : Bool) (n s : ℕ) → NamesShort (sending above n s)
sending_low true n s = tt
sending_low false n s = tt

doubly_low : (above : Bool) (bs : List ℕ) → FoundShort (doubly above bs)
doubly_low above [] = tt
doubly_low above (b ∷ []) = tt
doubly_low above (b ∷ c ∷ bs) = sending_low above _ c

jump_low : (i b : ℕ) → NamesShort (long_jump_by i b)
jump_low i b = by_test (nat_lt i 4)
  where
    on_low : (d : ℕ) (t : Bool) → NamesShort (if t then JumpPast d else Jump d)
    on_low d true = tt
    on_low d false = tt

    by_test : (t : Bool) → NamesShort (if t then JumpBack ((4 - i) * 256 - b) else long_on ((i - 4) * 256 + b))
    by_test true = tt
    by_test false = on_low ((i - 4) * 256 + b) (is_short ((i - 4) * 256 + b))

instruction_low : (c : Bytecode) (bs : List ℕ) → IsLowCode c → FoundShort (instruction_by c bs)
instruction_low (code.Push o) bs h = place_low o h
instruction_low (code.StoreAndPop o) bs h = place_low o h
instruction_low code.PushReceiver bs h = tt
instruction_low (code.PushConstant k) bs h = constant_low k
instruction_low code.ReturnReceiver bs h = tt
instruction_low (code.ReturnConstant k) bs h = returned_low k
instruction_low code.ReturnTopToSender bs h = tt
instruction_low code.ReturnTopToCaller bs h = tt
instruction_low code.Unused bs h = tt
instruction_low code.ExtendedPush [] h = tt
instruction_low code.ExtendedPush (b ∷ bs) h = byte_low b
instruction_low code.ExtendedStore [] h = tt
instruction_low code.ExtendedStore (b ∷ bs) h = byte_low b
instruction_low code.ExtendedStoreAndPop [] h = tt
instruction_low code.ExtendedStoreAndPop (b ∷ bs) h = byte_low b
instruction_low code.ExtendedSend [] h = tt
instruction_low code.ExtendedSend (b ∷ bs) h = tt
instruction_low code.DoubleExtendedSend bs h = doubly_low false bs
instruction_low code.ExtendedSuperSend [] h = tt
instruction_low code.ExtendedSuperSend (b ∷ bs) h = tt
instruction_low code.DoubleExtendedSuperSend bs h = doubly_low true bs
instruction_low code.PopStack bs h = tt
instruction_low code.DuplicateTop bs h = tt
instruction_low code.PushActiveContext bs h = tt
instruction_low (code.ShortUnconditionalJump i) bs h = tt
instruction_low (code.ShortJumpOnFalse i) bs h = tt
instruction_low (code.LongUnconditionalJump i) [] h = tt
instruction_low (code.LongUnconditionalJump i) (b ∷ bs) h = jump_low i b
instruction_low (code.LongJumpOnTrue i) [] h = tt
instruction_low (code.LongJumpOnTrue i) (b ∷ bs) h = tt
instruction_low (code.LongJumpOnFalse i) [] h = tt
instruction_low (code.LongJumpOnFalse i) (b ∷ bs) h = tt
instruction_low (code.ArithmeticSend i) bs h = tt
instruction_low (code.SpecialSend i) bs h = tt
instruction_low (code.PrimitiveSend i) bs h = tt
instruction_low (code.LiteralSend s n) bs h = tt

bytes_low : (bs : List ℕ) → FoundShort (instruction bs)
bytes_low [] = tt
bytes_low (b ∷ bs) = instruction_low (decoded b) bs (decoded_low b)

-- the instruction that bytes begin with
pub found_short : (bs : List ℕ) (x : Found) → Some x ≡ instruction bs → NamesShort x.step
found_short bs x e = subst FoundShort (sym e) (bytes_low bs)
