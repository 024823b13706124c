-- A step of the machine does what a walk's code says: each row, behind its bytes.
use mathlib.Core.Path.{fun_ext}
use Rattle.std.proofs.Common.{◌≡◌, ℕ, zero, suc, ◌+◌, ◌<◌, ◌≤◌, List, [], ◌∷◌, drop, Bool, true, false, Option, Some, None, refl, sym, ap, ◌∙◌, subst, arith}
use Rattle.std.specs.Prelude.{◌-◌, ◌*◌, ◌%◌, ◌==◌, ◌&&◌, ℤ, pos, ◌+ℤ◌, ◌-ℤ◌, slice_get, nat_lt, nat_le, if◌then◌else◌}
use Rattle.std.proofs.lemmas.Int.{ints}
use Rattle.std.proofs.lemmas.Bool.Decides.{nat_tests}
use Rattle.st_model.specs.declared.bytecode.Bytecode.{Bytecode}
use Rattle.st_model.specs.declared.bytecode.Bytecode.TheVariants as code
use Rattle.st_model.specs.declared.bytecode.Operand.TheVariants.{ReceiverVariable, TemporaryVariable, LiteralConstant, LiteralVariable}
use Rattle.st_model.specs.declared.bytecode.Constant.{Constant as Pushed_constant}
use Rattle.st_model.specs.declared.bytecode.Constant.TheVariants as constant
use Rattle.st_model.specs.declared.page.PageObject.TheVariants.{TrueObject, FalseObject}
use Rattle.st_model.specs.Values.{Value}
use Rattle.st_model.specs.Objects.{Object, first_unit}
use Rattle.st_model.specs.Machine.{ObjectMemory, State, Transition, Died, Went, Step, answer, after, ◌>>=◌, ◌>>◌}
use Rattle.st_model.specs.Steps.{code_byte, byte_at, next_byte, jump}
use Rattle.st_model.specs.Decoded.{decoded, operand_of, selector_of, arguments_of}
use Rattle.st_model.specs.Outcomes.{Outcome}
use Rattle.st_model.specs.Outcomes as outcome
use Rattle.st_model.specs.Sends.{Call, special_send}
use Rattle.st_model.specs.Executing.{goes_on, executed, execute, executed_if_any, execute_if_any}
use Rattle.st_model.specs.Returns.{jump_on}
use Rattle.st_model.specs.Blocks.{primitive_block_copy, primitive_value}
use Rattle.st_model.specs.Arithmetic.{equivalence, receiver_class}
use Rattle.st_model.specs.Bytecodes.{bytecode, step, push_receiver, push_constant, return_receiver, return_top_to_sender, return_top_to_caller, pop_stack, duplicate_top, push_active_context, arithmetic_send, push_operand, store_and_pop, extended_push, extended_store, extended_store_and_pop, short_unconditional_jump, long_offset, long_unconditional_jump, send_literal, send_literal_to_super, extended_send, double_extended_send, extended_super_send, double_extended_super_send, short_jump_on_false, long_jump_on_true, long_jump_on_false, primitive_send, or_send, return_constant}
use Rattle.st_emit.specs.declared.instruction.Constant.TheVariants.{Receiver, True, False, Nil, Context}
use Rattle.st_emit.specs.declared.instruction.InstructionOperand.TheVariants.{Field, Shared}
use Rattle.st_emit.specs.declared.instruction.Instruction.{Instruction as Code}
use Rattle.st_emit.specs.declared.instruction.Instruction.TheVariants.{Push, PushConstant, Store, PopStore, Pop, Duplicate, Send, SendSuper, SendSpecial, ReturnConstant, ReturnTop, ReturnBlock, Jump, JumpBack, JumpIf, JumpPast}
use Rattle.st_emit.specs.Steps.{is_short}
use Rattle.st_emit.specs.Resolving.{first_special}
use Rattle.st_resolved.specs.declared.reading.Found.{Found}
use Rattle.st_resolved.specs.Instructions.{place_of, place_in, pushed_constant, in_one, in_two, in_three, sending, long_count, long_on, long_jump_by, instruction_by, instruction}
use Rattle.st_meaning.specs.inside.Codes.{walk_code}
use Rattle.st_meaning.specs.inside.Machines.{KeepsOthers, values_in, stack_in, StoresApart, as_sent, IsWalked, NamesSelectors, SendsNamed, TestsTwo, IsCode, behind, Shows, StepWalks}
use Rattle.st_meaning.proofs.Inverting.{split, split_next, then_goes, read_then, read_next, answered, method_reads, method_is, ip_reads, ip_is, set_ip_is, object_reads, object_is, check_reads, or_die_reads, some_is, Reads, then_reads, next_reads}
use Rattle.st_meaning.proofs.RowsWalk.{RowShows, push_row, receiver_row, context_row, constant_row, pop_store_row, store_top, store_row, pop_row, duplicate_row, ahead_row, back_row}
use Rattle.st_meaning.proofs.RowsSend.{test_row, send_row, super_row, special_row, arithmetic_row, equivalence_row, class_row, value_row, value_with_row, copy_row, return_receiver_row, return_constant_row, return_top_row, return_block_row}

-- RANGES

record Ranged (c : Bytecode) : Type 0 where
  arithmetic : (k : ℕ) → c ≡ code.ArithmeticSend k → k < 16
  primitive : (k : ℕ) → c ≡ code.PrimitiveSend k → (22 ≤ k) × (k ≤ 26)
  literal : (k n : ℕ) → c ≡ code.LiteralSend k n → n < 256

ranged_if : (p : Bool) (x y : Bytecode) → (p ≡ true → Ranged x) → (p ≡ false → Ranged y) → Ranged (if p then x else y)
ranged_if true x y f g = f refl
ranged_if false x y f g = g refl

arithmetic_range : (b : ℕ) → nat_lt b 192 ≡ true → Ranged (code.ArithmeticSend (b - 176))
arithmetic_range b e =
    let l : b < 192 = grind (arith, nat_tests, e) in
    record { arithmetic = λ k q. (let i : b - 176 ≡ k = cc in omega (arith, l, i)); primitive = λ k q. cc; literal = λ k n q. cc }

primitive_range : (b : ℕ) → nat_lt b 198 ≡ false → nat_lt b 203 ≡ true → Ranged (code.PrimitiveSend (b - 176))
primitive_range b e f =
    let l : 198 ≤ b = grind (arith, nat_tests, e) in
    let h : b < 203 = grind (arith, nat_tests, f) in
    record { arithmetic = λ k q. cc; primitive = λ k q. (let i : b - 176 ≡ k = cc in (omega (arith, l, i), omega (arith, h, i))); literal = λ k n q. cc }

literal_range : (k n : ℕ) → n < 256 → Ranged (code.LiteralSend k n)
literal_range k n l = record { arithmetic = λ j q. cc; primitive = λ j q. cc; literal = λ j i q. (let e : n ≡ i = cc in subst (λ x. x < 256) e l) }

ranged : (b : ℕ) → Ranged (decoded b)
ranged b =
    ranged_if (nat_lt b 16) (code.Push (ReceiverVariable b)) _ (λ d. (record { arithmetic = λ k q. cc; primitive = λ k q. cc; literal = λ k n q. cc })) (λ d.
    ranged_if (nat_lt b 32) (code.Push (TemporaryVariable (b - 16))) _ (λ d. (record { arithmetic = λ k q. cc; primitive = λ k q. cc; literal = λ k n q. cc })) (λ d.
    ranged_if (nat_lt b 64) (code.Push (LiteralConstant (b - 32))) _ (λ d. (record { arithmetic = λ k q. cc; primitive = λ k q. cc; literal = λ k n q. cc })) (λ d.
    ranged_if (nat_lt b 96) (code.Push (LiteralVariable (b - 64))) _ (λ d. (record { arithmetic = λ k q. cc; primitive = λ k q. cc; literal = λ k n q. cc })) (λ d.
    ranged_if (nat_lt b 104) (code.StoreAndPop (ReceiverVariable (b - 96))) _ (λ d. (record { arithmetic = λ k q. cc; primitive = λ k q. cc; literal = λ k n q. cc })) (λ d.
    ranged_if (nat_lt b 112) (code.StoreAndPop (TemporaryVariable (b - 104))) _ (λ d. (record { arithmetic = λ k q. cc; primitive = λ k q. cc; literal = λ k n q. cc })) (λ d.
    ranged_if (b == 112) (code.PushReceiver) _ (λ d. (record { arithmetic = λ k q. cc; primitive = λ k q. cc; literal = λ k n q. cc })) (λ d.
    ranged_if (b == 113) (code.PushConstant constant.True) _ (λ d. (record { arithmetic = λ k q. cc; primitive = λ k q. cc; literal = λ k n q. cc })) (λ d.
    ranged_if (b == 114) (code.PushConstant constant.False) _ (λ d. (record { arithmetic = λ k q. cc; primitive = λ k q. cc; literal = λ k n q. cc })) (λ d.
    ranged_if (b == 115) (code.PushConstant constant.Nil) _ (λ d. (record { arithmetic = λ k q. cc; primitive = λ k q. cc; literal = λ k n q. cc })) (λ d.
    ranged_if (b == 116) (code.PushConstant constant.MinusOne) _ (λ d. (record { arithmetic = λ k q. cc; primitive = λ k q. cc; literal = λ k n q. cc })) (λ d.
    ranged_if (b == 117) (code.PushConstant constant.Zero) _ (λ d. (record { arithmetic = λ k q. cc; primitive = λ k q. cc; literal = λ k n q. cc })) (λ d.
    ranged_if (b == 118) (code.PushConstant constant.One) _ (λ d. (record { arithmetic = λ k q. cc; primitive = λ k q. cc; literal = λ k n q. cc })) (λ d.
    ranged_if (b == 119) (code.PushConstant constant.Two) _ (λ d. (record { arithmetic = λ k q. cc; primitive = λ k q. cc; literal = λ k n q. cc })) (λ d.
    ranged_if (b == 120) (code.ReturnReceiver) _ (λ d. (record { arithmetic = λ k q. cc; primitive = λ k q. cc; literal = λ k n q. cc })) (λ d.
    ranged_if (b == 121) (code.ReturnConstant constant.True) _ (λ d. (record { arithmetic = λ k q. cc; primitive = λ k q. cc; literal = λ k n q. cc })) (λ d.
    ranged_if (b == 122) (code.ReturnConstant constant.False) _ (λ d. (record { arithmetic = λ k q. cc; primitive = λ k q. cc; literal = λ k n q. cc })) (λ d.
    ranged_if (b == 123) (code.ReturnConstant constant.Nil) _ (λ d. (record { arithmetic = λ k q. cc; primitive = λ k q. cc; literal = λ k n q. cc })) (λ d.
    ranged_if (b == 124) (code.ReturnTopToSender) _ (λ d. (record { arithmetic = λ k q. cc; primitive = λ k q. cc; literal = λ k n q. cc })) (λ d.
    ranged_if (b == 125) (code.ReturnTopToCaller) _ (λ d. (record { arithmetic = λ k q. cc; primitive = λ k q. cc; literal = λ k n q. cc })) (λ d.
    ranged_if (nat_lt b 128) (code.Unused) _ (λ d. (record { arithmetic = λ k q. cc; primitive = λ k q. cc; literal = λ k n q. cc })) (λ d.
    ranged_if (b == 128) (code.ExtendedPush) _ (λ d. (record { arithmetic = λ k q. cc; primitive = λ k q. cc; literal = λ k n q. cc })) (λ d.
    ranged_if (b == 129) (code.ExtendedStore) _ (λ d. (record { arithmetic = λ k q. cc; primitive = λ k q. cc; literal = λ k n q. cc })) (λ d.
    ranged_if (b == 130) (code.ExtendedStoreAndPop) _ (λ d. (record { arithmetic = λ k q. cc; primitive = λ k q. cc; literal = λ k n q. cc })) (λ d.
    ranged_if (b == 131) (code.ExtendedSend) _ (λ d. (record { arithmetic = λ k q. cc; primitive = λ k q. cc; literal = λ k n q. cc })) (λ d.
    ranged_if (b == 132) (code.DoubleExtendedSend) _ (λ d. (record { arithmetic = λ k q. cc; primitive = λ k q. cc; literal = λ k n q. cc })) (λ d.
    ranged_if (b == 133) (code.ExtendedSuperSend) _ (λ d. (record { arithmetic = λ k q. cc; primitive = λ k q. cc; literal = λ k n q. cc })) (λ d.
    ranged_if (b == 134) (code.DoubleExtendedSuperSend) _ (λ d. (record { arithmetic = λ k q. cc; primitive = λ k q. cc; literal = λ k n q. cc })) (λ d.
    ranged_if (b == 135) (code.PopStack) _ (λ d. (record { arithmetic = λ k q. cc; primitive = λ k q. cc; literal = λ k n q. cc })) (λ d.
    ranged_if (b == 136) (code.DuplicateTop) _ (λ d. (record { arithmetic = λ k q. cc; primitive = λ k q. cc; literal = λ k n q. cc })) (λ d.
    ranged_if (b == 137) (code.PushActiveContext) _ (λ d. (record { arithmetic = λ k q. cc; primitive = λ k q. cc; literal = λ k n q. cc })) (λ d.
    ranged_if (nat_lt b 144) (code.Unused) _ (λ d. (record { arithmetic = λ k q. cc; primitive = λ k q. cc; literal = λ k n q. cc })) (λ d.
    ranged_if (nat_lt b 152) (code.ShortUnconditionalJump (b - 144)) _ (λ d. (record { arithmetic = λ k q. cc; primitive = λ k q. cc; literal = λ k n q. cc })) (λ d.
    ranged_if (nat_lt b 160) (code.ShortJumpOnFalse (b - 152)) _ (λ d. (record { arithmetic = λ k q. cc; primitive = λ k q. cc; literal = λ k n q. cc })) (λ d.
    ranged_if (nat_lt b 168) (code.LongUnconditionalJump (b - 160)) _ (λ d. (record { arithmetic = λ k q. cc; primitive = λ k q. cc; literal = λ k n q. cc })) (λ d.
    ranged_if (nat_lt b 172) (code.LongJumpOnTrue (b - 168)) _ (λ d. (record { arithmetic = λ k q. cc; primitive = λ k q. cc; literal = λ k n q. cc })) (λ d.
    ranged_if (nat_lt b 176) (code.LongJumpOnFalse (b - 172)) _ (λ d. (record { arithmetic = λ k q. cc; primitive = λ k q. cc; literal = λ k n q. cc })) (λ d.
    ranged_if (nat_lt b 192) (code.ArithmeticSend (b - 176)) _ (λ e. arithmetic_range b e) (λ e.
    ranged_if (nat_lt b 198) (code.SpecialSend (b - 176)) _ (λ f. (record { arithmetic = λ k q. cc; primitive = λ k q. cc; literal = λ k n q. cc })) (λ f.
    ranged_if (nat_lt b 203) (code.PrimitiveSend (b - 176)) _ (λ g. primitive_range b f g) (λ g.
    ranged_if (nat_lt b 208) (code.SpecialSend (b - 176)) _ (λ d. (record { arithmetic = λ k q. cc; primitive = λ k q. cc; literal = λ k n q. cc })) (λ d.
    ranged_if (nat_lt b 224) (code.LiteralSend (b - 208) 0) _ (λ d. literal_range (b - 208) 0 (omega arith)) (λ d.
    ranged_if (nat_lt b 240) (code.LiteralSend (b - 224) 1) _ (λ d. literal_range (b - 224) 1 (omega arith)) (λ d.
    literal_range (b - 240) 2 (omega arith))))))))))))))))))))))))))))))))))))))))))))

below_of : (a c : ℕ) → nat_lt a c ≡ true → a < c
below_of a c e = grind (arith, nat_tests, e)

from_of : (a c : ℕ) → nat_lt a c ≡ false → c ≤ a
from_of a c e = grind (arith, nat_tests, e)

few_of : (n : ℕ) → n < 256 → n % 256 ≡ n
few_of n l = omega (arith, l)

more_of : (n : ℕ) → n < 256 → (n + 256) % 256 ≡ n
more_of n l = omega (arith, l)

-- STATES BEHIND SOME BYTES

drop_here : {A : Type 0} (xs : List A) (n : ℕ) (x : A) → slice_get xs n ≡ Some x → drop n xs ≡ x ∷ drop (n + 1) xs
drop_here [] n x e = cc
drop_here (y ∷ ys) zero x e = let q : y ≡ x = cc in ap (λ z. z ∷ ys) q
drop_here (y ∷ ys) (suc n) x e =
    let j : suc n + 1 ≡ suc (n + 1) = omega arith in
    subst (λ i. drop n ys ≡ x ∷ drop i (y ∷ ys)) (sym j) (drop_here ys n x e)

module _ {H A B C : Type 0} where
  assoc_by : (o : Transition (State H) A) (f : A → Step H B) (g : B → Step H C)
      → after (after o (λ a u. (f a).run u)) (λ x u. (g x).run u) ≡ after o (λ a u. after ((f a).run u) (λ x w. (g x).run w))
  unfolding after
  assoc_by (Died c) f g = refl
  assoc_by (Went a u) f g = refl

  assoc : (n : Step H A) (f : A → Step H B) (g : B → Step H C) (s : State H) → ((n >>= f) >>= g).run s ≡ (n >>= (λ a. f a >>= g)).run s
  unfolding ◌>>=◌
  assoc n f g s = assoc_by (n.run s) f g

  assoc_step : (n : Step H A) (f : A → Step H B) (g : B → Step H C) → (n >>= f) >>= g ≡ n >>= (λ a. f a >>= g)
  assoc_step n f g = λ j. record { run = λ s. assoc n f g s j }

module _ {H : Type 0} (m : ObjectMemory H) where
  byte_reads : (v : Value) (i : ℤ) → Reads (byte_at m v i)
  unfolding byte_at
  byte_reads v i = then_reads _ _ (object_reads m v) (λ o. next_reads _ _ (check_reads _ _) (or_die_reads _ _))

  record NextByte (s t : State H) (bytes : List ℕ) (at b : ℕ) : Type 0 where
    got : slice_get bytes at ≡ Some b
    is : t ≡ behind m s 1

  within : (p q : Bool) (x : Option ℕ) (b : ℕ) → (if p then None else if q then None else x) ≡ Some b → x ≡ Some b
  within true q x b e = cc
  within false true x b e = cc
  within false false x b e = e

  code_got : (o : Object) (at b : ℕ) → code_byte o (pos (first_unit o + at)) ≡ Some b → slice_get o.units at ≡ Some b
  code_got o at b e =
      let n : (first_unit o + at) - first_unit o ≡ at = omega arith in
      subst (λ i. slice_get o.units i ≡ Some b) n (within (nat_lt (first_unit o + at) (first_unit o)) (nat_lt 16381 (first_unit o + at)) (slice_get o.units ((first_unit o + at) - first_unit o)) b e)

  same_object : (a b : Object) → Some a ≡ Some b → a ≡ b
  same_object a b e = cc

  byte_got : (s u : State H) (bytes : List ℕ) (at b : ℕ) (c : IsCode m s bytes at) → (byte_at m s.registers.method s.registers.ip).run s ≡ Went b u → slice_get bytes at ≡ Some b
  unfolding byte_at
  byte_got s u bytes at b c q =
      let p = read_then _ _ s u b (object_reads m s.registers.method) q in
      let d = read_next _ _ s u b (check_reads _ _) p.rest in
      let o : p.mid ≡ c.object = same_object p.mid c.object (sym (object_is m s.registers.method s s p.mid p.first) ∙ c.method) in
      let e : code_byte p.mid s.registers.ip ≡ Some b = some_is _ _ s u b d.rest in
      let f : code_byte c.object (pos (first_unit c.object + at)) ≡ Some b = subst (λ z. code_byte c.object z ≡ Some b) c.place (subst (λ y. code_byte y s.registers.ip ≡ Some b) o e) in
      subst (λ us. slice_get us at ≡ Some b) c.units (code_got c.object at b f)

  next_is : (s t : State H) (bytes : List ℕ) (at b : ℕ) → IsCode m s bytes at → (next_byte m).run s ≡ Went b t → NextByte s t bytes at b
  unfolding next_byte
  next_is s t bytes at b c q =
      let p = read_then _ _ s t b method_reads q in
      let i = read_then _ _ s t b ip_reads p.rest in
      let e = read_then _ _ s t b (byte_reads p.mid i.mid) i.rest in
      let w = split_next _ _ s t b e.rest in
      let a = answered e.mid b w.state t w.rest in
      let v : p.mid ≡ s.registers.method = method_is s s p.mid p.first in
      let z : i.mid ≡ s.registers.ip = ip_is s s i.mid i.first in
      let g : (byte_at m s.registers.method s.registers.ip).run s ≡ Went e.mid s = subst (λ y. (byte_at m s.registers.method y).run s ≡ Went e.mid s) z (subst (λ y. (byte_at m y i.mid).run s ≡ Went e.mid s) v e.first) in
      record {
        got = byte_got s s bytes at e.mid c g ∙ ap Some a.0;
        is = sym a.1 ∙ set_ip_is _ s w.state w.mid w.first ∙ ap (λ y. record s { registers = record s.registers { ip = y +ℤ pos 1 } }) z;
      }

  code_behind : (s : State H) (bytes : List ℕ) (at : ℕ) → IsCode m s bytes at → IsCode m (behind m s 1) bytes (at + 1)
  code_behind s bytes at c =
      let n : first_unit c.object + at + 1 ≡ first_unit c.object + (at + 1) = omega arith in
      record { object = c.object; method = c.method; units = c.units; place = ap (λ z. z +ℤ pos 1) c.place ∙ ap pos n; all_bytes = c.all_bytes }

  pub one_more : (s : State H) (bytes : List ℕ) (at j : ℕ) → IsCode m s bytes at → behind m (behind m s j) 1 ≡ behind m s (j + 1)
  one_more s bytes at j c =
      let n : first_unit c.object + at + j + 1 ≡ first_unit c.object + at + (j + 1) = omega arith in
      let z : (s.registers.ip +ℤ pos j) +ℤ pos 1 ≡ s.registers.ip +ℤ pos (j + 1) = ap (λ y. (y +ℤ pos j) +ℤ pos 1) c.place ∙ ap pos n ∙ sym (ap (λ y. y +ℤ pos (j + 1)) c.place) in
      ap (λ y. record s { registers = record s.registers { ip = y } }) z

-- A ROW, SEEN FROM BEFORE ITS BYTES

module _ {H : Type 0} (m : ObjectMemory H) (laws : KeepsOthers m) (k b : ℕ) where
  apart_behind : (s : State H) (n : ℕ) (c : Code) → StoresApart m s c → StoresApart m (behind m s n) c
  apart_behind s n (Store (Shared i)) a = a
  apart_behind s n (PopStore (Shared i)) a = a
  apart_behind s n c a = tt

  names_behind : (s : State H) (n : ℕ) → NamesSelectors m s → NamesSelectors m (behind m s n)
  names_behind s n names i text e =
      let a = names i text e in
      record { selector = a.selector; count = a.count; stands = a.stands; spelled = a.spelled; counted = a.counted; arguments = a.arguments }

  named_behind : (s : State H) (n : ℕ) (c : Code) → SendsNamed m s c → SendsNamed m (behind m s n) c
  named_behind s n (SendSpecial c) a = names_behind s n a
  named_behind s n c a = tt

  two_behind : (s : State H) (n : ℕ) (c : Code) → TestsTwo m s c → TestsTwo m (behind m s n) c
  two_behind s n (JumpIf on d) a = a
  two_behind s n c a = tt

  walked_behind : (s : State H) (n : ℕ) (c : Code) → IsWalked m s k b c → IsWalked m (behind m s n) k b c
  walked_behind s n c w = record { no_home = w.no_home; no_active = w.no_active; apart = apart_behind s n c w.apart; names = w.names; selectors = named_behind s n c w.selectors; booleans = two_behind s n c w.booleans; home = w.home; block = w.block; stack = w.stack }

  values_behind : (s : State H) (n : ℕ) (c : Code) (st : List (Option Value)) → walk_code (values_in m (behind m s n)) c st ≡ walk_code (values_in m s) c st
  values_behind s n (Push (Field i)) st = refl
  values_behind s n (PushConstant Receiver) st = refl
  values_behind s n (ReturnConstant Receiver) st = refl
  values_behind s n c st = refl

  abbrev sent_by : Bool → ℕ → ℕ → Step H Call
  sent_by true i a = send_literal_to_super m i a
  sent_by false i a = send_literal m i a

  -- the rows that try something first
  primitive_by : (j : ℕ) (u : State H) → 22 ≤ j → j ≤ 26 → (p q r v : Bool) → (j == 22) ≡ p → (j == 23) ≡ q → (j == 24) ≡ r → (j == 25) ≡ v
      → RowShows m laws k b (if p then goes_on (equivalence m) else if q then goes_on (receiver_class m) else if r then or_send m j (primitive_block_copy m) else or_send m j (primitive_value m (j - 25))) (SendSpecial (first_special + j)) u
  primitive_by j u l h true q r v e f g i =
      let n : 22 ≡ j = grind (arith, nat_tests, e) in
      subst (λ x. RowShows m laws k b (goes_on (equivalence m)) (SendSpecial (first_special + x)) u) n (equivalence_row m laws k b u)
  primitive_by j u l h false true r v e f g i =
      let n : 23 ≡ j = grind (arith, nat_tests, f) in
      subst (λ x. RowShows m laws k b (goes_on (receiver_class m)) (SendSpecial (first_special + x)) u) n (class_row m laws k b u)
  primitive_by j u l h false false true v e f g i =
      let n : 24 ≡ j = grind (arith, nat_tests, g) in
      subst (λ x. RowShows m laws k b (or_send m x (primitive_block_copy m)) (SendSpecial (first_special + x)) u) n (copy_row m laws k b (or_send m 24 (primitive_block_copy m)) u)
  primitive_by j u l h false false false true e f g i =
      let n : 25 ≡ j = grind (arith, nat_tests, i) in
      subst (λ x. RowShows m laws k b (or_send m x (primitive_value m (x - 25))) (SendSpecial (first_special + x)) u) n (value_row m laws k b u)
  primitive_by j u l h false false false false e f g i =
      let n : 26 ≡ j = grind (arith, nat_tests, l, h, e, f, g, i) in
      subst (λ x. RowShows m laws k b (or_send m x (primitive_value m (x - 25))) (SendSpecial (first_special + x)) u) n (value_with_row m laws k b u)

  primitive_row : (j : ℕ) (u : State H) → (22 ≤ j) × (j ≤ 26) → RowShows m laws k b (primitive_send m j) (SendSpecial (first_special + j)) u
  unfolding primitive_send
  primitive_row j u l = primitive_by j u l.0 l.1 (j == 22) (j == 23) (j == 24) (j == 25) refl refl refl refl

  module _ (s t : State H) (o : Transition (State H) Outcome) (z : Outcome) (bytes : List ℕ) (at : ℕ) (c : IsCode m s bytes at) (q : o ≡ Went z t) where
    abbrev Seen : Found → Type 0
    Seen x = Shows m k b (as_sent x.step) (walk_code (values_in m s) (as_sent x.step) (stack_in m b s)) (behind m s x.size) t o

    abbrev Walks : Found → Type 0
    Walks x = IsWalked m s k b (as_sent x.step)

    from_row : (x : Code) (n : Step H Outcome) (j : ℕ) → RowShows m laws k b n (as_sent x) (behind m s j) → Walks (record { step = x; size = j }) → o ≡ n.run (behind m s j) → Seen (record { step = x; size = j })
    from_row x n j row w e =
        subst (λ y. Shows m k b (as_sent x) y (behind m s j) t o) (values_behind s j (as_sent x) (stack_in m b s)) (row t o z (walked_behind s j (as_sent x) w) e q)

    one : (y : Code) (n : Step H Outcome) → RowShows m laws k b n (as_sent y) (behind m s 1) → (x : Found) → in_one y ≡ Some x → Walks x → o ≡ n.run (behind m s 1) → Seen x
    one y n row x e w i =
        let f : record { step = y; size = 1 } ≡ x = cc in
        subst Seen f (from_row y n 1 row (subst Walks (sym f) w) i)

    -- a byte more
    record Second (place : ℕ) (j : ℕ) (g : ℕ → Step H Outcome) : Type 0 where
      byte : ℕ
      got : slice_get bytes place ≡ Some byte
      rest : o ≡ (g byte).run (behind m s (j + 1))

    second : (g : ℕ → Step H Outcome) → o ≡ (next_byte m >>= g).run (behind m s 1) → Second (at + 1) 1 g
    second g i =
        let p = split _ _ (behind m s 1) t z (sym i ∙ q) in
        let n = next_is m (behind m s 1) p.state bytes (at + 1) p.mid (code_behind m s bytes at c) p.first in
        record {
          byte = p.mid;
          got = n.got;
          rest = i ∙ then_goes _ g (behind m s 1) p.state p.mid p.first ∙ ap (λ u. (g p.mid).run u) (n.is ∙ one_more m s bytes at 1 c);
        }

    third : (g : ℕ → Step H Outcome) → o ≡ (next_byte m >>= g).run (behind m s 2) → Second (at + 1 + 1) 2 g
    third g i =
        let p = split _ _ (behind m s 2) t z (sym i ∙ q) in
        let d = subst (λ u. IsCode m u bytes (at + 1 + 1)) (one_more m s bytes at 1 c) (code_behind m (behind m s 1) bytes (at + 1) (code_behind m s bytes at c)) in
        let n = next_is m (behind m s 2) p.state bytes (at + 1 + 1) p.mid d p.first in
        record {
          byte = p.mid;
          got = n.got;
          rest = i ∙ then_goes _ g (behind m s 2) p.state p.mid p.first ∙ ap (λ u. (g p.mid).run u) (n.is ∙ one_more m s bytes at 2 c);
        }

    two : (f : ℕ → Code) (g : ℕ → Step H Outcome) → ((a : ℕ) → a < 256 → RowShows m laws k b (g a) (as_sent (f a)) (behind m s 2))
        → (x : Found) → in_two f (drop (at + 1) bytes) ≡ Some x → Walks x → o ≡ (next_byte m >>= g).run (behind m s 1) → Seen x
    two f g row x e w i =
        let r = second g i in
        let d : in_two f (r.byte ∷ drop (at + 1 + 1) bytes) ≡ Some x = subst (λ bs. in_two f bs ≡ Some x) (drop_here bytes (at + 1) r.byte r.got) e in
        let v : record { step = f r.byte; size = 2 } ≡ x = cc in
        subst Seen v (from_row (f r.byte) (g r.byte) 2 (row r.byte (c.all_bytes (at + 1) r.byte r.got)) (subst Walks (sym v) w) r.rest)

    three : (f : ℕ → ℕ → Code) (g : ℕ → ℕ → Step H Outcome) → ((a i : ℕ) → a < 256 → RowShows m laws k b (g a i) (as_sent (f a i)) (behind m s 3))
        → (x : Found) → in_three f (drop (at + 1) bytes) ≡ Some x → Walks x → o ≡ (next_byte m >>= (λ a. next_byte m >>= g a)).run (behind m s 1) → Seen x
    three f g row x e w i =
        let r = second (λ a. next_byte m >>= g a) i in
        let r2 = third (g r.byte) r.rest in
        let d : in_three f (r.byte ∷ drop (at + 1 + 1) bytes) ≡ Some x = subst (λ bs. in_three f bs ≡ Some x) (drop_here bytes (at + 1) r.byte r.got) e in
        let d2 : in_three f (r.byte ∷ r2.byte ∷ drop (at + 1 + 1 + 1) bytes) ≡ Some x = subst (λ bs. in_three f (r.byte ∷ bs) ≡ Some x) (drop_here bytes (at + 1 + 1) r2.byte r2.got) d in
        let v : record { step = f r.byte r2.byte; size = 3 } ≡ x = cc in
        subst Seen v (from_row (f r.byte r2.byte) (g r.byte r2.byte) 3 (row r.byte r2.byte (c.all_bytes (at + 1) r.byte r.got)) (subst Walks (sym v) w) r2.rest)

    -- ROWS OF MORE THAN ONE BYTE, AND JUMPS

    few_send : (n i : ℕ) (u : State H) → n < 256 → RowShows m laws k b (executed m (send_literal m i n)) (as_sent (Send n i)) u
    few_send n i u l = subst (λ j. RowShows m laws k b (executed m (send_literal m i n)) (Send j i) u) (sym (few_of n l)) (send_row m laws k b n i u)

    few_super : (n i : ℕ) (u : State H) → n < 256 → RowShows m laws k b (executed m (send_literal_to_super m i n)) (as_sent (SendSuper n i)) u
    few_super n i u l = subst (λ j. RowShows m laws k b (executed m (send_literal_to_super m i n)) (SendSuper j i) u) (sym (few_of n l)) (super_row m laws k b n i u)

    long_send : (above : Bool) (a i : ℕ) (p : Bool) → a < 256 → RowShows m laws k b (executed m (sent_by above i a)) (as_sent (sending above (if p then a + 256 else a) i)) (behind m s 3)
    long_send true a i true l = subst (λ j. RowShows m laws k b (executed m (send_literal_to_super m i a)) (SendSuper j i) (behind m s 3)) (sym (more_of a l)) (super_row m laws k b a i (behind m s 3))
    long_send false a i true l = subst (λ j. RowShows m laws k b (executed m (send_literal m i a)) (Send j i) (behind m s 3)) (sym (more_of a l)) (send_row m laws k b a i (behind m s 3))
    long_send true a i false l = few_super a i (behind m s 3) l
    long_send false a i false l = few_send a i (behind m s 3) l

    pushed_row : (a : Pushed_constant) (u : State H) → RowShows m laws k b (goes_on (push_constant m a)) (as_sent (pushed_constant a)) u
    pushed_row constant.True u = constant_row m laws k b constant.True u
    pushed_row constant.False u = constant_row m laws k b constant.False u
    pushed_row constant.Nil u = constant_row m laws k b constant.Nil u
    pushed_row constant.MinusOne u = constant_row m laws k b constant.MinusOne u
    pushed_row constant.Zero u = constant_row m laws k b constant.Zero u
    pushed_row constant.One u = constant_row m laws k b constant.One u
    pushed_row constant.Two u = constant_row m laws k b constant.Two u

    back_offset : (i a : ℕ) (y : ℤ) → i < 4 → a < 256 → y +ℤ long_offset i a ≡ y -ℤ pos ((4 - i) * 256 - a)
    back_offset zero a y l h = omega (arith, ints, h)
    back_offset (suc zero) a y l h = omega (arith, ints, h)
    back_offset (suc (suc zero)) a y l h = omega (arith, ints, h)
    back_offset (suc (suc (suc zero))) a y l h = omega (arith, ints, h)
    back_offset (suc (suc (suc (suc i)))) a y l h = absurd (omega (arith, l))

    on_offset : (i a : ℕ) → 4 ≤ i → long_offset i a ≡ pos ((i - 4) * 256 + a)
    on_offset i a l = omega (arith, ints, l)

    on_by : (d : ℕ) (short : Bool) (u : State H) → RowShows m laws k b (goes_on (jump (pos d))) (as_sent (if short then JumpPast d else Jump d)) u
    on_by d true u = ahead_row m laws k b d (JumpPast d) u refl
    on_by d false u = ahead_row m laws k b d (Jump d) u refl

    long_by : (i a : ℕ) (p : Bool) (u : State H) → nat_lt i 4 ≡ p → a < 256 → RowShows m laws k b (goes_on (jump (long_offset i a))) (as_sent (if p then JumpBack ((4 - i) * 256 - a) else long_on ((i - 4) * 256 + a))) u
    long_by i a true u e h = back_row m laws k b ((4 - i) * 256 - a) (long_offset i a) (JumpBack ((4 - i) * 256 - a)) u (back_offset i a u.registers.ip (below_of i 4 e) h) refl
    long_by i a false u e h =
        subst (λ j. RowShows m laws k b (goes_on (jump j)) (as_sent (long_on ((i - 4) * 256 + a))) u) (sym (on_offset i a (from_of i 4 e)))
        (on_by ((i - 4) * 256 + a) (is_short ((i - 4) * 256 + a)) u)

    going : (f : ℕ → Step H (Unit {0})) → (goes_on (next_byte m >>= f)).run (behind m s 1) ≡ (next_byte m >>= (λ a. goes_on (f a))).run (behind m s 1)
    unfolding goes_on ◌>>◌
    going f = assoc (next_byte m) f (λ y. answer outcome.Went) (behind m s 1)

    calling : (f : ℕ → Step H Call) → (executed m (next_byte m >>= f)).run (behind m s 1) ≡ (next_byte m >>= (λ a. executed m (f a))).run (behind m s 1)
    unfolding executed
    calling f = assoc (next_byte m) f (execute m) (behind m s 1)

    calling_any : (f : ℕ → Step H (Option Call)) → (executed_if_any m (next_byte m >>= f)).run (behind m s 1) ≡ (next_byte m >>= (λ a. executed_if_any m (f a))).run (behind m s 1)
    unfolding executed_if_any
    calling_any f = assoc (next_byte m) f (execute_if_any m) (behind m s 1)

    -- EACH BYTECODE

    abbrev first_behind : State H
    first_behind = behind m s 1

    abbrev second_behind : State H
    second_behind = behind m s 2

    returns_constant : (a : Pushed_constant) (x : Found) → instruction_by (code.ReturnConstant a) (drop (at + 1) bytes) ≡ Some x → Walks x → o ≡ (executed_if_any m (return_constant m a)).run first_behind → Seen x
    returns_constant constant.True x e w i = one (ReturnConstant True) (executed_if_any m (return_constant m constant.True)) (return_constant_row m laws k b constant.True (ReturnConstant True) first_behind (λ u. (refl, λ v. refl, refl))) x e w i
    returns_constant constant.False x e w i = one (ReturnConstant False) (executed_if_any m (return_constant m constant.False)) (return_constant_row m laws k b constant.False (ReturnConstant False) first_behind (λ u. (refl, λ v. refl, refl))) x e w i
    returns_constant constant.Nil x e w i = one (ReturnConstant Nil) (executed_if_any m (return_constant m constant.Nil)) (return_constant_row m laws k b constant.Nil (ReturnConstant Nil) first_behind (λ u. (refl, λ v. refl, refl))) x e w i
    returns_constant constant.MinusOne x e w i = cc
    returns_constant constant.Zero x e w i = cc
    returns_constant constant.One x e w i = cc
    returns_constant constant.Two x e w i = cc

    double : (above : Bool) → (next_byte m >>= (λ a. next_byte m >>= (λ j. sent_by above j a))) >>= execute m ≡ next_byte m >>= (λ a. next_byte m >>= (λ j. sent_by above j a >>= execute m))
    double above =
        assoc_step (next_byte m) (λ a. next_byte m >>= (λ j. sent_by above j a)) (execute m)
        ∙ ap (λ f. next_byte m >>= f) (fun_ext (λ a. assoc_step (next_byte m) (λ j. sent_by above j a) (execute m)))

    doubles : (above : Bool) (x : Found) → in_three (λ a j. sending above (long_count a j) j) (drop (at + 1) bytes) ≡ Some x → Walks x
        → o ≡ (executed m (next_byte m >>= (λ a. next_byte m >>= (λ j. sent_by above j a)))).run first_behind → Seen x
    unfolding executed
    doubles above x e w i =
        three (λ a j. sending above (long_count a j) j) (λ a j. sent_by above j a >>= execute m) (λ a j l. long_send above a j (nat_lt j 32 && nat_le a 7) l) x e w
        (i ∙ ap (λ (n : Step H Outcome). n.run first_behind) (double above))

    by_code : (y : Bytecode) → Ranged y → (x : Found) → instruction_by y (drop (at + 1) bytes) ≡ Some x → Walks x → o ≡ (bytecode m y).run first_behind → Seen x
    unfolding bytecode extended_push extended_store extended_store_and_pop short_unconditional_jump long_unconditional_jump extended_send double_extended_send extended_super_send double_extended_super_send short_jump_on_false long_jump_on_true long_jump_on_false
    by_code (code.Push p) r x e w i = one (Push (place_of p)) (goes_on (push_operand m p)) (push_row m laws k b p first_behind) x e w i
    by_code (code.StoreAndPop p) r x e w i = one (PopStore (place_of p)) (goes_on (store_and_pop m p)) (pop_store_row m laws k b p first_behind) x e w i
    by_code code.PushReceiver r x e w i = one (PushConstant Receiver) (goes_on (push_receiver m)) (receiver_row m laws k b first_behind) x e w i
    by_code (code.PushConstant a) r x e w i = one (pushed_constant a) (goes_on (push_constant m a)) (pushed_row a first_behind) x e w i
    by_code code.ReturnReceiver r x e w i = one (ReturnConstant Receiver) (executed_if_any m (return_receiver m)) (return_receiver_row m laws k b first_behind) x e w i
    by_code (code.ReturnConstant a) r x e w i = returns_constant a x e w i
    by_code code.ReturnTopToSender r x e w i = one ReturnTop (executed_if_any m (return_top_to_sender m)) (return_top_row m laws k b first_behind) x e w i
    by_code code.ReturnTopToCaller r x e w i = one ReturnBlock (executed_if_any m (return_top_to_caller m)) (return_block_row m laws k b first_behind) x e w i
    by_code code.Unused r x e w i = cc
    by_code code.ExtendedPush r x e w i =
        two (λ a. Push (place_in a)) (λ a. goes_on (push_operand m (operand_of a))) (λ a l. push_row m laws k b (operand_of a) second_behind) x e w (i ∙ going (λ a. push_operand m (operand_of a)))
    by_code code.ExtendedStore r x e w i =
        two (λ a. Store (place_in a)) (λ a. goes_on (store_top m laws k b (operand_of a))) (λ a l. store_row m laws k b (operand_of a) second_behind) x e w (i ∙ going (λ a. store_top m laws k b (operand_of a)))
    by_code code.ExtendedStoreAndPop r x e w i =
        two (λ a. PopStore (place_in a)) (λ a. goes_on (store_and_pop m (operand_of a))) (λ a l. pop_store_row m laws k b (operand_of a) second_behind) x e w (i ∙ going (λ a. store_and_pop m (operand_of a)))
    by_code code.ExtendedSend r x e w i =
        two (λ a. Send (arguments_of a) (selector_of a)) (λ a. executed m (send_literal m (selector_of a) (arguments_of a))) (λ a l. few_send (arguments_of a) (selector_of a) second_behind (omega (arith, l))) x e w (i ∙ calling (λ a. send_literal m (selector_of a) (arguments_of a)))
    by_code code.DoubleExtendedSend r x e w i = doubles false x e w i
    by_code code.ExtendedSuperSend r x e w i =
        two (λ a. SendSuper (arguments_of a) (selector_of a)) (λ a. executed m (send_literal_to_super m (selector_of a) (arguments_of a))) (λ a l. few_super (arguments_of a) (selector_of a) second_behind (omega (arith, l))) x e w (i ∙ calling (λ a. send_literal_to_super m (selector_of a) (arguments_of a)))
    by_code code.DoubleExtendedSuperSend r x e w i = doubles true x e w i
    by_code code.PopStack r x e w i = one Pop (goes_on (pop_stack m)) (pop_row m laws k b first_behind) x e w i
    by_code code.DuplicateTop r x e w i = one Duplicate (goes_on (duplicate_top m)) (duplicate_row m laws k b first_behind) x e w i
    by_code code.PushActiveContext r x e w i = one (PushConstant Context) (goes_on (push_active_context m)) (context_row m laws k b first_behind) x e w i
    by_code (code.ShortUnconditionalJump j) r x e w i = one (Jump (j + 1)) (goes_on (jump (pos (j + 1)))) (ahead_row m laws k b (j + 1) (Jump (j + 1)) first_behind refl) x e w i
    by_code (code.ShortJumpOnFalse j) r x e w i = one (JumpIf false (j + 1)) (executed_if_any m (jump_on m FalseObject TrueObject (pos (j + 1)))) (test_row m laws k b false FalseObject TrueObject (j + 1) first_behind refl refl (λ h. h)) x e w i
    by_code (code.LongUnconditionalJump j) r x e w i =
        two (long_jump_by j) (λ a. goes_on (jump (long_offset j a))) (λ a l. long_by j a (nat_lt j 4) second_behind refl l) x e w (i ∙ going (λ a. jump (long_offset j a)))
    by_code (code.LongJumpOnTrue j) r x e w i =
        two (λ a. JumpIf true (j * 256 + a)) (λ a. executed_if_any m (jump_on m TrueObject FalseObject (pos (j * 256 + a)))) (λ a l. test_row m laws k b true TrueObject FalseObject (j * 256 + a) second_behind refl refl (λ h y. h (sym y))) x e w (i ∙ calling_any (λ a. jump_on m TrueObject FalseObject (pos (j * 256 + a))))
    by_code (code.LongJumpOnFalse j) r x e w i =
        two (λ a. JumpIf false (j * 256 + a)) (λ a. executed_if_any m (jump_on m FalseObject TrueObject (pos (j * 256 + a)))) (λ a l. test_row m laws k b false FalseObject TrueObject (j * 256 + a) second_behind refl refl (λ h. h)) x e w (i ∙ calling_any (λ a. jump_on m FalseObject TrueObject (pos (j * 256 + a))))
    by_code (code.ArithmeticSend j) r x e w i = one (SendSpecial (first_special + j)) (arithmetic_send m j) (arithmetic_row m laws k b j first_behind (r.arithmetic j refl)) x e w i
    by_code (code.SpecialSend j) r x e w i = one (SendSpecial (first_special + j)) (executed m (special_send m j)) (special_row m laws k b j first_behind) x e w i
    by_code (code.PrimitiveSend j) r x e w i = one (SendSpecial (first_special + j)) (primitive_send m j) (primitive_row j first_behind (r.primitive j refl)) x e w i
    by_code (code.LiteralSend j n) r x e w i = one (Send n j) (executed m (send_literal m j n)) (few_send n j first_behind (r.literal j n refl)) x e w i

pub steps_walk : {H : Type 0} (m : ObjectMemory H) → KeepsOthers m → StepWalks m
unfolding step
steps_walk m laws s t z bytes at k b x c e w q =
    let p = split (next_byte m) (λ a. bytecode m (decoded a)) s t z q in
    let n = next_is m s p.state bytes at p.mid c p.first in
    let i : (step m).run s ≡ (bytecode m (decoded p.mid)).run (behind m s 1) =
    then_goes (next_byte m) (λ a. bytecode m (decoded a)) s p.state p.mid p.first ∙ ap (λ u. (bytecode m (decoded p.mid)).run u) n.is in
    let d : instruction_by (decoded p.mid) (drop (at + 1) bytes) ≡ Some x = subst (λ bs. instruction bs ≡ Some x) (drop_here bytes at p.mid n.got) e in
    by_code m laws k b s t ((step m).run s) z bytes at c q (decoded p.mid) (ranged p.mid) x d w i
