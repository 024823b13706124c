-- Bytecodes that are done at once: pushes, stores, pops, duplicates, jumps, arithmetic on two SmallIntegers, == and class. They make
-- no object, and stay in their context. Each answers whether it was done. If it wasn't, the registers name what they named, and
-- instruction and stack pointer are of no use.
use Rattle.std.specs.Prelude.{◌≡◌, ℕ, ◌+◌, ◌*◌, ◌==◌, Bool, true, false, Option, Some, None, Result, Ok, Err, if◌then◌else◌, pos, ℤ}
use Rattle.st_model.specs.declared.dead.Dead.{Dead}
use Rattle.st_model.specs.declared.dead.Dead.TheVariants as dead
use Rattle.st_model.specs.declared.bytecode.Bytecode.{Bytecode}
use Rattle.st_model.specs.declared.bytecode.Bytecode.TheVariants as code
use Rattle.st_model.specs.declared.integers.IntAnswer.{IntAnswer}
use Rattle.st_model.specs.declared.integers.IntAnswer.TheVariants.{Number, Truth, Point}
use Rattle.st_model.specs.Values.{Value, Small, Ref, integer, small_integer}
use Rattle.st_model.specs.declared.page.PageObject.{PageObject}
use Rattle.st_model.specs.declared.page.PageObject.TheVariants.{FalseObject, TrueObject}
use Rattle.st_model.specs.Machine.{ObjectMemory, Registers, World, Step, answer, tried, ◌>>=◌, ◌>>◌}
use Rattle.st_model.specs.Steps.{or_die, under, drop_words, push, next_byte}
use Rattle.st_model.specs.Integers.{binary}
use Rattle.st_model.specs.Primitives.{truth}
use Rattle.st_model.specs.Arithmetic.{integer_under, arithmetic_number, equivalence, receiver_class}
use Rattle.st_model.specs.Bytecodes.{push_operand, store_and_pop, push_receiver, push_constant, extended_push, extended_store, extended_store_and_pop, pop_stack, duplicate_top, push_active_context, short_unconditional_jump, long_unconditional_jump, bytecode, step}
use Rattle.st_model.specs.Table.{table}
use Rattle.st_model.specs.View.{View}
use Rattle.st_frames.specs.declared.frame.Frame.{Frame}
use Rattle.st_frames.specs.declared.registers.Registers.{Registers as Words}
use Rattle.st_frames.specs.inside.Rows.{row_state}
use Rattle.st_frames.specs.inside.Shown.{shown}
use Rattle.st_control.specs.inside.AtOnce.{at_once, jump_at_once}

-- the registers name what they named
pub record NamesSame (old new : Registers) : Type 0 where
  pub active : new.active ≡ old.active
  pub home : new.home ≡ old.home
  pub method : new.method ≡ old.method
  pub receiver : new.receiver ≡ old.receiver

-- what is kept in the frame: the instruction and the stack pointer of a row that was done; of another nothing
abbrev pub kept : Result Bool Dead → Frame → Words → Frame
kept (Ok true) f r = record f { ip = r.ip; sp = r.sp }
kept (Ok false) f r = f
kept (Err cause) f r = f

module _ {H : Type 0} (m : ObjectMemory H) where
  -- of a receiver, and of the argument at the top where that is a SmallInteger, the primitive has an answer
  unfoldable pub argument_answer : ℕ → ℤ → Step H IntAnswer
  argument_answer n receiver = do
    argument ← integer_under m 0
    or_die dead.NotSmall (binary n receiver argument)

  -- a value takes the place of receiver and argument, which were read
  unfoldable pub replace_pair : Value → Step H Unit
  replace_pair v = do
    drop_words 2
    push m v

  -- what a primitive on SmallIntegers answered, unless it failed, or answers a Point, which would have to be made
  unfoldable pub answered_at_once : Option IntAnswer → Step H Bool
  answered_at_once None = answer false
  answered_at_once (Some (Number n)) = at_once (replace_pair (small_integer n))
  answered_at_once (Some (Truth b)) = do
    v ← truth m b
    at_once (replace_pair v)
  answered_at_once (Some (Point x y)) = answer false

  -- the same of the receiver that was read
  unfoldable pub arithmetic_at_once_by : ℕ → Value → Step H Bool
  arithmetic_at_once_by k (Small n) = do
    a ← tried (argument_answer (arithmetic_number k) (integer n))
    answered_at_once a
  arithmetic_at_once_by k (Ref n) = answer false

  -- 176 to 191
  unfoldable pub arithmetic_at_once : ℕ → Step H Bool
  arithmetic_at_once k = do
    receiver ← under m 1
    arithmetic_at_once_by k receiver

  -- 198 and 199, of those that count from 176
  unfoldable pub primitive_at_once : ℕ → Step H Bool
  primitive_at_once k = if k == 22 then at_once (equivalence m) else if k == 23 then at_once (receiver_class m) else answer false

  -- 168 to 175
  unfoldable pub long_jump_at_once : PageObject → PageObject → ℕ → Step H Bool
  long_jump_at_once wanted other i = do
    b ← next_byte m
    jump_at_once m wanted other (pos (i * 256 + b))

  -- the row of a bytecode, if that is done at once
  unfoldable pub bytecode_at_once : Bytecode → Step H Bool
  bytecode_at_once (code.Push operand) = at_once (push_operand m operand)
  bytecode_at_once (code.StoreAndPop operand) = at_once (store_and_pop m operand)
  bytecode_at_once code.PushReceiver = at_once (push_receiver m)
  bytecode_at_once (code.PushConstant c) = at_once (push_constant m c)
  bytecode_at_once code.ExtendedPush = at_once (extended_push m)
  bytecode_at_once code.ExtendedStore = at_once (extended_store m)
  bytecode_at_once code.ExtendedStoreAndPop = at_once (extended_store_and_pop m)
  bytecode_at_once code.PopStack = at_once (pop_stack m)
  bytecode_at_once code.DuplicateTop = at_once (duplicate_top m)
  bytecode_at_once code.PushActiveContext = at_once (push_active_context m)
  bytecode_at_once (code.ShortUnconditionalJump i) = at_once (short_unconditional_jump i)
  bytecode_at_once (code.ShortJumpOnFalse i) = jump_at_once m FalseObject TrueObject (pos (i + 1))
  bytecode_at_once (code.LongUnconditionalJump i) = at_once (long_unconditional_jump m i)
  bytecode_at_once (code.LongJumpOnTrue i) = long_jump_at_once TrueObject FalseObject i
  bytecode_at_once (code.LongJumpOnFalse i) = long_jump_at_once FalseObject TrueObject i
  bytecode_at_once (code.ArithmeticSend k) = arithmetic_at_once k
  bytecode_at_once (code.PrimitiveSend k) = primitive_at_once k
  bytecode_at_once b = answer false

-- the next bytecode of what is shown was fetched: it is this one, and its row begins with these registers
abbrev pub IsFetched : View → Frame → World → Bytecode → Words → Type 0
IsFetched v f w code r = (step table).run (shown v f w) ≡ (bytecode table code).run (row_state v.objects v.head r)
