-- The bytecodes, a definition for each group of rows of the book's table (chapter 28), and the step that does one.
use Rattle.std.specs.Prelude.{ℕ, ◌+◌, ◌*◌, ◌==◌, ◌-◌, Option, Bool, if◌then◌else◌, ℤ, pos, ◌+ℤ◌, ◌-ℤ◌, ◌*ℤ◌}
use Rattle.st_model.specs.declared.dead.Dead.TheVariants as dead
use Rattle.st_model.specs.declared.bytecode.Operand.{Operand}
use Rattle.st_model.specs.declared.bytecode.Operand.TheVariants.{ReceiverVariable, TemporaryVariable, LiteralConstant, LiteralVariable}
use Rattle.st_model.specs.declared.bytecode.Constant.{Constant}
use Rattle.st_model.specs.declared.bytecode.Constant.TheVariants as constant
use Rattle.st_model.specs.declared.bytecode.Bytecode.{Bytecode}
use Rattle.st_model.specs.declared.bytecode.Bytecode.TheVariants as code
use Rattle.st_model.specs.Values.{Value, Small, Ref}
use Rattle.st_model.specs.Objects.{NilObject, FalseObject, TrueObject}
use Rattle.st_model.specs.Outcomes.{Outcome}
use Rattle.st_model.specs.Outcomes as outcome
use Rattle.st_model.specs.Decoded.{decoded, operand_of, selector_of, arguments_of}
use Rattle.st_model.specs.Machine.{ObjectMemory, Step, answer, die, ◌>>=◌}
use Rattle.st_model.specs.Steps.{get_active, get_home, get_method, get_receiver, fetch_field, store_field, of_page, push, top, under, pop, literal, next_byte, jump}
use Rattle.st_model.specs.Sends.{Call, send, send_to_super, special_send}
use Rattle.st_model.specs.Arithmetic.{arithmetic, arithmetic_number, equivalence, receiver_class}
use Rattle.st_model.specs.Blocks.{primitive_block_copy, primitive_value}
use Rattle.st_model.specs.Executing.{goes_on, executed, executed_if_any}
use Rattle.st_model.specs.Returns.{return_to_sender, return_to_caller, jump_on}

-- 144 to 151
unfoldable pub short_unconditional_jump : {H : Type 0} → ℕ → Step H Unit
short_unconditional_jump i = jump (pos (i + 1))

abbrev pub long_offset : ℕ → ℕ → ℤ
long_offset i b = ((pos i -ℤ pos 4) *ℤ pos 256) +ℤ pos b

module _ {H : Type 0} (m : ObjectMemory H) where
  -- Receiver variable i is field i of the receiver, temporary variable i is field 6 + i of the home context,
  -- and literal variable i is the value of an association, field 1 of literal i.

  unfoldable pub fetch_receiver_variable : ℕ → Step H Value
  fetch_receiver_variable i = do
    receiver ← get_receiver
    fetch_field m receiver i

  unfoldable pub fetch_temporary_variable : ℕ → Step H Value
  fetch_temporary_variable i = do
    home ← get_home
    fetch_field m home (6 + i)

  unfoldable pub fetch_literal_constant : ℕ → Step H Value
  fetch_literal_constant i = do
    method ← get_method
    literal m method i

  unfoldable pub fetch_literal_variable : ℕ → Step H Value
  fetch_literal_variable i = do
    association ← fetch_literal_constant i
    fetch_field m association 1

  unfoldable pub fetch_operand : Operand → Step H Value
  fetch_operand (ReceiverVariable i) = fetch_receiver_variable i
  fetch_operand (TemporaryVariable i) = fetch_temporary_variable i
  fetch_operand (LiteralConstant i) = fetch_literal_constant i
  fetch_operand (LiteralVariable i) = fetch_literal_variable i

  unfoldable pub store_receiver_variable : ℕ → Value → Step H Unit
  store_receiver_variable i x = do
    receiver ← get_receiver
    store_field m receiver i x

  unfoldable pub store_temporary_variable : ℕ → Value → Step H Unit
  store_temporary_variable i x = do
    home ← get_home
    store_field m home (6 + i) x

  unfoldable pub store_literal_variable : ℕ → Value → Step H Unit
  store_literal_variable i x = do
    association ← fetch_literal_constant i
    store_field m association 1 x

  -- nothing is stored in a literal constant: its code is never used
  unfoldable pub store_operand : Operand → Value → Step H Unit
  store_operand (ReceiverVariable i) x = store_receiver_variable i x
  store_operand (TemporaryVariable i) x = store_temporary_variable i x
  store_operand (LiteralConstant i) x = die dead.Code
  store_operand (LiteralVariable i) x = store_literal_variable i x

  -- 0 to 95
  unfoldable pub push_operand : Operand → Step H Unit
  push_operand operand = fetch_operand operand >>= push m

  -- 96 to 111
  unfoldable pub store_and_pop : Operand → Step H Unit
  store_and_pop operand = pop m >>= store_operand operand

  -- 112
  unfoldable pub push_receiver : Step H Unit
  push_receiver = get_receiver >>= push m

  -- a SmallInteger stands by its 15 bits, so that -1 is 32767
  unfoldable pub constant_value : Constant → Step H Value
  constant_value constant.True = of_page m TrueObject
  constant_value constant.False = of_page m FalseObject
  constant_value constant.Nil = of_page m NilObject
  constant_value constant.MinusOne = answer (Small 32767)
  constant_value constant.Zero = answer (Small 0)
  constant_value constant.One = answer (Small 1)
  constant_value constant.Two = answer (Small 2)

  -- 113 to 119
  unfoldable pub push_constant : Constant → Step H Unit
  push_constant c = constant_value c >>= push m

  -- 128
  unfoldable pub extended_push : Step H Unit
  extended_push = do
    b ← next_byte m
    push_operand (operand_of b)

  -- 129: the top stays on the stack
  unfoldable pub extended_store : Step H Unit
  extended_store = do
    b ← next_byte m
    x ← top m
    store_operand (operand_of b) x

  -- 130
  unfoldable pub extended_store_and_pop : Step H Unit
  extended_store_and_pop = do
    b ← next_byte m
    store_and_pop (operand_of b)

  -- 135
  unfoldable pub pop_stack : Step H Unit
  pop_stack = do
    x ← pop m
    answer tt

  -- 136
  unfoldable pub duplicate_top : Step H Unit
  duplicate_top = top m >>= push m

  -- 137
  unfoldable pub push_active_context : Step H Unit
  push_active_context = get_active >>= push m

  -- 160 to 167
  unfoldable pub long_unconditional_jump : ℕ → Step H Unit
  long_unconditional_jump i = do
    b ← next_byte m
    jump (long_offset i b)

  -- literal i is sent with n arguments
  unfoldable pub send_literal : ℕ → ℕ → Step H Call
  send_literal i n = do
    selector ← fetch_literal_constant i
    send m selector n

  unfoldable pub send_literal_to_super : ℕ → ℕ → Step H Call
  send_literal_to_super i n = do
    selector ← fetch_literal_constant i
    send_to_super m selector n

  -- 131
  unfoldable pub extended_send : Step H Call
  extended_send = do
    b ← next_byte m
    send_literal (selector_of b) (arguments_of b)

  -- 132: the first byte is the number of arguments, and the second numbers the literal
  unfoldable pub double_extended_send : Step H Call
  double_extended_send = do
    n ← next_byte m
    i ← next_byte m
    send_literal i n

  -- 133
  unfoldable pub extended_super_send : Step H Call
  extended_super_send = do
    b ← next_byte m
    send_literal_to_super (selector_of b) (arguments_of b)

  -- 134
  unfoldable pub double_extended_super_send : Step H Call
  double_extended_super_send = do
    n ← next_byte m
    i ← next_byte m
    send_literal_to_super i n

  -- 120
  unfoldable pub return_receiver : Step H (Option Call)
  return_receiver = get_receiver >>= return_to_sender m

  -- 121 to 123
  unfoldable pub return_constant : Constant → Step H (Option Call)
  return_constant c = constant_value c >>= return_to_sender m

  -- 124
  unfoldable pub return_top_to_sender : Step H (Option Call)
  return_top_to_sender = pop m >>= return_to_sender m

  -- 125
  unfoldable pub return_top_to_caller : Step H (Option Call)
  return_top_to_caller = pop m >>= return_to_caller m

  -- 152 to 159
  unfoldable pub short_jump_on_false : ℕ → Step H (Option Call)
  short_jump_on_false i = jump_on m FalseObject TrueObject (pos (i + 1))

  -- 168 to 171
  unfoldable pub long_jump_on_true : ℕ → Step H (Option Call)
  long_jump_on_true i = do
    b ← next_byte m
    jump_on m TrueObject FalseObject (pos (i * 256 + b))

  -- 172 to 175
  unfoldable pub long_jump_on_false : ℕ → Step H (Option Call)
  long_jump_on_false i = do
    b ← next_byte m
    jump_on m FalseObject TrueObject (pos (i * 256 + b))

  -- a primitive was tried: where it failed, the special selector of this number is sent
  unfoldable pub or_send : ℕ → Step H Bool → Step H Outcome
  or_send k primitive = do
    succeeded ← primitive
    if succeeded then answer outcome.Went else executed m (special_send m k)

  -- 176 to 191: a primitive is tried first where the receiver of one argument is a SmallInteger
  unfoldable pub arithmetic_by : ℕ → Value → Step H Outcome
  arithmetic_by k (Small n) = or_send k (arithmetic m (arithmetic_number k))
  arithmetic_by k (Ref n) = executed m (special_send m k)

  unfoldable pub arithmetic_send : ℕ → Step H Outcome
  arithmetic_send k = under m 1 >>= arithmetic_by k

  -- 198 and 199: the primitives 110 and 111 are done. 200 tries 80, and 201 and 202 try 81 with no argument and with one.
  unfoldable pub primitive_send : ℕ → Step H Outcome
  primitive_send k =
      if k == 22 then goes_on (equivalence m) else
      if k == 23 then goes_on (receiver_class m) else
      if k == 24 then or_send k (primitive_block_copy m) else or_send k (primitive_value m (k - 25))

  -- the row of a bytecode
  unfoldable pub bytecode : Bytecode → Step H Outcome
  bytecode (code.Push operand) = goes_on (push_operand operand)
  bytecode (code.StoreAndPop operand) = goes_on (store_and_pop operand)
  bytecode code.PushReceiver = goes_on push_receiver
  bytecode (code.PushConstant c) = goes_on (push_constant c)
  bytecode code.ReturnReceiver = executed_if_any m return_receiver
  bytecode (code.ReturnConstant c) = executed_if_any m (return_constant c)
  bytecode code.ReturnTopToSender = executed_if_any m return_top_to_sender
  bytecode code.ReturnTopToCaller = executed_if_any m return_top_to_caller
  bytecode code.Unused = die dead.Code
  bytecode code.ExtendedPush = goes_on extended_push
  bytecode code.ExtendedStore = goes_on extended_store
  bytecode code.ExtendedStoreAndPop = goes_on extended_store_and_pop
  bytecode code.ExtendedSend = executed m extended_send
  bytecode code.DoubleExtendedSend = executed m double_extended_send
  bytecode code.ExtendedSuperSend = executed m extended_super_send
  bytecode code.DoubleExtendedSuperSend = executed m double_extended_super_send
  bytecode code.PopStack = goes_on pop_stack
  bytecode code.DuplicateTop = goes_on duplicate_top
  bytecode code.PushActiveContext = goes_on push_active_context
  bytecode (code.ShortUnconditionalJump i) = goes_on (short_unconditional_jump i)
  bytecode (code.ShortJumpOnFalse i) = executed_if_any m (short_jump_on_false i)
  bytecode (code.LongUnconditionalJump i) = goes_on (long_unconditional_jump i)
  bytecode (code.LongJumpOnTrue i) = executed_if_any m (long_jump_on_true i)
  bytecode (code.LongJumpOnFalse i) = executed_if_any m (long_jump_on_false i)
  bytecode (code.ArithmeticSend k) = arithmetic_send k
  bytecode (code.SpecialSend k) = executed m (special_send m k)
  bytecode (code.PrimitiveSend k) = primitive_send k
  bytecode (code.LiteralSend i n) = executed m (send_literal i n)

  -- the next bytecode
  unfoldable pub step : Step H Outcome
  step = do
    b ← next_byte m
    bytecode (decoded b)

-- opens the rows
unfoldable pub rows : Unit {0}
unfolding push_operand store_and_pop push_receiver push_constant extended_push extended_store extended_store_and_pop pop_stack duplicate_top push_active_context short_unconditional_jump long_unconditional_jump send_literal send_literal_to_super extended_send double_extended_send extended_super_send double_extended_super_send return_receiver return_constant return_top_to_sender return_top_to_caller short_jump_on_false long_jump_on_true long_jump_on_false
rows = tt
