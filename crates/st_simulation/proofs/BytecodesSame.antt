-- Each bytecode over births does the same over pointers.
use Rattle.std.proofs.Common.{ℕ, Bool}
use Rattle.st_model.specs.declared.bytecode.Operand.{Operand}
use Rattle.st_model.specs.declared.bytecode.Operand.TheVariants.{ReceiverVariable, LiteralConstant}
use Rattle.st_model.specs.declared.bytecode.Constant.{Constant}
use Rattle.st_model.specs.declared.bytecode.Constant.TheVariants as constant
use Rattle.st_model.specs.declared.bytecode.Bytecode.{Bytecode}
use Rattle.st_model.specs.declared.bytecode.Bytecode.TheVariants as code
use Rattle.st_model.specs.Values.{Value, Small, Ref}
use Rattle.st_model.specs.Machine.{ObjectMemory, Step}
use Rattle.st_model.specs.Bytecodes.{fetch_receiver_variable, fetch_temporary_variable, fetch_literal_constant, fetch_literal_variable, fetch_operand, store_receiver_variable, store_temporary_variable, store_literal_variable, store_operand, constant_value, or_send, arithmetic_by, arithmetic_send, primitive_send, rows, bytecode, step}
use Rattle.st_simulation.proofs.Same.{Simulation, ValueSame, SameValue, SameAnswer, SameEnd, steps_same}
use Rattle.st_simulation.proofs.StepsSame.{parts_same}
use Rattle.st_simulation.proofs.LookupSame.{half_word-same}
use Rattle.st_simulation.proofs.PrimitivesSame.{arithmetic-same, equivalence-same, receiver_class-same}
use Rattle.st_simulation.proofs.BlocksSame.{block_copy-same, value-same}
use Rattle.st_simulation.proofs.ExecutingSame.{goes_on-same, executed-same, executed_if_any-same}
use Rattle.st_simulation.proofs.SendsSame.{send-same, send_to_super-same, special_send-same}
use Rattle.st_simulation.proofs.ReturnsSame.{return_to_sender-same, return_to_caller-same, jump_on-same}

module _ {H K : Type 0} {M : ObjectMemory H} {N : ObjectMemory K} (sim : Simulation M N) (makes : sim.makes) where
  fetch_operand-same : (o : Operand) → SameValue sim (fetch_operand M o) (fetch_operand N o)
  unfolding fetch_operand fetch_receiver_variable fetch_temporary_variable fetch_literal_variable fetch_literal_constant
  fetch_operand-same (ReceiverVariable i) = search parts_same depth 16 fits 4000
  fetch_operand-same o = search parts_same depth 16 fits 4000

  store_operand-same : (o : Operand) (x y : Value) → ValueSame sim x y → SameAnswer sim (store_operand M o x) (store_operand N o y)
  unfolding store_operand store_receiver_variable store_temporary_variable store_literal_variable fetch_literal_constant
  store_operand-same (LiteralConstant i) x y h = search steps_same
  store_operand-same o x y h = search parts_same depth 16 fits 4000

  constant_value-same : (c : Constant) → SameValue sim (constant_value M c) (constant_value N c)
  unfolding constant_value
  constant_value-same constant.Nil = search parts_same
  constant_value-same c = search parts_same

  ruleset rows_same = (parts_same, half_word-same, fetch_operand-same, store_operand-same, constant_value-same, goes_on-same, executed-same, executed_if_any-same, send-same, send_to_super-same, special_send-same, return_to_sender-same, return_to_caller-same, jump_on-same)

  or_send-same : (k : ℕ) (m : Step H Bool) (n : Step K Bool) → SameAnswer sim m n → SameEnd sim (or_send M k m) (or_send N k n)
  unfolding or_send
  or_send-same k m n h = search rows_same depth 16 fits 4000

  arithmetic_by-same : (k : ℕ) (v w : Value) → ValueSame sim v w → SameEnd sim (arithmetic_by M k v) (arithmetic_by N k w)
  unfolding arithmetic_by
  arithmetic_by-same k (Small n) w h = rw h.is (search (or_send-same, arithmetic-same))
  arithmetic_by-same k (Ref n) w h = rw h.is (search rows_same)

  -- the one search for all rows
  bytecode-same : (b : Bytecode) → SameEnd sim (bytecode M b) (bytecode N b)
  unfolding bytecode rows arithmetic_send primitive_send fetch_literal_constant
  bytecode-same code.Unused = search steps_same
  bytecode-same b = search (rows_same, or_send-same, arithmetic_by-same, equivalence-same, receiver_class-same, block_copy-same, value-same) depth 24 fits 4000

  pub step-same : SameEnd sim (step M) (step N)
  unfolding step
  step-same = search (parts_same, bytecode-same) depth 16 fits 4000
