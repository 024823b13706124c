use Rattle.std.proofs.Common.{arith}
use Rattle.st_frames.proofs.Doing.{rows}
use Rattle.st_model.specs.Bytecodes.{bytecode, long_jump_on_true, long_jump_on_false, return_receiver}
use Rattle.st_step.specs.inside.Jumping.{long_conditional_jump}
use Rattle.st_model.specs.Executing.{goes_on, executed_if_any}
use Rattle.st_step.proofs.rows.bytecode.Goals as goal

pub returns-in_err-push_operand-in-Push-clause-does : goal.returns-in_err-push_operand-in-Push-clause-does
unfolding bytecode long_jump_on_true long_jump_on_false long_conditional_jump goes_on return_receiver executed_if_any
returns-in_err-push_operand-in-Push-clause-does g c = grind (arith, rows)

pub returns-in_err-store_and_pop-in-StoreAndPop-clause-does : goal.returns-in_err-store_and_pop-in-StoreAndPop-clause-does
unfolding bytecode long_jump_on_true long_jump_on_false long_conditional_jump goes_on return_receiver executed_if_any
returns-in_err-store_and_pop-in-StoreAndPop-clause-does g c = grind (arith, rows)

pub returns-in_err-push_receiver-in-PushReceiver-clause-does : goal.returns-in_err-push_receiver-in-PushReceiver-clause-does
unfolding bytecode long_jump_on_true long_jump_on_false long_conditional_jump goes_on return_receiver executed_if_any
returns-in_err-push_receiver-in-PushReceiver-clause-does g c = grind (arith, rows)

pub returns-in_err-push_constant-in-PushConstant-clause-does : goal.returns-in_err-push_constant-in-PushConstant-clause-does
unfolding bytecode long_jump_on_true long_jump_on_false long_conditional_jump goes_on return_receiver executed_if_any
returns-in_err-push_constant-in-PushConstant-clause-does g c = grind (arith, rows)

pub returns-in-ReturnReceiver-clause-does : goal.returns-in-ReturnReceiver-clause-does
unfolding bytecode long_jump_on_true long_jump_on_false long_conditional_jump goes_on return_receiver executed_if_any
returns-in-ReturnReceiver-clause-does g c = grind (arith, rows)

pub returns-in-ReturnConstant-clause-does : goal.returns-in-ReturnConstant-clause-does
unfolding bytecode long_jump_on_true long_jump_on_false long_conditional_jump goes_on return_receiver executed_if_any
returns-in-ReturnConstant-clause-does g c = grind (arith, rows)

pub returns-in-ReturnTopToSender-clause-does : goal.returns-in-ReturnTopToSender-clause-does
unfolding bytecode long_jump_on_true long_jump_on_false long_conditional_jump goes_on return_receiver executed_if_any
returns-in-ReturnTopToSender-clause-does g c = grind (arith, rows)

pub returns-in-ReturnTopToCaller-clause-does : goal.returns-in-ReturnTopToCaller-clause-does
unfolding bytecode long_jump_on_true long_jump_on_false long_conditional_jump goes_on return_receiver executed_if_any
returns-in-ReturnTopToCaller-clause-does g c = grind (arith, rows)

pub returns-in-Unused-clause-does : goal.returns-in-Unused-clause-does
unfolding bytecode long_jump_on_true long_jump_on_false long_conditional_jump goes_on return_receiver executed_if_any
returns-in-Unused-clause-does g c = grind (arith, rows)

pub returns-in_err-extended_push-in-ExtendedPush-clause-does : goal.returns-in_err-extended_push-in-ExtendedPush-clause-does
unfolding bytecode long_jump_on_true long_jump_on_false long_conditional_jump goes_on return_receiver executed_if_any
returns-in_err-extended_push-in-ExtendedPush-clause-does g c = grind (arith, rows)

pub returns-in_err-extended_store-in-ExtendedStore-clause-does : goal.returns-in_err-extended_store-in-ExtendedStore-clause-does
unfolding bytecode long_jump_on_true long_jump_on_false long_conditional_jump goes_on return_receiver executed_if_any
returns-in_err-extended_store-in-ExtendedStore-clause-does g c = grind (arith, rows)

pub returns-in_err-extended_store_and_pop-in-ExtendedStoreAndPop-clause-does : goal.returns-in_err-extended_store_and_pop-in-ExtendedStoreAndPop-clause-does
unfolding bytecode long_jump_on_true long_jump_on_false long_conditional_jump goes_on return_receiver executed_if_any
returns-in_err-extended_store_and_pop-in-ExtendedStoreAndPop-clause-does g c = grind (arith, rows)

pub returns-in-ExtendedSend-clause-does : goal.returns-in-ExtendedSend-clause-does
unfolding bytecode long_jump_on_true long_jump_on_false long_conditional_jump goes_on return_receiver executed_if_any
returns-in-ExtendedSend-clause-does g c = grind (arith, rows)

pub returns-in-DoubleExtendedSend-clause-does : goal.returns-in-DoubleExtendedSend-clause-does
unfolding bytecode long_jump_on_true long_jump_on_false long_conditional_jump goes_on return_receiver executed_if_any
returns-in-DoubleExtendedSend-clause-does g c = grind (arith, rows)

pub returns-in-ExtendedSuperSend-clause-does : goal.returns-in-ExtendedSuperSend-clause-does
unfolding bytecode long_jump_on_true long_jump_on_false long_conditional_jump goes_on return_receiver executed_if_any
returns-in-ExtendedSuperSend-clause-does g c = grind (arith, rows)

pub returns-in-DoubleExtendedSuperSend-clause-does : goal.returns-in-DoubleExtendedSuperSend-clause-does
unfolding bytecode long_jump_on_true long_jump_on_false long_conditional_jump goes_on return_receiver executed_if_any
returns-in-DoubleExtendedSuperSend-clause-does g c = grind (arith, rows)

pub returns-in_err-pop_stack-in-PopStack-clause-does : goal.returns-in_err-pop_stack-in-PopStack-clause-does
unfolding bytecode long_jump_on_true long_jump_on_false long_conditional_jump goes_on return_receiver executed_if_any
returns-in_err-pop_stack-in-PopStack-clause-does g c = grind (arith, rows)

pub returns-in_err-duplicate_top-in-DuplicateTop-clause-does : goal.returns-in_err-duplicate_top-in-DuplicateTop-clause-does
unfolding bytecode long_jump_on_true long_jump_on_false long_conditional_jump goes_on return_receiver executed_if_any
returns-in_err-duplicate_top-in-DuplicateTop-clause-does g c = grind (arith, rows)

pub returns-in_err-push_active_context-in-PushActiveContext-clause-does : goal.returns-in_err-push_active_context-in-PushActiveContext-clause-does
unfolding bytecode long_jump_on_true long_jump_on_false long_conditional_jump goes_on return_receiver executed_if_any
returns-in_err-push_active_context-in-PushActiveContext-clause-does g c = grind (arith, rows)

pub returns-in_err-short_unconditional_jump-in-ShortUnconditionalJump-clause-does : goal.returns-in_err-short_unconditional_jump-in-ShortUnconditionalJump-clause-does
unfolding bytecode long_jump_on_true long_jump_on_false long_conditional_jump goes_on return_receiver executed_if_any
returns-in_err-short_unconditional_jump-in-ShortUnconditionalJump-clause-does g c = grind (arith, rows)

pub returns-in-ShortJumpOnFalse-clause-does : goal.returns-in-ShortJumpOnFalse-clause-does
unfolding bytecode long_jump_on_true long_jump_on_false long_conditional_jump goes_on return_receiver executed_if_any
returns-in-ShortJumpOnFalse-clause-does g c = grind (arith, rows)

pub returns-in_err-long_unconditional_jump-in-LongUnconditionalJump-clause-does : goal.returns-in_err-long_unconditional_jump-in-LongUnconditionalJump-clause-does
unfolding bytecode long_jump_on_true long_jump_on_false long_conditional_jump goes_on return_receiver executed_if_any
returns-in_err-long_unconditional_jump-in-LongUnconditionalJump-clause-does g c = grind (arith, rows)

pub returns-in-LongJumpOnTrue-clause-does : goal.returns-in-LongJumpOnTrue-clause-does
unfolding bytecode long_jump_on_true long_jump_on_false long_conditional_jump goes_on return_receiver executed_if_any
returns-in-LongJumpOnTrue-clause-does g c = grind (arith, rows)

pub returns-in-LongJumpOnFalse-clause-does : goal.returns-in-LongJumpOnFalse-clause-does
unfolding bytecode long_jump_on_true long_jump_on_false long_conditional_jump goes_on return_receiver executed_if_any
returns-in-LongJumpOnFalse-clause-does g c = grind (arith, rows)

pub returns-in-ArithmeticSend-clause-does : goal.returns-in-ArithmeticSend-clause-does
unfolding bytecode long_jump_on_true long_jump_on_false long_conditional_jump goes_on return_receiver executed_if_any
returns-in-ArithmeticSend-clause-does g c = grind (arith, rows)

pub returns-in-SpecialSend-clause-does : goal.returns-in-SpecialSend-clause-does
unfolding bytecode long_jump_on_true long_jump_on_false long_conditional_jump goes_on return_receiver executed_if_any
returns-in-SpecialSend-clause-does g c = grind (arith, rows)

pub returns-in-PrimitiveSend-clause-does : goal.returns-in-PrimitiveSend-clause-does
unfolding bytecode long_jump_on_true long_jump_on_false long_conditional_jump goes_on return_receiver executed_if_any
returns-in-PrimitiveSend-clause-does g c = grind (arith, rows)

pub returns-in-LiteralSend-clause-does : goal.returns-in-LiteralSend-clause-does
unfolding bytecode long_jump_on_true long_jump_on_false long_conditional_jump goes_on return_receiver executed_if_any
returns-in-LiteralSend-clause-does g c = grind (arith, rows)

pub returns-in_ok-push_operand-in-Push-clause-does : goal.returns-in_ok-push_operand-in-Push-clause-does
unfolding bytecode long_jump_on_true long_jump_on_false long_conditional_jump goes_on return_receiver executed_if_any
returns-in_ok-push_operand-in-Push-clause-does g c = grind (arith, rows)

pub returns-in_ok-store_and_pop-in-StoreAndPop-clause-does : goal.returns-in_ok-store_and_pop-in-StoreAndPop-clause-does
unfolding bytecode long_jump_on_true long_jump_on_false long_conditional_jump goes_on return_receiver executed_if_any
returns-in_ok-store_and_pop-in-StoreAndPop-clause-does g c = grind (arith, rows)

pub returns-in_ok-push_receiver-in-PushReceiver-clause-does : goal.returns-in_ok-push_receiver-in-PushReceiver-clause-does
unfolding bytecode long_jump_on_true long_jump_on_false long_conditional_jump goes_on return_receiver executed_if_any
returns-in_ok-push_receiver-in-PushReceiver-clause-does g c = grind (arith, rows)

pub returns-in_ok-push_constant-in-PushConstant-clause-does : goal.returns-in_ok-push_constant-in-PushConstant-clause-does
unfolding bytecode long_jump_on_true long_jump_on_false long_conditional_jump goes_on return_receiver executed_if_any
returns-in_ok-push_constant-in-PushConstant-clause-does g c = grind (arith, rows)

pub returns-in_ok-extended_push-in-ExtendedPush-clause-does : goal.returns-in_ok-extended_push-in-ExtendedPush-clause-does
unfolding bytecode long_jump_on_true long_jump_on_false long_conditional_jump goes_on return_receiver executed_if_any
returns-in_ok-extended_push-in-ExtendedPush-clause-does g c = grind (arith, rows)

pub returns-in_ok-extended_store-in-ExtendedStore-clause-does : goal.returns-in_ok-extended_store-in-ExtendedStore-clause-does
unfolding bytecode long_jump_on_true long_jump_on_false long_conditional_jump goes_on return_receiver executed_if_any
returns-in_ok-extended_store-in-ExtendedStore-clause-does g c = grind (arith, rows)

pub returns-in_ok-extended_store_and_pop-in-ExtendedStoreAndPop-clause-does : goal.returns-in_ok-extended_store_and_pop-in-ExtendedStoreAndPop-clause-does
unfolding bytecode long_jump_on_true long_jump_on_false long_conditional_jump goes_on return_receiver executed_if_any
returns-in_ok-extended_store_and_pop-in-ExtendedStoreAndPop-clause-does g c = grind (arith, rows)

pub returns-in_ok-pop_stack-in-PopStack-clause-does : goal.returns-in_ok-pop_stack-in-PopStack-clause-does
unfolding bytecode long_jump_on_true long_jump_on_false long_conditional_jump goes_on return_receiver executed_if_any
returns-in_ok-pop_stack-in-PopStack-clause-does g c = grind (arith, rows)

pub returns-in_ok-duplicate_top-in-DuplicateTop-clause-does : goal.returns-in_ok-duplicate_top-in-DuplicateTop-clause-does
unfolding bytecode long_jump_on_true long_jump_on_false long_conditional_jump goes_on return_receiver executed_if_any
returns-in_ok-duplicate_top-in-DuplicateTop-clause-does g c = grind (arith, rows)

pub returns-in_ok-push_active_context-in-PushActiveContext-clause-does : goal.returns-in_ok-push_active_context-in-PushActiveContext-clause-does
unfolding bytecode long_jump_on_true long_jump_on_false long_conditional_jump goes_on return_receiver executed_if_any
returns-in_ok-push_active_context-in-PushActiveContext-clause-does g c = grind (arith, rows)

pub returns-in_ok-short_unconditional_jump-in-ShortUnconditionalJump-clause-does : goal.returns-in_ok-short_unconditional_jump-in-ShortUnconditionalJump-clause-does
unfolding bytecode long_jump_on_true long_jump_on_false long_conditional_jump goes_on return_receiver executed_if_any
returns-in_ok-short_unconditional_jump-in-ShortUnconditionalJump-clause-does g c = grind (arith, rows)

pub returns-in_ok-long_unconditional_jump-in-LongUnconditionalJump-clause-does : goal.returns-in_ok-long_unconditional_jump-in-LongUnconditionalJump-clause-does
unfolding bytecode long_jump_on_true long_jump_on_false long_conditional_jump goes_on return_receiver executed_if_any
returns-in_ok-long_unconditional_jump-in-LongUnconditionalJump-clause-does g c = grind (arith, rows)
