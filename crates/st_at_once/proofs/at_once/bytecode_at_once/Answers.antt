use Rattle.std.proofs.Common.{rules}
use Rattle.st_control.specs.inside.AtOnce.{at_once}
use Rattle.st_frames.proofs.Doing.{rows}
use Rattle.st_at_once.specs.inside.AtOnce.{bytecode_at_once, primitive_at_once}
use Rattle.st_at_once.proofs.at_once.bytecode_at_once.Goals as goal
use Rattle.st_at_once.proofs.at_once.bytecode_at_once.Goals.{in-Push+in_ok-push_operand-in-Push, in-StoreAndPop+in_ok-store_and_pop-in-StoreAndPop, in-PushReceiver+in_ok-push_receiver-in-PushReceiver, in-PushConstant+in_ok-push_constant-in-PushConstant, in-ExtendedPush+in_ok-extended_push-in-ExtendedPush, in-ExtendedStore+in_ok-extended_store-in-ExtendedStore, in-ExtendedStoreAndPop+in_ok-extended_store_and_pop-in-ExtendedStoreAndPop, in-PopStack+in_ok-pop_stack-in-PopStack, in-DuplicateTop+in_ok-duplicate_top-in-DuplicateTop, in-PushActiveContext+in_ok-push_active_context-in-PushActiveContext, in-ShortUnconditionalJump+in_ok-short_unconditional_jump-in-ShortUnconditionalJump, in-LongUnconditionalJump+in_ok-long_unconditional_jump-in-LongUnconditionalJump, in-ShortJumpOnFalse+in_ok-short_jump_at_once-in-ShortJumpOnFalse+else-not-branch, in-LongJumpOnFalse+in_ok-long_jump_at_once-in-LongJumpOnFalse+else-not-branch-2, in-LongJumpOnTrue+in_ok-long_jump_at_once-in-LongJumpOnTrue+else-not-branch-3, in-ArithmeticSend+in_ok-arithmetic_at_once-in-ArithmeticSend+else-not-branch-4, in-PrimitiveSend-eq22+in_ok-equivalence-in-PrimitiveSend-eq22, in-PrimitiveSend-eq23+in_ok-receiver_class-in-PrimitiveSend-eq23}

pub returns-clause-does : goal.returns-clause-does
unfolding bytecode_at_once primitive_at_once at_once
returns-clause-does g c =
    elim c.match-code.branch [
      | in-Push+in_ok-push_operand-in-Push w ↦ search (rules, rows)
      | in-StoreAndPop+in_ok-store_and_pop-in-StoreAndPop w ↦ search (rules, rows)
      | in-PushReceiver+in_ok-push_receiver-in-PushReceiver w ↦ search (rules, rows)
      | in-PushConstant+in_ok-push_constant-in-PushConstant w ↦ search (rules, rows)
      | in-ExtendedPush+in_ok-extended_push-in-ExtendedPush w ↦ search (rules, rows)
      | in-ExtendedStore+in_ok-extended_store-in-ExtendedStore w ↦ search (rules, rows)
      | in-ExtendedStoreAndPop+in_ok-extended_store_and_pop-in-ExtendedStoreAndPop w ↦ search (rules, rows)
      | in-PopStack+in_ok-pop_stack-in-PopStack w ↦ search (rules, rows)
      | in-DuplicateTop+in_ok-duplicate_top-in-DuplicateTop w ↦ search (rules, rows)
      | in-PushActiveContext+in_ok-push_active_context-in-PushActiveContext w ↦ search (rules, rows)
      | in-ShortUnconditionalJump+in_ok-short_unconditional_jump-in-ShortUnconditionalJump w ↦ search (rules, rows)
      | in-LongUnconditionalJump+in_ok-long_unconditional_jump-in-LongUnconditionalJump w ↦ search (rules, rows)
      | in-ShortJumpOnFalse+in_ok-short_jump_at_once-in-ShortJumpOnFalse+else-not-branch w ↦ search (rules, rows)
      | in-LongJumpOnFalse+in_ok-long_jump_at_once-in-LongJumpOnFalse+else-not-branch-2 w ↦ search (rules, rows)
      | in-LongJumpOnTrue+in_ok-long_jump_at_once-in-LongJumpOnTrue+else-not-branch-3 w ↦ search (rules, rows)
      | in-ArithmeticSend+in_ok-arithmetic_at_once-in-ArithmeticSend+else-not-branch-4 w ↦ search (rules, rows)
      | in-PrimitiveSend-eq22+in_ok-equivalence-in-PrimitiveSend-eq22 w ↦ search (rules, rows)
      | in-PrimitiveSend-eq23+in_ok-receiver_class-in-PrimitiveSend-eq23 w ↦ search (rules, rows)
    ]
