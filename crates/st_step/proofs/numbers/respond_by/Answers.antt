use Rattle.std.proofs.Common.{arith}
use Rattle.st_step.proofs.NumberChanges.{trials}
use Rattle.st_model.specs.Executing.{respond_by, if_done}
use Rattle.st_step.proofs.numbers.respond_by.Goals as goal

pub returns-in_err-large_arithmetic-in-LargeArithmetic-clause-does : goal.returns-in_err-large_arithmetic-in-LargeArithmetic-clause-does
unfolding respond_by if_done
returns-in_err-large_arithmetic-in-LargeArithmetic-clause-does g c = grind (arith, trials)

pub returns-in_err-shift_large-in-LargeBitShift-clause-does : goal.returns-in_err-shift_large-in-LargeBitShift-clause-does
unfolding respond_by if_done
returns-in_err-shift_large-in-LargeBitShift-clause-does g c = grind (arith, trials)

pub returns-in_err-try_storage-in-Storage-clause-does : goal.returns-in_err-try_storage-in-Storage-clause-does
unfolding respond_by if_done
returns-in_err-try_storage-in-Storage-clause-does g c = grind (arith, trials)

pub returns-in_err-try_blocks-in-Blocks-clause-does : goal.returns-in_err-try_blocks-in-Blocks-clause-does
unfolding respond_by if_done
returns-in_err-try_blocks-in-Blocks-clause-does g c = grind (arith, trials)

pub returns-in_err-try_process-in-Processes-clause-does : goal.returns-in_err-try_process-in-Processes-clause-does
unfolding respond_by if_done
returns-in_err-try_process-in-Processes-clause-does g c = grind (arith, trials)

pub returns-in_err-try_input-in-Input-clause-does : goal.returns-in_err-try_input-in-Input-clause-does
unfolding respond_by if_done
returns-in_err-try_input-in-Input-clause-does g c = grind (arith, trials)
