use Rattle.std.proofs.Common.{arith}
use Rattle.st_frames.proofs.Doing.{rows}
use Rattle.st_model.specs.Sends.{special_send, argument_count}
use Rattle.st_control.proofs.sends.special_send.Goals as goal

pub returns-in_err-selector-clause-does : goal.returns-in_err-selector-clause-does
unfolding special_send argument_count
returns-in_err-selector-clause-does g c = grind (arith, rows)

pub returns-in_err-count-clause-does : goal.returns-in_err-count-clause-does
unfolding special_send argument_count
returns-in_err-count-clause-does g c = grind (arith, rows)

pub returns-then-count-lt0-clause-does : goal.returns-then-count-lt0-clause-does
unfolding special_send argument_count
returns-then-count-lt0-clause-does g c = grind (arith, rows)

pub returns-clause-does : goal.returns-clause-does
unfolding special_send argument_count
returns-clause-does g c = grind (arith, rows)
