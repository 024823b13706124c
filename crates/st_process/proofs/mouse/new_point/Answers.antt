use Rattle.std.proofs.Common.{arith}
use Rattle.st_frames.proofs.Doing.{rows, pages}
use Rattle.st_model.specs.Arithmetic.{new_point}
use Rattle.st_process.proofs.mouse.new_point.Goals as goal

pub returns-in_err-point-clause-does : goal.returns-in_err-point-clause-does
unfolding new_point
returns-in_err-point-clause-does g c = grind (arith, rows, pages)

pub returns-in_err-store_field-clause-does : goal.returns-in_err-store_field-clause-does
unfolding new_point
returns-in_err-store_field-clause-does g c = grind (arith, rows, pages)

pub returns-in_err-store_field-2-clause-does : goal.returns-in_err-store_field-2-clause-does
unfolding new_point
returns-in_err-store_field-2-clause-does g c = grind (arith, rows, pages)

pub returns-clause-does : goal.returns-clause-does
unfolding new_point
returns-clause-does g c = grind (arith, rows, pages)
