use Rattle.std.proofs.Common.{arith}
use Rattle.st_frames.proofs.Doing.{rows}
use Rattle.st_model.specs.Returns.{return_into}
use Rattle.st_control.proofs.returns.return_into.Goals as goal

pub returns-in_err-store_field-clause-does : goal.returns-in_err-store_field-clause-does
unfolding return_into
returns-in_err-store_field-clause-does g c = grind (arith, rows)

pub returns-in_err-store_field-2-clause-does : goal.returns-in_err-store_field-2-clause-does
unfolding return_into
returns-in_err-store_field-2-clause-does g c = grind (arith, rows)

pub returns-in_err-fetch_context_registers-clause-does : goal.returns-in_err-fetch_context_registers-clause-does
unfolding return_into
returns-in_err-fetch_context_registers-clause-does g c = grind (arith, rows)

pub returns-clause-does : goal.returns-clause-does
unfolding return_into
returns-clause-does g c = grind (arith, rows)
