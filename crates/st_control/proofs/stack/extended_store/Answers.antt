use Rattle.std.proofs.Common.{arith}
use Rattle.st_frames.proofs.Doing.{rows}
use Rattle.st_model.specs.Bytecodes.{extended_store}
use Rattle.st_control.proofs.stack.extended_store.Goals as goal

pub returns-in_err-byte-clause-does : goal.returns-in_err-byte-clause-does
unfolding extended_store
returns-in_err-byte-clause-does g c = grind (arith, rows)

pub returns-in_err-x-clause-does : goal.returns-in_err-x-clause-does
unfolding extended_store
returns-in_err-x-clause-does g c = grind (arith, rows)

pub returns-clause-does : goal.returns-clause-does
unfolding extended_store
returns-clause-does g c = grind (arith, rows)
