use Rattle.std.proofs.Common.{arith}
use Rattle.st_frames.proofs.Doing.{rows}
use Rattle.st_process.proofs.Numbering.{limits}
use Rattle.st_model.specs.Processes.{add_excess}
use Rattle.st_process.proofs.signals.add_excess.Goals as goal

pub returns-in_err-excess-clause-does : goal.returns-in_err-excess-clause-does
unfolding add_excess
returns-in_err-excess-clause-does g c = grind (arith, rows, limits)

pub returns-then-excess-gt16383-clause-does : goal.returns-then-excess-gt16383-clause-does
unfolding add_excess
returns-then-excess-gt16383-clause-does g c = grind (arith, rows, limits)

pub returns-clause-does : goal.returns-clause-does
unfolding add_excess
returns-clause-does g c = grind (arith, rows, limits)
