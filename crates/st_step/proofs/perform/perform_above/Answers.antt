use Rattle.std.proofs.Common.{arith}
use Rattle.st_frames.proofs.Doing.{rows}
use Rattle.st_model.specs.Executing.{perform, perform_found, succeeds}
use Rattle.st_step.proofs.perform.perform_above.Goals as goal

pub returns-in_err-class-clause-does : goal.returns-in_err-class-clause-does
unfolding perform perform_found succeeds
returns-in_err-class-clause-does g c = grind (arith, rows)

pub returns-in_err-found-clause-does : goal.returns-in_err-found-clause-does
unfolding perform perform_found succeeds
returns-in_err-found-clause-does g c = grind (arith, rows)

pub returns-in_err-takes-clause-does : goal.returns-in_err-takes-clause-does
unfolding perform perform_found succeeds
returns-in_err-takes-clause-does g c = grind (arith, rows)

pub returns-then-not-branch-clause-does : goal.returns-then-not-branch-clause-does
unfolding perform perform_found succeeds
returns-then-not-branch-clause-does g c = grind (arith, rows)

pub returns-in_err-drop_selector-clause-does : goal.returns-in_err-drop_selector-clause-does
unfolding perform perform_found succeeds
returns-in_err-drop_selector-clause-does g c = grind (arith, rows)

pub returns-in_err-end-clause-does : goal.returns-in_err-end-clause-does
unfolding perform perform_found succeeds
returns-in_err-end-clause-does g c = grind (arith, rows)

pub returns-clause-does : goal.returns-clause-does
unfolding perform perform_found succeeds
returns-clause-does g c = grind (arith, rows)
