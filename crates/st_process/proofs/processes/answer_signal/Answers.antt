use Rattle.std.proofs.Common.{arith}
use Rattle.st_frames.proofs.Doing.{rows}
use Rattle.st_frames.specs.inside.Answering.{succeed_by}
use Rattle.st_model.specs.Processes.{signal_and_answer}
use Rattle.st_process.proofs.processes.answer_signal.Goals as goal

pub returns-in_err-deed-clause-does : goal.returns-in_err-deed-clause-does
unfolding succeed_by signal_and_answer
returns-in_err-deed-clause-does g c = grind (arith, rows)

pub returns-clause-does : goal.returns-clause-does
unfolding succeed_by signal_and_answer
returns-clause-does g c = grind (arith, rows)
