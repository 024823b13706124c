use Rattle.st_process.proofs.ProcessTries.{suspended-by}
use Rattle.std.proofs.Common.{arith}
use Rattle.st_frames.proofs.Doing.{rows, pages}
use Rattle.st_frames.specs.inside.Answering.{succeed_by}
use Rattle.st_model.specs.Processes.{suspend_and_answer}
use Rattle.st_process.proofs.processes.answer_suspend.Goals as goal

pub returns-clause-does : goal.returns-clause-does
returns-clause-does g c = record {
  does = suspended-by g.O.Objects.names g.met.O.Objects.tabular _ _ _ _ c.page-word.ensures.word c.in_ok-deed.ensures.does.does c.succeed_leaving.ensures.does.does;
  world = c.succeed_leaving.ensures.does.world;
}

pub returns-in_err-deed-clause-does : goal.returns-in_err-deed-clause-does
unfolding succeed_by suspend_and_answer
returns-in_err-deed-clause-does g c = grind (arith, rows, pages)
