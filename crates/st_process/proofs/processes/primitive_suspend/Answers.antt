use Rattle.std.proofs.Common.{arith}
use Rattle.st_process.proofs.ProcessTries.{tried-suspend}
use Rattle.st_process.proofs.Taken.{takes-most}
use Rattle.st_frames.proofs.Tries.{effects}
use Rattle.st_model.specs.Processes.{primitive_suspend}
use Rattle.st_process.proofs.processes.primitive_suspend.Goals as goal

pub returns-in-Ok-clause-does : goal.returns-in-Ok-clause-does
returns-in-Ok-clause-does g c = record {
  does = tried-suspend _ _ _ _ c.in_ok-receiver.ensures.does c.in-Ok.ensures.does c.answer_suspend.ensures.does.does;
  world = c.answer_suspend.ensures.does.world;
}

pub returns-in-Ok-clause-takes : goal.returns-in-Ok-clause-takes
returns-in-Ok-clause-takes g c = takes-most _ _ g.O.Objects _ _ _ 7 _ _ _ _ c.answer_suspend.ensures.does.does (omega arith) c.answer_suspend.ensures.takes

pub returns-in_err-receiver-clause-does : goal.returns-in_err-receiver-clause-does
unfolding primitive_suspend
returns-in_err-receiver-clause-does g c = grind (arith, effects)

pub returns-in-Err-clause-does : goal.returns-in-Err-clause-does
unfolding primitive_suspend
returns-in-Err-clause-does g c = grind (arith, effects)
