use Rattle.std.proofs.Common.{arith}
use Rattle.st_process.proofs.Numbering.{passed-is}
use Rattle.st_process.proofs.ProcessTries.{tried-wait}
use Rattle.st_process.proofs.Taken.{takes-most}
use Rattle.st_frames.proofs.Tries.{effects}
use Rattle.st_model.specs.Processes.{primitive_wait}
use Rattle.st_process.proofs.processes.primitive_wait.Goals as goal

pub returns-in-Ok-clause-does : goal.returns-in-Ok-clause-does
returns-in-Ok-clause-does g c = record {
  does = tried-wait _ _ _ _ _ _ (passed-is c.in-Ok.excess c.in-Ok.ensures.low c.in-Ok.ensures.high) c.in_ok-receiver.ensures.does c.in-Ok.ensures.does c.answer_wait.ensures.does.does;
  world = c.answer_wait.ensures.does.world;
}

pub returns-in-Ok-clause-takes : goal.returns-in-Ok-clause-takes
returns-in-Ok-clause-takes g c = takes-most _ _ g.O.Objects _ _ _ 7 _ _ _ _ c.answer_wait.ensures.does.does (omega arith) c.answer_wait.ensures.takes

pub returns-in_err-receiver-clause-does : goal.returns-in_err-receiver-clause-does
unfolding primitive_wait
returns-in_err-receiver-clause-does g c = grind (arith, effects)

pub returns-in-Err-clause-does : goal.returns-in-Err-clause-does
unfolding primitive_wait
returns-in-Err-clause-does g c = grind (arith, effects)
