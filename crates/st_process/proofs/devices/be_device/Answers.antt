use Rattle.st_process.proofs.InputTries.{tried-be_device}
use Rattle.std.proofs.Common.{arith}
use Rattle.st_frames.proofs.Tries.{effects}
use Rattle.st_process.specs.inside.Devices.{be_device}
use Rattle.st_process.proofs.devices.be_device.Goals as goal

pub returns-in-Ok-clause-does : goal.returns-in-Ok-clause-does
returns-in-Ok-clause-does g c = record {
  does = tried-be_device _ _ _ _ _ c.in_ok-receiver.ensures.does c.in-Ok.ensures.does c.answer_held.ensures.does.does;
  world = c.answer_held.ensures.does.world;
}

pub returns-in_err-receiver-clause-does : goal.returns-in_err-receiver-clause-does
unfolding be_device
returns-in_err-receiver-clause-does g c = grind (arith, effects)

pub returns-in-Err-clause-does : goal.returns-in-Err-clause-does
unfolding be_device
returns-in-Err-clause-does g c = grind (arith, effects)
