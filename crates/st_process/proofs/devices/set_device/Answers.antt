use Rattle.st_process.proofs.InputTries.{tried-set_device}
use Rattle.std.proofs.Common.{arith}
use Rattle.st_frames.proofs.Tries.{tries}
use Rattle.st_process.proofs.Changing.{same}
use Rattle.st_process.specs.inside.Devices.{set_device}
use Rattle.st_process.proofs.devices.set_device.Goals as goal

pub returns-in-Ok-clause-does : goal.returns-in-Ok-clause-does
returns-in-Ok-clause-does g c = record {
  does = tried-set_device _ _ _ _ _ _ c.in_ok-receiver.ensures.does c.in_ok-argument.ensures.does c.in-Ok.ensures.does c.succeed_with.ensures.does.does;
  world = c.succeed_with.ensures.does.world;
}

pub returns-in_err-receiver-clause-does : goal.returns-in_err-receiver-clause-does
unfolding set_device
returns-in_err-receiver-clause-does g c = grind (arith, tries, same)

pub returns-in_err-argument-clause-does : goal.returns-in_err-argument-clause-does
unfolding set_device
returns-in_err-argument-clause-does g c = grind (arith, tries, same)

pub returns-in-Err-clause-does : goal.returns-in-Err-clause-does
unfolding set_device
returns-in-Err-clause-does g c = grind (arith, tries, same)
