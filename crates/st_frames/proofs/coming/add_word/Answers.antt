use Rattle.st_model.specs.declared.device.Device.TheVariants as device
use Rattle.st_frames.proofs.HoldsNamed.{known_device}
use Rattle.st_frames.proofs.coming.add_word.Goals as goal

pub add_signal-requires-clause-known : goal.add_signal-requires-clause-known
add_signal-requires-clause-known g c = known_device c.args.w.now device.InputSemaphore (g.met.M.Memory.whole c.args.m.now) c.requires.named c.device-semaphore.ensures
