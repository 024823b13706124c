use Rattle.std.proofs.Common.{ap, ◌∙◌}
use Rattle.st_model.specs.Objects.{nil}
use Rattle.st_model.specs.Surroundings.{changed_world, Hold, AddSignal}
use Rattle.st_model.proofs.Words.{value_of-nil}
use Rattle.st_frames.proofs.naming.signal_once.Goals as goal

pub returns-clause-world : goal.returns-clause-world
returns-clause-world g c =
    c.hold_device.ensures.world
    ∙ (λ i. changed_world (Hold c.args.device (value_of-nil i)) (c.add_signal.ensures.world i))
    ∙ ap (λ x. changed_world (Hold c.args.device nil) (changed_world (AddSignal x) c.args.w.now)) c.device-semaphore.ensures
