use Rattle.std.proofs.Common.{rules, ◌≡◌, true, sym, ap, ◌∙◌}
use Rattle.std.specs.Prelude.{◌&&◌, if◌then◌else◌}
use Rattle.st_model.specs.Values.{word}
use Rattle.st_model.specs.Objects.{nil}
use Rattle.st_model.specs.declared.device.Device.TheVariants as device
use Rattle.st_model.specs.Machine.{is_there}
use Rattle.st_model.specs.Table.{table}
use Rattle.st_model.specs.Events.{has_signal_room}
use Rattle.st_model.specs.Surroundings.{changed_world, Hold, AddSignal}
use Rattle.st_model.proofs.Words.{value_of-nil}
use Rattle.st_input.proofs.world.ring_timer.Goals as goal

pub returns-in-Some-clause-world : goal.returns-in-Some-clause-world
returns-in-Some-clause-world g c =
    let w = c.args.w.now in
    let t = (g.M.Memory.view c.args.m.now).objects in
    let rung = changed_world (Hold device.Timer nil) (changed_world (AddSignal (word c.args.semaphore)) w) in
    let room : has_signal_room w ≡ true = search rules in
    let there : is_there table t (word c.args.semaphore) ≡ true = search rules in
    c.hold_device.ensures.world
    ∙ (λ i. changed_world (Hold device.Timer (value_of-nil i)) (c.add_signal.ensures.world i))
    ∙ ap (λ x. changed_world (Hold device.Timer nil) (changed_world (AddSignal x) w)) c.in-Some.ensures.same
    ∙ sym (λ i. if there i && room i then rung else w)
