use Rattle.std.proofs.Common.{ℕ, List, subst}
use Rattle.std.specs.Prelude.{Ok, Err}
use Rattle.st_protocol.specs.declared.status.Status.TheVariants as status
use Rattle.st_call.proofs.Saying.{tells_all, tells_part}
use Rattle.st_call.specs.inside.Telling.{Tells}
use Rattle.st_session.proofs.Looking.{same_stack}
use Rattle.st_session.proofs.debugging.say_stack.Goals as goal

pub returns-in-Ok : goal.returns-in-Ok
returns-in-Ok g c =
    let new = c.frames.new.host in
    subst (λ (t : List ℕ). Tells g.H.Host t c.args.host.now new (Ok tt)) (same_stack g.M.Memory.view c.memory.ensures c.frame.ensures) (tells_all g.H.Host _ c.args.host.now new c.in-Ok.ensures.all c.in-Ok.ensures.says)

pub returns-in-Err : goal.returns-in-Err
returns-in-Err g c =
    let new = c.frames.new.host in
    subst (λ (t : List ℕ). Tells g.H.Host t c.args.host.now new (Err status.SayFault)) (same_stack g.M.Memory.view c.memory.ensures c.frame.ensures)
    (tells_part g.H.Host _ c.args.host.now new _ c.in-Err.ensures.says (record { later = c.in-Err.ensures.cause.later; rose = c.in-Err.ensures.cause.rose }))
