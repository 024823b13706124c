use Rattle.st_call.proofs.Pushing.{push_held, push_then, push_begun}
use Rattle.st_call.proofs.output.Output.push_byte.Goals as goal

pub returns-in_err-make_room : goal.returns-in_err-make_room
returns-in_err-make_room g c = push_begun _ c.from_residual.ensures.0 c.in_err-make_room.ensures.pushes

pub returns : goal.returns
returns g c =
    push_then c.in_ok-make_room.ensures.pushes (push_held g.H.Host c.make_room.new.host (g.met.H.Host.only_now c.make_room.new.host) c.hold.ensures)
