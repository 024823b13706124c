use Rattle.st_model.specs.Values.{value}
use Rattle.st_call.proofs.Pushing.{push_then, push_begun, push_as}
use Rattle.st_call.proofs.Escaping.{said_is}
use Rattle.st_call.proofs.said.push_say.Goals as goal

pub returns-in_err-push : goal.returns-in_err-push
returns-in_err-push g c =
    let same = said_is (g.M.Memory.view c.args.m.now).objects (value c.args.o) c.requires.live c.requires.kind in
    push_as (push_begun _ c.from_residual.ensures.0 c.in_err-push.ensures) same

pub returns-in_err-push_bytes : goal.returns-in_err-push_bytes
returns-in_err-push_bytes g c =
    let same = said_is (g.M.Memory.view c.args.m.now).objects (value c.args.o) c.requires.live c.requires.kind in
    push_as (push_then c.in_ok-push.ensures (push_begun _ c.from_residual-in_err-push_bytes.ensures.0 c.in_err-push_bytes.ensures)) same

pub returns : goal.returns
returns g c =
    let same = said_is (g.M.Memory.view c.args.m.now).objects (value c.args.o) c.requires.live c.requires.kind in
    push_as (push_then c.in_ok-push.ensures (push_then c.in_ok-push_bytes.ensures c.push-2.ensures)) same
