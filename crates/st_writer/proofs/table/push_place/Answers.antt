use Rattle.std.proofs.Common.{sym, ap, ◌∙◌, subst, ℕ, List, Ok}
use Rattle.st_host.specs.declared.host.HostFault.{HostFault}
use Rattle.st_model.specs.Values.{value}
use Rattle.st_host.specs.inside.Pieces.{Pushes}
use Rattle.st_host.proofs.Pushing.{push_none}
use Rattle.st_writer.specs.Written.{bytes_at}
use Rattle.st_writer.proofs.Places.{there, absent}
use Rattle.st_writer.proofs.table.push_place.Goals as goal

pub returns-in_ok-push_object : goal.returns-in_ok-push_object
returns-in_ok-push_object g c =
    let t = (g.M.Memory.view c.args.m.now).objects in
    let e = there t (value c.pointer_of-o.result) c.args.k c.pointer_of-o.ensures (sym c.live.ensures ∙ c.if-live.true) in
    subst (λ (text : List ℕ). Pushes {E = HostFault} g.H.Host c.args.name.now text c.args.host.now c.push_object.new.host c.args.piece.now c.push_object.new.piece (Ok tt))
    (sym (ap bytes_at e)) c.in_ok-push_object.ensures

pub returns-else-live : goal.returns-else-live
returns-else-live g c =
    let t = (g.M.Memory.view c.args.m.now).objects in
    rw (ap bytes_at (absent t (value c.pointer_of-o.result) c.args.k c.pointer_of-o.ensures (sym c.live.ensures ∙ c.if-live.false)))
    (push_none g.H.Host c.args.name.now c.args.host.now c.args.piece.now (λ told f s left. g.met.H.Host.only_now c.args.host.now f s told left))
