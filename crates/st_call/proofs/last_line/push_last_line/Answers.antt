use Rattle.std.proofs.Common.{◌≡◌, [], ⊎_elim, sym, ap}
use Rattle.st_call.proofs.Pushing.{push_none, push_as}
use Rattle.st_call.specs.LastLines.{last_line}
use Rattle.st_call.proofs.last_line.push_last_line.Goals as goal

pub returns-in-Done : goal.returns-in-Done
returns-in-Done g c =
    let text : [] ≡ last_line c.args.status = ⊎_elim (λ e. ap last_line (sym e)) (λ e. ap last_line (sym e)) c.in-Done.is in
    push_as (push_none g.H.Host c.args.host.now (g.met.H.Host.only_now c.args.host.now)) text
