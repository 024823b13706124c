use Rattle.std.proofs.Common.{◌≡◌, [], ⊎_elim, sym, ap}
use Rattle.st_call.proofs.Pushing.{push_none, push_as}
use Rattle.st_session.specs.inside.Runs.{end_text}
use Rattle.st_session.proofs.running.push_end.Goals as goal

pub returns-in-Snapshot : goal.returns-in-Snapshot
returns-in-Snapshot g c =
    let n = c.args.finished in
    let text : [] ≡ end_text n c.args.end = ⊎_elim (λ e. ap (end_text n) (sym e.1)) (λ e. ap (end_text n) (sym e.2)) c.in-Snapshot.is in
    push_as (push_none g.H.Host c.args.host.now (g.met.H.Host.only_now c.args.host.now)) text

pub returns-in-Ran : goal.returns-in-Ran
returns-in-Ran g c = push_as c.push_line.ensures (ap (end_text c.args.finished) (sym c.in-Ran.is))

pub returns-in-Space : goal.returns-in-Space
returns-in-Space g c = push_as c.push_line-in-Space.ensures (ap (end_text c.args.finished) (sym c.in-Space.is))

pub returns-in-Quit : goal.returns-in-Quit
returns-in-Quit g c = push_as c.push_line-in-Quit.ensures (ap (end_text c.args.finished) (sym c.in-Quit.is))

pub returns-in-Debugger : goal.returns-in-Debugger
returns-in-Debugger g c = push_as c.push_line-in-Debugger.ensures (ap (end_text c.args.finished) (sym c.in-Debugger.is))
