use Rattle.std.proofs.Common.{sym, ap, ◌∙◌}
use Rattle.st_model.proofs.Showing.{show_is}
use Rattle.st_session.specs.inside.Standing.{shown_by}
use Rattle.st_session.specs.Watching.{look_of}
use Rattle.st_session.proofs.Seen.{stops_here, seen_then, seen_unsaid}
use Rattle.st_session.proofs.watching.push_seen.Goals as goal

pub returns-in-Ok-true-clause-pushes : goal.returns-in-Ok-true-clause-pushes
returns-in-Ok-true-clause-pushes g c = λ s h.
    let m = c.args.machine.now in
    let d = shown_by g.M.Memory.view m in
    let look = look_of c.args.watch c.args.finished in
    let same = show_is d s h (g.met.M.Memory.whole m.memory).places in
    stops_here c.args.finished look s d m.death (look d) (ap look same) (sym c.in-Ok-true.ensures.stops ∙ c.in-Ok-true.field-0-test) c.requires.alive h c.in-Ok-true.ensures.pushes

pub returns-in-Ok-false-clause-pushes : goal.returns-in-Ok-false-clause-pushes
returns-in-Ok-false-clause-pushes g c = λ s h.
    let m = c.args.machine.now in
    let d = shown_by g.M.Memory.view m in
    let new = c.push_cycle.new.machine in
    let look = look_of c.args.watch c.args.finished in
    let same = show_is d s h (g.met.M.Memory.whole m.memory).places in
    seen_then c.args.finished look s (shown_by g.M.Memory.view new) new.death (look d) (ap look same) (sym c.in-Ok-false.ensures.stops ∙ c.in-Ok-false.field-0-test) c.in-Ok-false.ensures.pushes (c.push_cycle.ensures.pushes s h)

pub returns-in-Err-clause-pushes : goal.returns-in-Err-clause-pushes
returns-in-Err-clause-pushes g c = λ s h.
    let m = c.args.machine.now in
    let d = shown_by g.M.Memory.view m in
    let look = look_of c.args.watch c.args.finished in
    let same = show_is d s h (g.met.M.Memory.whole m.memory).places in
    seen_unsaid c.args.finished look s d m.death (look d) (ap look same) c.in-Err.ensures.pushes
