use Rattle.std.proofs.Common.{◌≡◌, ◌-◌, ap, Err}
use Rattle.st_session.specs.inside.Standing.{shown_by}
use Rattle.st_session.specs.inside.Watched.{watched_stretch}
use Rattle.st_session.specs.Watching.{look_of}
use Rattle.st_session.proofs.Points.{shown_births}
use Rattle.st_session.proofs.Saying.{stretch_said, stretch_unsaid, stretch_cut}
use Rattle.st_session.proofs.Starving.{never_starved}
use Rattle.st_protocol.specs.declared.status.Status.TheVariants.{OutOfMemory}
use Rattle.st_session.proofs.saving.say_stretch.Goals as goal

pub returns-in-Ok-finish-clause-says : goal.returns-in-Ok-finish-clause-says
returns-in-Ok-finish-clause-says g c = λ s h.
    let m = c.push_run_on.new.machine in
    stretch_said g.H.Host m.death (shown_by g.M.Memory.view m) (watched_stretch (look_of c.args.watch) c.args.finished (c.args.cycles - c.args.finished) s) _ _ _ _ _ _ c.new-out.ensures (c.in-Ok.ensures.pushes s h) c.in-Ok-finish.ensures

pub returns-in-Err-finish-clause-says : goal.returns-in-Err-finish-clause-says
returns-in-Err-finish-clause-says g c = λ s h.
    let m = c.push_run_on.new.machine in
    stretch_unsaid g.H.Host m.death (shown_by g.M.Memory.view m) (watched_stretch (look_of c.args.watch) c.args.finished (c.args.cycles - c.args.finished) s) _ _ _ _ _ _ _ c.new-out.ensures (c.in-Ok.ensures.pushes s h) c.in-Err-finish.ensures

pub returns-in-Ok-finish-clause-counts : goal.returns-in-Ok-finish-clause-counts
returns-in-Ok-finish-clause-counts g c =
    let m = c.push_run_on.new.machine in
    let some = shown_births g.M.Memory.view c.args.machine.now (g.met.M.Memory.whole c.args.machine.now.memory) c.requires.ready in
    (stretch_said g.H.Host m.death (shown_by g.M.Memory.view m) (watched_stretch (look_of c.args.watch) c.args.finished (c.args.cycles - c.args.finished) some.0) _ _ _ _ _ _ c.new-out.ensures (c.in-Ok.ensures.pushes some.0 some.1) c.in-Ok-finish.ensures).tells.counts

pub returns-in-Err-finish-clause-counts : goal.returns-in-Err-finish-clause-counts
returns-in-Err-finish-clause-counts g c =
    let m = c.push_run_on.new.machine in
    let some = shown_births g.M.Memory.view c.args.machine.now (g.met.M.Memory.whole c.args.machine.now.memory) c.requires.ready in
    (stretch_unsaid g.H.Host m.death (shown_by g.M.Memory.view m) (watched_stretch (look_of c.args.watch) c.args.finished (c.args.cycles - c.args.finished) some.0) _ _ _ _ _ _ _ c.new-out.ensures (c.in-Ok.ensures.pushes some.0 some.1) c.in-Err-finish.ensures).tells.counts

pub returns-in-Err-clause-counts : goal.returns-in-Err-clause-counts
returns-in-Err-clause-counts g c =
    let m = c.push_run_on.new.machine in
    let some = shown_births g.M.Memory.view c.args.machine.now (g.met.M.Memory.whole c.args.machine.now.memory) c.requires.ready in
    (stretch_cut g.H.Host m.death (shown_by g.M.Memory.view m) (watched_stretch (look_of c.args.watch) c.args.finished (c.args.cycles - c.args.finished) some.0) _ _ _ _ _ c.new-out.ensures (c.in-Err.ensures.pushes some.0 some.1)).tells.counts

pub returns-in-Err-finish-clause-ample : goal.returns-in-Err-finish-clause-ample
returns-in-Err-finish-clause-ample g c = λ none. never_starved (Err c.in-Err-finish.status) c.in-Err-finish.ensures.fault (let same : c.in-Err-finish.status ≡ OutOfMemory = cc in ap Err same)
