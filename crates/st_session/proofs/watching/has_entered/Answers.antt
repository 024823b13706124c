use Rattle.std.proofs.Common.{◌<◌, sym, ap, ◌∙◌, arith}
use Rattle.st_model.specs.Values.{value}
use Rattle.st_frames.specs.inside.Shown.{shown}
use Rattle.st_debug.specs.Watched.{is_entered}
use Rattle.st_session.specs.inside.Standing.{shown_by}
use Rattle.st_session.specs.inside.Watched.{is_stop}
use Rattle.st_session.specs.Watching.{entry_seen}
use Rattle.st_session.proofs.Seen.{first_goes, later_stops}
use Rattle.st_session.proofs.watching.has_entered.Goals as goal

pub returns-then-finished-eq0 : goal.returns-then-finished-eq0
returns-then-finished-eq0 g c =
    let method = value c.args.method in
    let d = shown_by g.M.Memory.view c.args.machine.now in
    first_goes method d ∙ ap (λ n. is_stop (entry_seen method n d)) (sym c.if-finished-eq0.true)

pub returns : goal.returns
returns g c =
    let view = g.M.Memory.view in
    let m = c.args.machine.now in
    let method = value c.args.method in
    let none = c.if-finished-eq0.false in
    let later : 0 < c.args.finished = omega (arith, none) in
    c.entered.ensures m.world ∙ ((λ i. is_entered (shown (view (c.memory.ensures i)) (c.frame.ensures i) m.world) method) ∙ later_stops method c.args.finished (shown_by view m) later)
