use Rattle.std.proofs.Common.{subst, ◌∙◌}
use Rattle.st_machine.specs.Prepared.{prepared, PreparedAs}
use Rattle.st_session.specs.inside.Standing.{shown_by}
use Rattle.st_session.specs.Watching.{look_of}
use Rattle.st_session.proofs.Seen.{dead_before, went_before, watched_by}
use Rattle.st_session.proofs.watching.push_watched.Goals as goal

pub push_seen-requires-clause-ready : goal.push_seen-requires-clause-ready
push_seen-requires-clause-ready g c = c.prepare.ensures.ready (c.prepare.ensures.death c.requires.alive ∙ c.in-None.is)

pub push_seen-requires-clause-alive : goal.push_seen-requires-clause-alive
push_seen-requires-clause-alive g c = c.prepare.ensures.death c.requires.alive ∙ c.in-None.is

pub returns-in-Some-clause-pushes : goal.returns-in-Some-clause-pushes
returns-in-Some-clause-pushes g c = λ s h.
    let new = c.prepare.new.self in
    let d = shown_by g.M.Memory.view new in
    let alive = c.requires.alive in
    dead_before c.args.finished (look_of c.args.watch c.args.finished) s d c.in-Some.cause (subst (λ x. PreparedAs x d (prepared s)) c.in-Some.is (c.prepare.ensures.prepares alive s h)) new.death
    (c.prepare.ensures.death alive ∙ c.in-Some.is) c.push_death.result c.push_death.ensures.over c.push_death.ensures.pushes

pub returns-in-None-clause-pushes : goal.returns-in-None-clause-pushes
returns-in-None-clause-pushes g c = λ s h.
    let d = shown_by g.M.Memory.view c.prepare.new.self in
    let new = c.push_seen.new.machine in
    let look = look_of c.args.watch c.args.finished in
    let z = went_before c.args.finished look s d (subst (λ x. PreparedAs x d (prepared s)) c.in-None.is (c.prepare.ensures.prepares c.requires.alive s h)) in
    watched_by c.args.finished look s d z.state z.goes new.death (shown_by g.M.Memory.view new) (c.push_seen.ensures.pushes z.state z.shows)
