use Rattle.std.proofs.Common.{refl, sym, subst}
use Rattle.st_chunk.specs.Scripts.{asked_at}
use Rattle.st_install.specs.Defining.{installed}
use Rattle.st_session.specs.Keeping.{in_a_store}
use Rattle.st_session.proofs.Following.{follow_one}
use Rattle.st_session.proofs.Points.{GoesAs}
use Rattle.st_session.proofs.Responding.{stays_now}
use Rattle.st_session.proofs.Served.{served_as, served_none}
use Rattle.st_session.proofs.serving.follow.Goals as goal

pub returns-in-Some-death : goal.returns-in-Some-death
returns-in-Some-death g c =
    let called = c.answer_dead in
    let answers = called.ensures c.args.reader.now.place in
    served_as answers (λ none. absurd none) (λ p at. rw c.in-Some.is (subst (λ x. GoesAs g.M.Memory.view g.H.Host c.args.kept.now.archive.name c.args.kept.now.machine c.args.kept.now.archive c.args.host.now called.new.host p.kept x called.result)
    (sym (follow_one in_a_store installed p (asked_at c.args.reader.now.place c.in-Some.request))) (answers.follows p at)))

pub returns-in-None-death : goal.returns-in-None-death
returns-in-None-death g c =
    let called = c.answer_request in
    served_as called.ensures (λ none. none) (λ p at. rw c.in-Some.is (subst (λ x. GoesAs g.M.Memory.view g.H.Host c.args.kept.now.archive.name called.new.kept.machine called.new.kept.archive c.args.host.now called.new.host p.kept x called.result)
    (sym (follow_one in_a_store installed p (asked_at c.args.reader.now.place c.in-Some.request))) (called.ensures.follows p at)))

pub returns-in-None : goal.returns-in-None
returns-in-None g c = served_none c.requires.go_on (λ p at.
    rw c.in-None.is (stays_now g.M.Memory.view g.H.Host c.args.kept.now.machine c.args.kept.now.archive p.kept p c.args.host.now (g.met.H.Host.only_now c.args.host.now) at.holds at.stands refl))
