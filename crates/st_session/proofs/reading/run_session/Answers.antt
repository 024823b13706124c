use Rattle.std.proofs.Common.{◌∷◌, [], inl, inr, refl, ap, Err}
use Rattle.st_store.specs.Names.{IsNoFileOf}
use Rattle.st_protocol.specs.declared.status.Status.TheVariants as status
use Rattle.st_protocol.specs.Courses.{Reply}
use Rattle.st_protocol.proofs.Joins.{obeys_behind, counts_behind, counts_wider, no_read}
use Rattle.st_install.specs.Defining.{installed}
use Rattle.st_recover.specs.Commits.{Commit, OpensAs}
use Rattle.st_recover.specs.inside.Replayings.{losses_of}
use Rattle.st_session.specs.Keeping.{in_a_store}
use Rattle.st_session.specs.Points.{Point}
use Rattle.st_session.specs.FirstLines.{opening_text}
use Rattle.st_session.specs.Sessions.{asked_in, follow_script, follow_told, session}
use Rattle.st_session.specs.inside.Standing.{IsAt}
use Rattle.st_session.proofs.Ending.{did_reply, unsaid_before, told_behind}
use Rattle.st_session.proofs.Holding.{holds_said, holds_rest}
use Rattle.st_session.proofs.Responding.{fails_now}
use Rattle.st_session.proofs.Starving.{never_starved, some_behind}
use Rattle.st_session.proofs.reading.run_session.Goals as goal

pub returns-in-Ok-say_opening-clause-follows : goal.returns-in-Ok-say_opening-clause-follows
unfolding session
returns-in-Ok-say_opening-clause-follows g c = λ told p at.
    let view = g.M.Memory.view in
    let a = c.args.kept.now.archive in
    let name = a.name in
    let text = opening_text c.args.replayed (losses_of c.args.lost.now) in
    let mid = c.say_opening.new.host in
    let new = c.follow_script.new in
    let said = c.in-Ok-say_opening.ensures in
    obeys_behind g.H.Host (OpensAs name) (IsNoFileOf name) (IsAt view g.H.Host new.kept.machine new.kept.archive new.host) (λ (q : Point Commit). q.kept) p.kept (Reply text ∷ []) (follow_script in_a_store installed p (g.S.Source.remaining c.args.script.now)) (Err c.follow_script.result) c.args.host.now mid new.host
    (did_reply g.H.Host (OpensAs name) (IsNoFileOf name) p.kept text c.args.host.now mid said (holds_rest g.H.Host a p.kept at.holds))
    (c.follow_script.ensures.follows told p (record { stands = at.stands; holds = holds_said g.H.Host a p.kept said.says at.holds }))

pub returns-in-Ok-say_opening-clause-told : goal.returns-in-Ok-say_opening-clause-told
returns-in-Ok-say_opening-clause-told g c = λ fault told p at.
    let a = c.args.kept.now.archive in
    let name = a.name in
    let text = opening_text c.args.replayed (losses_of c.args.lost.now) in
    let mid = c.say_opening.new.host in
    let said = c.in-Ok-say_opening.ensures in
    told_behind g.H.Host (OpensAs name) (IsNoFileOf name) p.kept (Reply text ∷ []) (follow_told in_a_store installed p) (g.S.Source.remaining c.args.script.now) (g.S.Source.remaining c.follow_script.new.script) c.args.host.now mid c.follow_script.new.host
    (did_reply g.H.Host (OpensAs name) (IsNoFileOf name) p.kept text c.args.host.now mid said (holds_rest g.H.Host a p.kept at.holds))
    (c.follow_script.ensures.told fault told p (record { stands = at.stands; holds = holds_said g.H.Host a p.kept said.says at.holds }))

pub returns-in-Ok-say_opening-clause-counts : goal.returns-in-Ok-say_opening-clause-counts
returns-in-Ok-say_opening-clause-counts g c = counts_behind g.H.Host _ c.args.host.now c.say_opening.new.host c.follow_script.new.host (Err c.follow_script.result) c.in-Ok-say_opening.ensures.counts.disk c.in-Ok-say_opening.ensures.counts.say c.follow_script.ensures.counts

pub returns-clause-follows : goal.returns-clause-follows
unfolding session
returns-clause-follows g c = λ told p at.
    let a = c.args.kept.now.archive in
    let name = a.name in
    let text = opening_text c.args.replayed (losses_of c.args.lost.now) in
    let new = c.say_opening.new.host in
    unsaid_before g.H.Host (OpensAs name) (IsNoFileOf name) p.kept (IsAt g.M.Memory.view g.H.Host c.args.kept.now.machine a new) (λ (q : Point Commit). q.kept) text (follow_script in_a_store installed p (g.S.Source.remaining c.args.script.now)) c.in-Err-say_opening.status c.args.host.now new
    c.in-Err-say_opening.ensures (holds_rest g.H.Host a p.kept at.holds)

pub returns-clause-told : goal.returns-clause-told
returns-clause-told g c = λ fault told p at. absurd (no_read g.H.Host c.args.host.now c.say_opening.new.host (Err c.in-Err-say_opening.status) c.in-Err-say_opening.ensures.counts (ap Err fault))

pub returns-clause-counts : goal.returns-clause-counts
returns-clause-counts g c = counts_wider g.H.Host _ c.args.host.now c.say_opening.new.host (Err c.in-Err-say_opening.status) c.in-Err-say_opening.ensures.counts

pub returns-in-Err-clause-follows : goal.returns-in-Err-clause-follows
returns-in-Err-clause-follows g c = λ told p at.
    let h = c.args.host.now in
    fails_now g.M.Memory.view g.H.Host c.args.kept.now.machine c.args.kept.now.archive p.kept (session in_a_store installed c.args.replayed (losses_of c.args.lost.now) p (g.S.Source.remaining c.args.script.now)) status.OutOfMemory h tt (g.met.H.Host.only_now h) at.holds

pub returns-in-Ok-say_opening-clause-starved : goal.returns-in-Ok-say_opening-clause-starved
returns-in-Ok-say_opening-clause-starved g c = λ none told. inr (λ p at.
    let a = c.args.kept.now.archive in
    let name = a.name in
    let text = opening_text c.args.replayed (losses_of c.args.lost.now) in
    let mid = c.say_opening.new.host in
    let said = c.in-Ok-say_opening.ensures in
    some_behind in_a_store installed g.H.Host (OpensAs name) (IsNoFileOf name) p c.args.replayed (losses_of c.args.lost.now) (asked_in (g.S.Source.remaining c.args.script.now)) c.args.host.now mid c.follow_script.new.host
    (did_reply g.H.Host (OpensAs name) (IsNoFileOf name) p.kept text c.args.host.now mid said (holds_rest g.H.Host a p.kept at.holds))
    (c.follow_script.ensures.starved none told p (record { stands = at.stands; holds = holds_said g.H.Host a p.kept said.says at.holds })))

pub returns-clause-starved : goal.returns-clause-starved
returns-clause-starved g c = λ none told. never_starved (Err c.in-Err-say_opening.status) c.in-Err-say_opening.ensures.fault (ap Err none)

pub returns-in-Err-clause-starved : goal.returns-in-Err-clause-starved
returns-in-Err-clause-starved g c = λ none told. inl refl
