use Rattle.std.proofs.Common.{ap, sym, subst}
use Rattle.st_model.specs.Show.{Shows}
use Rattle.st_frames.specs.inside.Shown.{IsReady, shown}
use Rattle.st_chunk.specs.inside.ScriptDefinitions.{definition_of}
use Rattle.st_install.specs.Defining.{installed}
use Rattle.st_install.specs.inside.Prepareds.{IsPrepared}
use Rattle.st_changes.specs.Last.{HasSelector}
use Rattle.st_session.specs.Answers.{definition_course}
use Rattle.st_session.specs.Keeping.{in_a_store}
use Rattle.st_call.specs.Replies.{accepted_line}
use Rattle.st_protocol.proofs.Joins.{counts_behind}
use Rattle.st_recover.proofs.Selectors.{prepared_selector}
use Rattle.st_session.proofs.Accepting.{accepted_said, accepted_unkept}
use Rattle.st_install.proofs.Compiling.{is_accepted}
use Rattle.st_session.proofs.Points.{living_answers}
use Rattle.st_session.proofs.Saying.{when_ok}
use Rattle.st_session.proofs.Served.{keeping_serves}
use Rattle.st_session.proofs.Starving.{never_starved}
use Rattle.st_session.proofs.serving.accept.Goals as goal

pub returns-in-Ok : goal.returns-in-Ok
returns-in-Ok g c =
    let m = c.args.kept.now.machine in
    let d = definition_of c.args.definition.now in
    let n = record m { memory = c.carry_out-selector.new.m } in
    let b = c.accept.new.self in
    let same = sym c.memory_mut.ensures.value in
    let ready = subst (λ x. IsReady (g.M.Memory.view x) m.frame m.world) same (c.requires.go_on.may_run c.requires.alive) in
    let prepared = subst (λ x. IsPrepared (g.M.Memory.view x) d c.args.prepared) same c.requires.prepared in
    let follows = living_answers g.M.Memory.view g.H.Host m c.args.kept.now.archive c.args.host.now n b c.say_reply.new.host (λ being k. definition_course in_a_store installed being k d) c.say_reply.result c.requires.alive
    (λ s k shows holds.
    accepted_said g.M.Memory.view g.H.Host c.args.kept.now.archive.name n b s k d c.carry_out-selector.result (installed d s) _ c.args.host.now c.accept.new.host c.say_reply.new.host c.say_reply.result c.accept.ensures.named (c.in-Ok.ensures.obeys k holds)
    (c.carry_out-selector.ensures.installs d m.frame m.world s prepared ready (subst (λ x. Shows (shown (g.M.Memory.view x) m.frame m.world) s) same shows)) c.requires.alive
    (ap (accepted_line d.class d.meta) c.deref-in-Ok.ensures.value) c.say_reply.ensures) in
    record {
      go_on = when_ok c.say_reply.result (record { may_run = λ lives. c.carry_out-selector.ensures.ready m.frame m.world ready; is_open = c.in-Ok.ensures.«open» });
      named = c.accept.ensures.named;
      follows = follows;
      counts = counts_behind g.H.Host ⊥ c.args.host.now c.accept.new.host c.say_reply.new.host c.say_reply.result c.in-Ok.ensures.counts.disk c.in-Ok.ensures.counts.say c.say_reply.ensures.counts;
      served = c.say_reply.ensures.served;
      starved = λ none. never_starved c.say_reply.result c.say_reply.ensures.fault none;
    }

pub returns-in-Err : goal.returns-in-Err
returns-in-Err g c =
    let m = c.args.kept.now.machine in
    let d = definition_of c.args.definition.now in
    let b = c.accept.new.self in
    let follows = living_answers g.M.Memory.view g.H.Host m c.args.kept.now.archive c.args.host.now m b c.accept.new.host (λ being k. definition_course in_a_store installed being k d) _ c.requires.alive
    (λ s k shows holds.
    let is = is_accepted (g.M.Memory.view m.memory) d c.args.prepared c.requires.prepared (g.met.M.Memory.whole m.memory) m.frame m.world (c.requires.go_on.may_run c.requires.alive) s shows in
    accepted_unkept g.M.Memory.view g.H.Host c.args.kept.now.archive.name m b s k d (installed d s) _ is.0 c.in-Err.status c.args.host.now c.accept.new.host is.1 (c.in-Err.ensures.obeys k holds)) in
    record {
      go_on = tt;
      named = c.accept.ensures.named;
      follows = follows;
      counts = c.in-Err.ensures.counts;
      served = keeping_serves c.in-Err.status c.in-Err.ensures.kind;
      starved = λ none. c.in-Err.ensures.untouched (λ disk. cc);
    }

pub accept-requires-clause-selector : goal.accept-requires-clause-selector
accept-requires-clause-selector g c =
    let d = definition_of c.args.definition.now in
    subst (HasSelector d.text) (sym c.deref.ensures.value) (prepared_selector (g.M.Memory.view c.args.kept.now.machine.memory) d c.args.prepared c.requires.prepared)

pub carry_out-selector-requires : goal.carry_out-selector-requires
carry_out-selector-requires g c =
    let d = definition_of c.args.definition.now in
    record { prepared = (d, subst (λ x. IsPrepared (g.M.Memory.view x) d c.args.prepared) (sym c.memory_mut.ensures.value) c.requires.prepared) }
