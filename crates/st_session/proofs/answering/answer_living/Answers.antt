use Rattle.std.proofs.Common.{refl, sym, subst}
use Rattle.std.specs.Prelude.{Ok, Err}
use Rattle.st_model.specs.Machine.{State}
use Rattle.st_model.specs.Table.{Table}
use Rattle.st_model.specs.Show.{show}
use Rattle.st_model.proofs.Showing.{show_is}
use Rattle.st_debug.specs.Stack.{stack_text}
use Rattle.st_call.specs.inside.Telling.{Tells}
use Rattle.st_session.specs.inside.Standing.{shown_by}
use Rattle.st_protocol.specs.declared.status.Status.TheVariants as status
use Rattle.st_session.specs.Answers.{line_course}
use Rattle.st_session.specs.Keeping.{in_a_store}
use Rattle.st_session.specs.Points.{alive}
use Rattle.st_session.proofs.Responding.{ends_now, stays_now, line_said}
use Rattle.st_session.proofs.Lines.{says_lines, stays_alive}
use Rattle.st_session.proofs.Points.{GoesAs, living_answers}
use Rattle.st_session.proofs.Served.{ample, served_as, served_end, served_none, served_said}
use Rattle.st_session.proofs.answering.answer_living.Goals as goal

pub returns-in-End : goal.returns-in-End
returns-in-End g c =
    let kept = c.args.kept.now in
    let h = c.args.host.now in
    served_end tt tt (ample (Err status.Done) tt) (living_answers g.M.Memory.view g.H.Host kept.machine kept.archive h kept.machine kept.archive h (λ being k. line_course in_a_store being k c.args.request) (Err status.Done) c.requires.alive
    (λ s k shows holds. rw c.in-End.is (ends_now g.M.Memory.view g.H.Host kept.machine kept.archive k status.Done h (g.met.H.Host.only_now h) holds)))

pub returns-in-Wrong : goal.returns-in-Wrong
returns-in-Wrong g c =
    let kept = c.args.kept.now in
    let h = c.args.host.now in
    served_end tt tt (ample (Err (status.Script c.in-Wrong.line)) tt) (living_answers g.M.Memory.view g.H.Host kept.machine kept.archive h kept.machine kept.archive h (λ being k. line_course in_a_store being k c.args.request) (Err (status.Script c.in-Wrong.line)) c.requires.alive
    (λ s k shows holds. rw c.in-Wrong.is (ends_now g.M.Memory.view g.H.Host kept.machine kept.archive k (status.Script c.in-Wrong.line) h (g.met.H.Host.only_now h) holds)))

pub returns-in-Browse : goal.returns-in-Browse
returns-in-Browse g c =
    let kept = c.args.kept.now in
    let h = c.args.host.now in
    served_none c.requires.go_on (living_answers g.M.Memory.view g.H.Host kept.machine kept.archive h kept.machine kept.archive h (λ being k. line_course in_a_store being k c.args.request) (Ok tt) c.requires.alive
    (λ s k shows holds. subst (λ course. GoesAs g.M.Memory.view g.H.Host kept.archive.name kept.machine kept.archive h h k course (Ok tt)) (sym (stays_alive in_a_store s k c.args.request c.in-Browse.is))
    (stays_now g.M.Memory.view g.H.Host kept.machine kept.archive k (alive s k) h (g.met.H.Host.only_now h) holds (c.requires.alive, shows) refl)))

pub returns-in-Run : goal.returns-in-Run
returns-in-Run g c =
    let kept = c.args.kept.now in
    let called = c.run in
    served_as called.ensures (λ none. none) (living_answers g.M.Memory.view g.H.Host kept.machine kept.archive c.args.host.now called.new.kept.machine called.new.kept.archive called.new.host (λ being k. line_course in_a_store being k c.args.request) called.result c.requires.alive
    (λ s k shows holds. rw c.in-Run.is (called.ensures.follows (alive s k) (record { stands = (c.requires.alive, shows); holds = holds }))))

pub returns-in-Trace : goal.returns-in-Trace
returns-in-Trace g c =
    let called = c.run-in-Trace in
    served_as called.ensures (λ none. none) (living_answers g.M.Memory.view g.H.Host c.args.kept.now.machine c.args.kept.now.archive c.args.host.now called.new.kept.machine called.new.kept.archive called.new.host (λ being k. line_course in_a_store being k c.args.request) called.result c.requires.alive
    (λ s k shows holds. rw c.in-Trace.is (called.ensures.follows (alive s k) (record { stands = (c.requires.alive, shows); holds = holds }))))

pub returns-in-Stack : goal.returns-in-Stack
returns-in-Stack g c =
    let kept = c.args.kept.now in
    let old = c.args.host.now in
    let new = c.say_stack.new.host in
    served_said c.requires.go_on refl c.say_stack.ensures (living_answers g.M.Memory.view g.H.Host kept.machine kept.archive old kept.machine kept.archive new (λ being k. line_course in_a_store being k c.args.request) c.say_stack.result c.requires.alive
    (λ s k shows holds.
    let same = show_is (shown_by g.M.Memory.view kept.machine) s shows (g.met.M.Memory.whole kept.machine.memory).places in
    rw c.in-Stack.is (line_said g.M.Memory.view g.H.Host kept.machine kept.archive k (stack_text (show s).memory (show s).registers.active) (alive s k) old new c.say_stack.result
    (subst (λ (x : State Table). Tells g.H.Host (stack_text x.memory x.registers.active) old new c.say_stack.result) (sym same) c.say_stack.ensures) holds (c.requires.alive, shows) refl)))

pub returns-in-Snapshot : goal.returns-in-Snapshot
returns-in-Snapshot g c =
    served_as c.snapshot.ensures (λ none. none) (living_answers g.M.Memory.view g.H.Host c.args.kept.now.machine c.args.kept.now.archive c.args.host.now c.snapshot.new.kept.machine c.snapshot.new.kept.archive c.snapshot.new.host (λ being k. line_course in_a_store being k c.args.request) c.snapshot.result c.requires.alive
    (λ s k shows holds. rw c.in-Snapshot.is (c.snapshot.ensures.follows (alive s k) (record { stands = (c.requires.alive, shows); holds = holds }))))

pub say_answer-requires-clause-saying : goal.say_answer-requires-clause-saying
say_answer-requires-clause-saying g c = says_lines c.args.request c.in_default.not-Run c.in_default.not-Trace c.in_default.not-Stack c.in_default.not-Snapshot c.in_default.not-End c.in_default.not-Wrong c.in_default.not-Define c.in_default.not-Browse
