use Rattle.std.proofs.Common.{refl, sym, ap, subst, ◌∙◌}
use Rattle.std.specs.Prelude.{Err}
use Rattle.st_model.specs.Text.{dead_text}
use Rattle.st_chunk.specs.declared.request.Request.TheVariants as request
use Rattle.st_chunk.specs.Scripts.{asked_at}
use Rattle.st_install.specs.Defining.{installed}
use Rattle.st_protocol.specs.declared.status.Status.TheVariants as status
use Rattle.st_session.specs.Answers.{answer}
use Rattle.st_session.specs.Keeping.{in_a_store}
use Rattle.st_session.specs.Points.{gone}
use Rattle.st_session.proofs.Responding.{ends_now, line_said}
use Rattle.st_session.proofs.Lines.{asked_line, dead_asked}
use Rattle.st_session.proofs.Points.{GoesAs, dead_answers}
use Rattle.st_session.proofs.Served.{ample, served_end, served_said}
use Rattle.st_session.proofs.answering.answer_dead.Goals as goal

pub returns-in-End : goal.returns-in-End
returns-in-End g c = λ place.
    let kept = c.args.kept.now in
    let h = c.args.host.now in
    served_end tt tt (ample (Err status.Done) tt) (dead_answers g.M.Memory.view g.H.Host kept.machine kept.archive h kept.machine kept.archive h (λ being k. answer in_a_store installed (record { being = being; kept = k }) (asked_at place c.args.request)) (Err status.Done) c.args.cause c.requires.dead
    (λ k holds. subst (λ x. GoesAs g.M.Memory.view g.H.Host kept.archive.name kept.machine kept.archive h h k (answer in_a_store installed (gone c.args.cause k) x) (Err status.Done)) (sym (ap (asked_at place) c.in-End.is ∙ asked_line place request.End (λ e. cc) (λ e. cc)))
    (ends_now g.M.Memory.view g.H.Host kept.machine kept.archive k status.Done h (g.met.H.Host.only_now h) holds)))

pub returns-in-Wrong : goal.returns-in-Wrong
returns-in-Wrong g c = λ place.
    let kept = c.args.kept.now in
    let h = c.args.host.now in
    let end = status.Script c.in-Wrong.line in
    served_end tt tt (ample (Err (status.Script c.in-Wrong.line)) tt) (dead_answers g.M.Memory.view g.H.Host kept.machine kept.archive h kept.machine kept.archive h (λ being k. answer in_a_store installed (record { being = being; kept = k }) (asked_at place c.args.request)) (Err end) c.args.cause c.requires.dead
    (λ k holds. subst (λ x. GoesAs g.M.Memory.view g.H.Host kept.archive.name kept.machine kept.archive h h k (answer in_a_store installed (gone c.args.cause k) x) (Err end)) (sym (ap (asked_at place) c.in-Wrong.is ∙ asked_line place (request.Wrong c.in-Wrong.line) (λ e. cc) (λ e. cc)))
    (ends_now g.M.Memory.view g.H.Host kept.machine kept.archive k end h (g.met.H.Host.only_now h) holds)))

pub returns-in_default : goal.returns-in_default
returns-in_default g c = λ place.
    let kept = c.args.kept.now in
    let old = c.args.host.now in
    let new = c.say_reply.new.host in
    let cause = c.args.cause in
    served_said c.requires.go_on refl c.say_reply.ensures (dead_answers g.M.Memory.view g.H.Host kept.machine kept.archive old kept.machine kept.archive new (λ being k. answer in_a_store installed (record { being = being; kept = k }) (asked_at place c.args.request)) c.say_reply.result cause c.requires.dead
    (λ k holds. subst (λ course. GoesAs g.M.Memory.view g.H.Host kept.archive.name kept.machine kept.archive old new k course c.say_reply.result) (sym (dead_asked in_a_store installed cause k place c.args.request c.in_default.not-End c.in_default.not-Wrong))
    (line_said g.M.Memory.view g.H.Host kept.machine kept.archive k (dead_text 0 cause) (gone cause k) old new c.say_reply.result c.say_reply.ensures holds c.requires.dead refl)))
