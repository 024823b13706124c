use Rattle.std.proofs.Common.{[], refl, Err}
use Rattle.st_protocol.specs.declared.status.Status.TheVariants as status
use Rattle.st_recover.specs.Commits.{Commit}
use Rattle.st_session.specs.Answers.{line_course, living_line}
use Rattle.st_session.specs.Keeping.{in_a_store}
use Rattle.st_session.proofs.Responding.{lines_said, lines_cut}
use Rattle.st_session.proofs.Lines.{lines_keep}
use Rattle.st_session.proofs.Points.{shown_births, living_answers}
use Rattle.st_session.proofs.Saying.{tells_pushed, tells_cut, when_ok}
use Rattle.st_session.proofs.Starving.{never_starved}
use Rattle.st_session.proofs.Served.{ample}
use Rattle.st_session.proofs.answering.say_answer.Goals as goal

-- some commit, where one is only named
some_commit : Commit
some_commit = record { image = []; before = []; definitions = [] }

pub returns-in-Ok : goal.returns-in-Ok
returns-in-Ok g c =
    let kept = c.args.kept.now in
    let n = c.push_answer.new.machine in
    let some = shown_births g.M.Memory.view kept.machine (g.met.M.Memory.whole kept.machine.memory) (c.requires.go_on.may_run c.requires.alive) in
    let follows = living_answers g.M.Memory.view g.H.Host kept.machine kept.archive c.args.host.now n kept.archive c.finish.new.host (λ being k. line_course in_a_store being k c.args.request) c.finish.result c.requires.alive
    (λ s k shows holds. lines_said g.M.Memory.view g.H.Host n kept.archive k (living_line in_a_store s k c.args.request) (lines_keep in_a_store s k c.args.request c.requires.saying) _ _ _ _ _ _ c.new-out.ensures (c.in-Ok.ensures.pushes s k shows) c.finish.ensures holds) in
    record {
      go_on = when_ok c.finish.result (record { may_run = c.push_answer.ensures.may_run; is_open = c.requires.go_on.is_open });
      named = refl;
      follows = follows;
      counts = (tells_pushed g.H.Host _ _ _ _ _ _ _ c.new-out.ensures (c.in-Ok.ensures.pushes some.0 some_commit some.1).pushes c.finish.ensures).counts;
      served = c.finish.ensures.served;
      starved = λ none. never_starved c.finish.result c.finish.ensures.fault none;
    }

pub returns-in-Err : goal.returns-in-Err
returns-in-Err g c =
    let kept = c.args.kept.now in
    let n = c.push_answer.new.machine in
    let some = shown_births g.M.Memory.view kept.machine (g.met.M.Memory.whole kept.machine.memory) (c.requires.go_on.may_run c.requires.alive) in
    let follows = living_answers g.M.Memory.view g.H.Host kept.machine kept.archive c.args.host.now n kept.archive c.push_answer.new.host (λ being k. line_course in_a_store being k c.args.request) _ c.requires.alive
    (λ s k shows holds. lines_cut g.M.Memory.view g.H.Host n kept.archive k (living_line in_a_store s k c.args.request) (lines_keep in_a_store s k c.args.request c.requires.saying) _ _ _ _ _ c.new-out.ensures (c.in-Err.ensures.pushes s k shows) holds) in
    record {
      go_on = tt;
      named = refl;
      follows = follows;
      counts = (tells_cut g.H.Host _ _ _ _ _ _ c.new-out.ensures (c.in-Err.ensures.pushes some.0 some_commit some.1).pushes).counts;
      served = tt;
      starved = ample (Err status.SayFault) tt;
    }
