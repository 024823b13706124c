use Rattle.std.proofs.Common.{List, ℕ, refl, sym, subst, ◌∙◌}
use Rattle.st_model.specs.Show.{show}
use Rattle.st_chunk.specs.Definitions.{Definition}
use Rattle.st_chunk.specs.Asks.{Source, ask_of, side_of}
use Rattle.st_recover.specs.Commits.{all_of}
use Rattle.st_session.specs.Answers.{browse_course}
use Rattle.st_session.specs.Browsing.{asked_text, memory_of}
use Rattle.st_session.specs.inside.Starving.{TellsOrStarves}
use Rattle.st_session.specs.Keeping.{in_a_store}
use Rattle.st_session.specs.Points.{alive}
use Rattle.st_session.specs.Sources.{last_text, shown_text}
use Rattle.st_call.specs.inside.Telling.{Tells}
use Rattle.st_session.proofs.Lines.{look_is, unsourced}
use Rattle.st_session.proofs.Looking.{memory_shown}
use Rattle.st_session.proofs.Points.{GoesAs, living_answers}
use Rattle.st_session.proofs.Responding.{line_said}
use Rattle.st_session.proofs.Saying.{when_ok}
use Rattle.st_session.proofs.Served.{served_as, served_said}
use Rattle.st_session.proofs.Sourced.{source_counts, source_served, source_starved, source_said}
use Rattle.st_session.proofs.browsing.answer_named.Goals as goal

pub returns-in-Until : goal.returns-in-Until
returns-in-Until g c =
    let called = c.run_until in
    served_as called.ensures (λ none. absurd none) (living_answers g.M.Memory.view g.H.Host c.args.kept.now.machine c.args.kept.now.archive c.args.host.now called.new.kept.machine called.new.kept.archive called.new.host (λ being k. browse_course in_a_store being k (ask_of c.args.ask)) called.result c.requires.alive
    (λ s k shows holds. rw c.in-Until.is (called.ensures.follows (alive s k) (record { stands = (c.requires.alive, shows); holds = holds }))))

pub returns-in-Source : goal.returns-in-Source
returns-in-Source g c =
    let kept = c.args.kept.now in
    let ask = Source (side_of c.in-Source.side) c.in-Source.selector.now in
    let lives = c.requires.alive in
    let old = c.args.host.now in
    let new = c.say_source.new.host in
    let result = c.say_source.result in
    let follows = living_answers g.M.Memory.view g.H.Host kept.machine kept.archive old kept.machine kept.archive new (λ being k. browse_course in_a_store being k (ask_of c.args.ask)) result lives
    (λ s k shows holds.
    let same = memory_shown g.M.Memory.view kept.machine c.memory.result.now c.memory.ensures (c.requires.go_on.may_run lives) (g.met.M.Memory.whole kept.machine.memory) s shows in
    let listed = c.changes.ensures.listed ∙ holds.listed in
    rw c.in-Source.is
    (source_said g.M.Memory.view g.H.Host kept.machine kept.archive k (asked_text (memory_of (show s)) (shown_text (memory_of (show s)) (all_of k)) ask) (alive s k) old new result
    (subst (λ v. TellsOrStarves g.H.Host (asked_text v (shown_text v (all_of k)) ask) old new result) same
    (subst (λ (ds : List Definition). TellsOrStarves g.H.Host (asked_text (g.M.Memory.view c.memory.result.now) (shown_text (g.M.Memory.view c.memory.result.now) ds) ask) old new result) listed c.say_source.ensures))
    (g.met.H.Host.only_now old) holds (lives, shows) refl)) in
    record {
      go_on = when_ok result c.requires.go_on;
      named = refl;
      follows = follows;
      counts = source_counts g.H.Host _ _ _ result c.say_source.ensures;
      served = source_served g.H.Host _ _ _ result c.say_source.ensures;
      starved = λ none. source_starved g.H.Host _ _ _ result c.say_source.ensures none;
    }

pub returns-in_default : goal.returns-in_default
returns-in_default g c =
    let kept = c.args.kept.now in
    let ask = ask_of c.args.ask in
    let lives = c.requires.alive in
    let old = c.args.host.now in
    let new = c.say_asked.new.host in
    let result = c.say_asked.result in
    served_said c.requires.go_on refl c.say_asked.ensures (living_answers g.M.Memory.view g.H.Host kept.machine kept.archive old kept.machine kept.archive new (λ being k. browse_course in_a_store being k ask) result lives
    (λ s k shows holds.
    let same = memory_shown g.M.Memory.view kept.machine c.memory-in_default.result.now c.memory-in_default.ensures (c.requires.go_on.may_run lives) (g.met.M.Memory.whole kept.machine.memory) s shows in
    let listed = c.changes-in_default.ensures.listed ∙ holds.listed in
    subst (λ course. GoesAs g.M.Memory.view g.H.Host kept.archive.name kept.machine kept.archive old new k course result) (sym (look_is in_a_store s k c.args.ask c.in_default.not-Until))
    (line_said g.M.Memory.view g.H.Host kept.machine kept.archive k (asked_text (memory_of (show s)) (shown_text (memory_of (show s)) (all_of k)) ask) (alive s k) old new result
    (subst (λ (text : List ℕ). Tells g.H.Host text old new result) (unsourced (memory_of (show s)) (last_text (all_of k)) (shown_text (memory_of (show s)) (all_of k)) c.args.ask c.in_default.not-Source)
    (subst (λ v. Tells g.H.Host (asked_text v (last_text (all_of k)) ask) old new result) same
    (subst (λ (ds : List Definition). Tells g.H.Host (asked_text (g.M.Memory.view c.memory-in_default.result.now) (last_text ds) ask) old new result) listed c.say_asked.ensures))) holds (lives, shows) refl)))
