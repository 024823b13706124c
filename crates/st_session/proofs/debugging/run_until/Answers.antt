use Rattle.std.proofs.Common.{◌≡◌, Option, Some, None, refl, sym, ap, subst, ◌∙◌}
use Rattle.std.specs.Prelude.{option_map}
use Rattle.st_model.specs.Values.{Value, value}
use Rattle.st_model.specs.Show.{show}
use Rattle.st_browse.specs.Asked.{method_of_side}
use Rattle.st_call.specs.Replies.{missing_text}
use Rattle.st_chunk.specs.Asks.{side_of}
use Rattle.st_session.specs.Answers.{going_on, until_course}
use Rattle.st_session.specs.Browsing.{memory_of}
use Rattle.st_session.specs.Keeping.{in_a_store}
use Rattle.st_session.specs.Points.{alive}
use Rattle.st_session.proofs.Looking.{memory_shown}
use Rattle.st_session.proofs.Points.{GoesAs, living_answers}
use Rattle.st_session.proofs.Responding.{line_said}
use Rattle.st_session.proofs.Served.{served_as, served_said}
use Rattle.st_session.proofs.debugging.run_until.Goals as goal

pub returns-in-Some : goal.returns-in-Some
returns-in-Some g c =
    let kept = c.args.kept.now in
    let called = c.run in
    let side = side_of c.args.side in
    let selector = c.args.selector.now in
    served_as called.ensures (λ none. none) (living_answers g.M.Memory.view g.H.Host kept.machine kept.archive c.args.host.now called.new.kept.machine called.new.kept.archive called.new.host
    (λ being k. going_on in_a_store (λ s d. until_course in_a_store c.args.cycles s d (method_of_side (memory_of (show s)) side selector)) being k) called.result c.requires.alive
    (λ s k shows holds.
    let same = memory_shown g.M.Memory.view kept.machine c.memory.result.now c.memory.ensures (c.requires.go_on.may_run c.requires.alive) (g.met.M.Memory.whole kept.machine.memory) s shows in
    let there : Some (value c.in-Some.method) ≡ method_of_side (memory_of (show s)) side selector =
    ap (option_map value) (sym c.in-Some.is) ∙ (c.find_method.ensures ∙ ap (λ v. method_of_side v side selector) same) in
    subst (λ (o : Option Value). GoesAs g.M.Memory.view g.H.Host kept.archive.name called.new.kept.machine called.new.kept.archive c.args.host.now called.new.host k (until_course in_a_store c.args.cycles s k o) called.result) there
    (called.ensures.follows (alive s k) (record { stands = (c.requires.alive, shows); holds = holds }))))

pub returns-in-None : goal.returns-in-None
returns-in-None g c =
    let kept = c.args.kept.now in
    let old = c.args.host.now in
    let new = c.say_reply.new.host in
    let side = side_of c.args.side in
    let selector = c.args.selector.now in
    served_said c.requires.go_on refl c.say_reply.ensures (living_answers g.M.Memory.view g.H.Host kept.machine kept.archive old kept.machine kept.archive new
    (λ being k. going_on in_a_store (λ s d. until_course in_a_store c.args.cycles s d (method_of_side (memory_of (show s)) side selector)) being k) c.say_reply.result c.requires.alive
    (λ s k shows holds.
    let same = memory_shown g.M.Memory.view kept.machine c.memory.result.now c.memory.ensures (c.requires.go_on.may_run c.requires.alive) (g.met.M.Memory.whole kept.machine.memory) s shows in
    let gone : None ≡ method_of_side (memory_of (show s)) side selector =
    ap (option_map value) (sym c.in-None.is) ∙ (c.find_method.ensures ∙ ap (λ v. method_of_side v side selector) same) in
    subst (λ (o : Option Value). GoesAs g.M.Memory.view g.H.Host kept.archive.name kept.machine kept.archive old new k (until_course in_a_store c.args.cycles s k o) c.say_reply.result) gone
    (line_said g.M.Memory.view g.H.Host kept.machine kept.archive k missing_text (alive s k) old new c.say_reply.result c.say_reply.ensures holds (c.requires.alive, shows) refl)))
