use Rattle.std.proofs.Common.{rules, Ok, Some, subst, ◌∙◌}
use Rattle.st_frames.specs.inside.Shown.{shown}
use Rattle.st_machine.specs.inside.Cycling.{GoesCalmly, Follows}
use Rattle.st_machine.proofs.Foreseeing.{followed}
use Rattle.st_machine.proofs.cycling.do_next.Goals as goal

pub returns-in-Some-clause-step : goal.returns-in-Some-clause-step
returns-in-Some-clause-step g c =
    let v = g.M.Memory.view c.args.m.now in
    let f = c.args.f.now in
    let w = c.args.w.now in
    let one = c.do_straight.new in
    let d = shown (g.M.Memory.view one.near.memory.now) one.f w in
    let last = c.finish_straight in
    let e = shown (g.M.Memory.view last.new.m) last.new.f last.new.w in
    let end = c.in-Some.end in
    let goes = subst (λ y. GoesCalmly (shown (g.M.Memory.view c.new-near.result.memory.now) f c.fetch.new.r.world.now) one.r.left (Ok y) (shown (g.M.Memory.view one.near.memory.now) one.f c.fetch.new.r.world.now))
    c.in-Some.is c.in_ok-end.ensures.step in
    followed (shown v f w) d e one.r.left last.result end
    (subst (λ m. GoesCalmly (shown (g.M.Memory.view m) f w) one.r.left (Ok (Some end)) d) c.new-near.ensures.memory
    (subst (λ x. GoesCalmly (shown (g.M.Memory.view c.new-near.result.memory.now) f x) one.r.left (Ok (Some end)) (shown (g.M.Memory.view one.near.memory.now) one.f x)) (c.in_ok-code.ensures.world ∙ c.load-r.ensures.world) goes))
    (subst (λ m. Follows one.r.left end (shown (g.M.Memory.view m) one.f w) last.result e) (search rules) last.ensures.follows)
