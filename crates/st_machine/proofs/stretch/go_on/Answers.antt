use Rattle.std.proofs.Common.{rules, ◌≡◌, Ok, Err, Some, None, refl, sym, subst, ap, ◌∙◌, arith}
use Rattle.std.specs.Prelude.{IfOk}
use Rattle.std.proofs.lemmas.Bool.Decides.{nat_tests}
use Rattle.st_model.specs.declared.deed.Deed.TheVariants.{Nothing}
use Rattle.st_frames.specs.inside.Shown.{shown, IsReady}
use Rattle.st_machine.specs.declared.doing.StretchEnd.TheVariants.{ToForesee}
use Rattle.st_machine.specs.inside.Cycling.{GoesCalmly}
use Rattle.st_machine.specs.inside.Strides.{SoFar, StretchEnds}
use Rattle.st_machine.proofs.Runs.{none_so_far}
use Rattle.st_machine.proofs.Strides.{calm_goes, calm_ends}
use Rattle.st_machine.proofs.stretch.go_on.Goals as goal

pub loop-done-init : goal.loop-done-init
loop-done-init g c =
    let f = c.args.f.now in
    let w = c.args.w.now in
    let same = sym c.new-near.ensures.memory in
    record {
      room = let asked = c.if-not-has_room.ensures in grind (arith, nat_tests, asked);
      ready = subst (λ m. IsReady (g.M.Memory.view m) f w) same c.requires.ready;
      same = c.load-r.ensures.registers;
      world = c.load-r.ensures.world;
      name = refl;
      shows = λ s h. subst (λ m. SoFar 0 s (shown (g.M.Memory.view m) f w)) same (none_so_far s (shown (g.M.Memory.view c.args.m.now) f w) h);
    }

pub returns-then-not-has_room-clause-goes : goal.returns-then-not-has_room-clause-goes
returns-then-not-has_room-clause-goes g c = λ s h.
    let v = g.M.Memory.view c.args.m.now in
    let f = c.args.f.now in
    let w = c.args.w.now in
    let x = Ok (Some ToForesee) in
    subst (λ m. StretchEnds 0 s Nothing x (shown (g.M.Memory.view m) f w)) (search rules)
    (subst (λ m. StretchEnds 0 s Nothing x (shown (g.M.Memory.view m) f w)) (sym c.new-near.ensures.memory)
    (calm_ends v f w (g.met.M.Memory.whole c.args.m.now) c.requires.ready 0 s Nothing x (shown v f w) c.requires.calm (none_so_far s (shown v f w) h) refl))

pub returns-in-Ok-Some-clause-goes : goal.returns-in-Ok-Some-clause-goes
returns-in-Ok-Some-clause-goes g c = λ s h.
    let v = g.M.Memory.view c.loop-done.near.memory.now in
    let one = c.do_calmly.new in
    let f = c.loop-done.f in
    let w = c.args.w.now in
    let far = c.loop-done.invariant in
    let x = Ok (Some c.in-Ok-Some.end) in
    let end : c.do_calmly.result ≡ x = c.in-Ok-Some.is ∙ ap (λ y. Ok y) c.in-Ok-Some.field-0-is in
    let step = subst (λ y. GoesCalmly (shown v f c.loop-done.r.world.now) one.r.left y (shown (g.M.Memory.view one.near.memory.now) one.f c.loop-done.r.world.now)) end c.do_calmly.ensures.step in
    subst (λ m. StretchEnds c.loop-done.done s one.r.left x (shown (g.M.Memory.view m) one.f w)) (search rules)
    (calm_ends v f w (g.met.M.Memory.whole c.loop-done.near.memory.now) far.ready c.loop-done.done s one.r.left x (shown (g.M.Memory.view one.near.memory.now) one.f w) c.requires.calm (far.shows s h)
    (subst (λ y. GoesCalmly (shown v f y) one.r.left x (shown (g.M.Memory.view one.near.memory.now) one.f y)) far.world step))

pub returns-in-Err-clause-goes : goal.returns-in-Err-clause-goes
returns-in-Err-clause-goes g c = λ s h.
    let v = g.M.Memory.view c.loop-done.near.memory.now in
    let one = c.do_calmly.new in
    let f = c.loop-done.f in
    let w = c.args.w.now in
    let far = c.loop-done.invariant in
    let x = Err c.in-Err.cause in
    subst (λ m. StretchEnds c.loop-done.done s one.r.left x (shown (g.M.Memory.view m) one.f w)) (search rules)
    (calm_ends v f w (g.met.M.Memory.whole c.loop-done.near.memory.now) far.ready c.loop-done.done s one.r.left x (shown (g.M.Memory.view one.near.memory.now) one.f w) c.requires.calm (far.shows s h)
    (subst (λ y. GoesCalmly (shown v f y) one.r.left x (shown (g.M.Memory.view one.near.memory.now) one.f y)) far.world c.in-Err.ensures.step))

pub loop-done-preserved : goal.loop-done-preserved
loop-done-preserved g c =
    let v = g.M.Memory.view c.loop-done.near.memory.now in
    let u = g.M.Memory.view c.do_calmly.new.near.memory.now in
    let f = c.loop-done.f in
    let q = c.do_calmly.new.f in
    let w = c.args.w.now in
    let far = c.loop-done.invariant in
    let one = c.do_calmly.ensures in
    let left = c.do_calmly.new.r.left in
    let end : c.do_calmly.result ≡ Ok None = c.in-Ok-None.is ∙ ap (λ x. Ok x) c.in-Ok-None.field-0-is in
    let step = subst (λ y. GoesCalmly (shown v f c.loop-done.r.world.now) left y (shown u q c.loop-done.r.world.now)) end one.step in
    record {
      room = one.room end;
      ready = subst (λ x. IsReady u q x) far.world (subst (λ y. IfOk y (λ e. IsReady u q c.loop-done.r.world.now)) end one.ready);
      same = one.same end;
      world = one.world ∙ far.world;
      name = one.same_memory ∙ far.name;
      shows = λ s h. calm_goes v f w (g.met.M.Memory.whole c.loop-done.near.memory.now) far.ready c.loop-done.done s left (shown u q w) c.requires.calm (far.shows s h)
          (subst (λ x. GoesCalmly (shown v f x) left (Ok None) (shown u q x)) far.world step);
    }

pub returns-clause-goes : goal.returns-clause-goes
returns-clause-goes g c = λ s h.
    let f = c.loop-done.f in
    let w = c.args.w.now in
    subst (λ y. SoFar c.args.n s (shown (g.M.Memory.view y) f w)) (search rules)
    (subst (λ k. SoFar k s (shown (g.M.Memory.view c.loop-done.near.memory.now) f w)) (search rules) (c.loop-done.invariant.shows s h))
