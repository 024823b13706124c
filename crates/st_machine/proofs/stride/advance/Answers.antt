use Rattle.std.proofs.Common.{◌≡◌, Ok, Some, None, sym, subst, ap, ◌∙◌}
use Rattle.std.specs.Prelude.{OnOk}
use Rattle.st_model.specs.inside.Calls.{transition_of}
use Rattle.st_frames.specs.inside.Shown.{shown, IsReady}
use Rattle.st_machine.specs.inside.Cycling.{IsCalm}
use Rattle.st_machine.specs.inside.Runs.{ending_of}
use Rattle.st_machine.specs.inside.Strides.{StretchEnds}
use Rattle.st_machine.proofs.Runs.{none_so_far}
use Rattle.st_machine.proofs.Strides.{ready_next, calm_next, rest_ends}
use Rattle.st_machine.proofs.stride.advance.Goals as goal

pub returns-then-not-is_calm-clause-strides : goal.returns-then-not-is_calm-clause-strides
returns-then-not-is_calm-clause-strides g c = λ s h.
    let v = g.M.Memory.view c.args.m.now in
    let f = c.args.f.now in
    let w = c.args.w.now in
    ready_next v f w (g.met.M.Memory.whole c.args.m.now) c.requires.ready 0 s c.cycle-end.result (shown (g.M.Memory.view c.cycle-end.new.m) c.cycle-end.new.f c.cycle-end.new.w)
    (none_so_far s (shown v f w) h) c.cycle-end.ensures.cycle

pub returns-in-Ok-None-clause-strides : goal.returns-in-Ok-None-clause-strides
returns-in-Ok-None-clause-strides g c = λ s h.
    let t = c.go_on-stretch in
    let v = g.M.Memory.view t.new.m in
    let f = t.new.f in
    let w = c.args.w.now in
    let last = c.do_next-end in
    let end : t.result.end ≡ Ok None = c.in-Ok-None.is ∙ ap (λ x. Ok x) (rw c.in-Ok-None.is at c.in-Ok-None.field-0-is) in
    let calm : IsCalm w = sym c.if-not-is_calm.ensures in
    calm_next v f w (g.met.M.Memory.whole t.new.m) (subst (λ y. OnOk y (IsReady v f w)) end t.ensures.ready) t.result.done s
    (transition_of ending_of last.result (shown (g.M.Memory.view last.new.m) last.new.f last.new.w)) calm
    (subst (λ y. StretchEnds t.result.done s t.result.left y (shown v f w)) end (t.ensures.goes s h)) last.ensures.step

pub returns-in-Ok-Some-clause-strides : goal.returns-in-Ok-Some-clause-strides
returns-in-Ok-Some-clause-strides g c = λ s h.
    let t = c.go_on-stretch in
    let v = g.M.Memory.view t.new.m in
    let last = c.finish_straight-end in
    let end : t.result.end ≡ Ok (Some c.in-Ok-Some.end) = c.in-Ok-Some.is ∙ ap (λ x. Ok x) (rw c.in-Ok-Some.is at c.in-Ok-Some.field-0-is) in
    rest_ends t.result.done s t.result.left c.in-Ok-Some.end (shown v t.new.f c.args.w.now) last.result (shown (g.M.Memory.view last.new.m) last.new.f last.new.w)
    (subst (λ y. StretchEnds t.result.done s t.result.left y (shown v t.new.f c.args.w.now)) end (t.ensures.goes s h)) last.ensures.follows
