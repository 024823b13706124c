use Rattle.std.proofs.Common.{◌≡◌, subst, arith}
use Rattle.st_draft.specs.inside.Bearing.{IsNumberOf}
use Rattle.st_draft.proofs.Bearing.{number_first, number_full}
use Rattle.st_draft.proofs.draft.Draft.number_of.Goals as goal

pub loop-before-init : goal.loop-before-init
loop-before-init g c =
    let d = c.args.self.now in
    number_first (g.M.Memory.view d.base.now).objects d.notes.made_count

pub returns-then-number-self : goal.returns-then-number-self
returns-then-number-self g c =
    let d = c.args.self.now in
    let l = c.loop-before-test.true in
    number_full (g.M.Memory.view d.base.now).objects d.notes.made_count c.loop-before.before c.loop-before.number c.loop-before.invariant c.args.place c.if-number-self.true (omega (arith, l))

pub returns : goal.returns
returns g c =
    let d = c.args.self.now in
    let l = c.loop-before-test.false in
    let e = c.loop-before.auto.before-end in
    let p = c.requires in
    let same : c.loop-before.before ≡ c.args.place = omega (arith, l, e, p) in
    subst (λ k. IsNumberOf (g.M.Memory.view d.base.now).objects d.notes.made_count k c.loop-before.number) same c.loop-before.invariant
