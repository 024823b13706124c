use Rattle.std.proofs.Common.{rules, ◌≡◌, ◌-◌, Ok, Err, length, take, drop, subst, sym}
use Rattle.st_install.specs.Defining.{installed}
use Rattle.st_kernel_text.specs.inside.Views.{parts_of}
use Rattle.st_kernel.specs.inside.Answered.{IsFaultOf}
use Rattle.st_kernel.specs.inside.Following.{side_in, IsUnderway, GoesOn, Finishes}
use Rattle.st_kernel.proofs.Rests.{rest_parts, rest_none}
use Rattle.st_kernel.proofs.Underway.{not_finished}
use Rattle.st_kernel.proofs.following.install_methods.Goals as goal

pub returns-in_err-next-clause-follows : goal.returns-in_err-next-clause-follows
returns-in_err-next-clause-follows g c = λ whole u.
    let cause = c.args.kernel.now.cause in
    let rest = c.loop-rest.rest.now in
    let side = side_in c.loop-rest.heading in
    let at = subst (λ ps. IsUnderway installed cause whole c.loop-rest.chunk side ps (g.M.Memory.view c.loop-rest.m))
    (rest_parts rest c.part-item.result c.in-len1-up.len_at_least c.part-item.is) (c.loop-rest.invariant.underway whole u) in
    let e : c.from_residual.result ≡ Err c.in_err-next.field-0.0 = search rules in
    subst (λ r. Finishes whole r (g.M.Memory.view c.follow_part.new.m)) (sym e)
    (c.in_err-next.ensures.follows cause whole (parts_of (take (length rest - 1) (drop 1 rest))) at)

pub returns-in-Starts-clause-follows : goal.returns-in-Starts-clause-follows
returns-in-Starts-clause-follows g c = λ whole u.
    let cause = c.args.kernel.now.cause in
    let rest = c.loop-rest.rest.now in
    let side = side_in c.loop-rest.heading in
    let later = parts_of (take (length rest - 1) (drop 1 rest)) in
    let at = subst (λ ps. IsUnderway installed cause whole c.loop-rest.chunk side ps (g.M.Memory.view c.loop-rest.m))
    (rest_parts rest c.part-item.result c.in-len1-up.len_at_least c.part-item.is) (c.loop-rest.invariant.underway whole u) in
    let behind = c.in_ok-next.ensures.follows cause whole later at in
    c.finish_text.ensures.finishes installed whole side later
    (subst (λ r. GoesOn installed cause whole c.loop-rest.chunk side later (Ok r) (g.M.Memory.view c.follow_part.new.m)) c.in-Starts.is behind)

pub returns-clause-follows : goal.returns-clause-follows
returns-clause-follows g c = λ whole u.
    let cause = c.args.kernel.now.cause in
    let side = side_in c.loop-rest.heading in
    let at = subst (λ ps. IsUnderway installed cause whole c.loop-rest.chunk side ps (g.M.Memory.view c.loop-rest.m))
    (rest_none c.loop-rest.rest.now c.in_default.len_below) (c.loop-rest.invariant.underway whole u) in
    subst (λ x. IsFaultOf x c.unfinished.result) (not_finished installed cause whole c.loop-rest.chunk side (parts_of c.loop-rest.rest.now) (g.M.Memory.view c.loop-rest.m) at) c.unfinished.ensures
