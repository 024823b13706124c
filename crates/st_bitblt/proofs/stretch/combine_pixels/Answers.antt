use Rattle.std.proofs.Common.{◌≡◌, ◌+◌, ◌-◌, ◌/◌, ◌≤◌, ℕ, length, take, subst, sym, arith}
use Rattle.std.proofs.lemmas.List.{get_or-take}
use Rattle.st_bitblt.specs.inside.Stretches.{Combined}
use Rattle.st_bitblt.proofs.Stretches.{stretch_combined, taken_combined, taken_restored}
use Rattle.st_bitblt.proofs.stretch.combine_pixels.Goals as goal

pub overflow_add-first : goal.overflow_add-first
overflow_add-first c =
    let low = c.requires.first in
    let few = c.requires.few in
    record { fits = omega (arith, low, few) }

pub returns-clause-pixels : goal.returns-clause-pixels
returns-clause-pixels c =
    let old = c.args.dest.now in
    let last : ℕ = (c.args.first + c.args.n - 1) / 16 in
    let some = c.requires.some in
    let end = c.requires.end in
    let low = c.requires.first in
    let e : (c.args.first + c.args.n + 15) / 16 ≡ last + 1 = omega (arith, some) in
    let within : last + 1 ≤ length old = omega (arith, some, end) in
    subst (λ m. Combined c.args.rule.now c.args.tone c.args.source.now c.args.skip (take m old) (take m c.restore-2.new.dest) c.args.first c.args.n) (sym e)
    (stretch_combined c.args.rule.now c.args.tone c.args.source.now c.args.skip (take (last + 1) old) (take (last + 1) c.combine_words.new.dest) (take (last + 1) c.restore.new.dest) (take (last + 1) c.restore-2.new.dest)
    c.args.first c.args.n last _ _ c.requires.first some (omega (arith, some)) (omega (arith, some))
    (sym (get_or-take (last + 1) old 0 0 (omega arith))) (sym (get_or-take (last + 1) old last 0 (omega arith)))
    (taken_combined _ _ _ _ _ _ (last + 1) (length old) within c.combine_words.ensures)
    (taken_restored _ _ _ 0 _ _ (last + 1) (omega arith) (omega (arith, low)) c.restore.ensures)
    (taken_restored _ _ _ last _ _ (last + 1) (omega arith) (omega (arith, some)) c.restore-2.ensures))

pub returns-clause-fits : goal.returns-clause-fits
returns-clause-fits c = λ k. let small = (c.type_inv.dest k).fits in omega (arith, small)
