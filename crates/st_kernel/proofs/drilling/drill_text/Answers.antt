use Rattle.std.proofs.Common.{◌≡◌, ◌%◌, ◌∙◌, arith}
use Rattle.st_kernel.proofs.Drills.{declared_behind, drilled}
use Rattle.st_kernel.proofs.drilling.drill_text.Goals as goal

pub loop-number-preserved : goal.loop-number-preserved
loop-number-preserved c =
    let i = c.loop-number.number in
    let before = c.loop-number.invariant.short in
    let added = c.in_ok-push_class.ensures.short in
    record {
      declared = c.in_ok-push_class.ensures.text ∙ declared_behind i c.loop-number.text.items c.loop-number.invariant.declared;
      short = omega (arith, before, added);
    }

pub returns-clause-text : goal.returns-clause-text
returns-clause-text c =
    let below = c.loop-number-test.false in
    let end = c.loop-number.auto.number-end in
    let same : c.loop-number.number ≡ c.args.n % 1000 = omega (arith, below, end) in
    c.in_ok-push_behaviour.ensures.text ∙ drilled c.loop-number.number (c.args.n % 1000) c.loop-number.text.items same c.loop-number.invariant.declared
