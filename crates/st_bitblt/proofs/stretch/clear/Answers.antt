use Rattle.std.proofs.Common.{◌≡◌, ◌∙◌, ap, arith, get_or, set, get_or-set_same, get_or-set_other, inl, inr}
use Rattle.std.proofs.lemmas.Bool.{cases_lt}
use Rattle.st_bitblt.proofs.Stretches.{none_past}
use Rattle.st_bitblt.proofs.stretch.clear.Goals as goal

pub loop-k-preserved : goal.loop-k-preserved
loop-k-preserved c =
    let words = c.loop-k.words in
    let at = c.loop-k.k in
    let so_far = c.loop-k.invariant in
    let from = so_far.from in
    let test = c.loop-k-test.true in
    let long = c.loop-k.auto.words in
    record {
      from = omega (arith, from);
      kept = λ i h. get_or-set_other words at i 0 0 (λ e. omega (arith, e, h, from)) ∙ so_far.kept i h;
      zeros = λ i low h. elim (cases_lt i at) [
        | inl lt ↦ get_or-set_other words at i 0 0 (λ e. omega (arith, e, lt)) ∙ so_far.zeros i low lt
        | inr ge ↦ let e : i ≡ at = omega (arith, h, ge) in ap (λ x. get_or (set words at 0) x 0) e ∙ get_or-set_same words at 0 0 (omega (arith, test, long))
      ];
    }

pub returns-clause-kept : goal.returns-clause-kept
returns-clause-kept c = c.loop-k.invariant.kept

pub returns-clause-zeros : goal.returns-clause-zeros
returns-clause-zeros c = λ i low.
    let done = c.loop-k-test.false in
    let long = c.loop-k.auto.words in
    elim (cases_lt i c.loop-k.k) [
      | inl lt ↦ c.loop-k.invariant.zeros i low lt
      | inr ge ↦ none_past c.loop-k.words i (omega (arith, done, long, ge))
    ]
