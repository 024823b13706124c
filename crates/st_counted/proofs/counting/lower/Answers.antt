use Rattle.std.proofs.Common.{◌≡◌, ◌≤◌, ◌/◌, false, ap, sym, ◌∙◌, subst, arith}
use Rattle.std.proofs.lemmas.Grind.{common_steps}
use Rattle.st_model.specs.Values.{value, is_small}
use Rattle.st_counted.specs.inside.Counts.{number_at, lowered}
use Rattle.st_counted.specs.inside.Contents.{counts_of}
use Rattle.st_counted.proofs.Tallying.{lowered_even}
use Rattle.st_counted.proofs.counting.lower.Goals as goal

pub lower-requires-clause-most : goal.lower-requires-clause-most
lower-requires-clause-most c =
    let small : is_small (value c.args.v) ≡ false = grind (arith, common_steps) in
    let place : c.from.result ≡ c.args.v.0 / 2 = grind (arith, common_steps) in
    let some = c.requires.some small in
    subst (λ k. 1 ≤ number_at (counts_of c.args.counts.now) k) (sym place) (omega (arith, some))

pub returns-then-not-is_small-clause-counts : goal.returns-then-not-is_small-clause-counts
returns-then-not-is_small-clause-counts c =
    let small : is_small (value c.args.v) ≡ false = grind (arith, common_steps) in
    let place : c.from.result ≡ c.args.v.0 / 2 = grind (arith, common_steps) in
    c.lower.ensures.counts ∙ ap (λ k. lowered (counts_of c.args.counts.now) k 1) place ∙ sym (lowered_even (counts_of c.args.counts.now) c.args.v.0 small)
