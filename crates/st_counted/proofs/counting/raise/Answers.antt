use Rattle.std.proofs.Common.{◌≡◌, ◌/◌, false, ap, sym, ◌∙◌, arith}
use Rattle.std.proofs.lemmas.Grind.{common_steps}
use Rattle.st_model.specs.Values.{value, is_small}
use Rattle.st_counted.specs.inside.Counts.{raised}
use Rattle.st_counted.specs.inside.Contents.{counts_of}
use Rattle.st_counted.proofs.Tallying.{raised_even}
use Rattle.st_counted.proofs.counting.raise.Goals as goal

pub returns-then-not-is_small-clause-counts : goal.returns-then-not-is_small-clause-counts
returns-then-not-is_small-clause-counts c =
    let small : is_small (value c.args.v) ≡ false = grind (arith, common_steps) in
    let place : c.from.result ≡ c.args.v.0 / 2 = grind (arith, common_steps) in
    c.raise.ensures.counts ∙ ap (λ k. raised (counts_of c.args.counts.now) k c.args.by) place ∙ sym (raised_even (counts_of c.args.counts.now) c.args.v.0 c.args.by small)
