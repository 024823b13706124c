use Rattle.std.proofs.Common.{◌≡◌, true, sym, ◌∙◌, rules, arith}
use Rattle.st_install.specs.inside.Readies.{objects_of}
use Rattle.st_install.proofs.Smalls.{small_if_fit}
use Rattle.st_model.proofs.Runs.{runs}
use Rattle.st_install.specs.Shapes.{check_size}
use Rattle.st_install.proofs.sizes.check_size.Goals as goal

pub returns-clause-small : goal.returns-clause-small
returns-clause-small c =
    let t : c.all_fit.result ≡ true = search (rules, c.if-not-all_fit.false) in
    small_if_fit (objects_of c.args.objects.now) (sym c.all_fit.ensures ∙ t)

pub returns-then-not-all_fit-clause-check : goal.returns-then-not-all_fit-clause-check
unfolding check_size
returns-then-not-all_fit-clause-check c = grind (arith, runs)

pub returns-clause-check : goal.returns-clause-check
unfolding check_size
returns-clause-check c = grind (arith, runs)
