use Rattle.std.proofs.Common.{◌≡◌, true, Err, rules, arith}
use Rattle.st_model.specs.Values.{value, value_of}
use Rattle.st_scope.specs.declared.unread.Unread.TheVariants.{Dies}
use Rattle.st_install.proofs.Singles.{owner_dies}
use Rattle.st_model.proofs.Runs.{runs}
use Rattle.st_install.specs.Literals.{place_owner}
use Rattle.st_install.proofs.single.place_owner.Goals as goal

pub returns-in_err-kind : goal.returns-in_err-kind
returns-in_err-kind g c =
    let e : c.from_residual.result ≡ Err (Dies c.in_err-kind.field-0.0) = search rules in
    let q : c.args.owner.meta ≡ true = search (rules, c.if-not-owner.false) in
    rw e (owner_dies (value c.args.owner.association) (value c.args.owner.class) c.args.owner.meta (g.M.Memory.view c.args.m.now).objects c.in_err-kind.field-0.0 q c.in_err-kind.ensures.class)

pub returns-then-not-owner : goal.returns-then-not-owner
unfolding place_owner value_of
returns-then-not-owner g c = grind (arith, runs)

pub returns : goal.returns
unfolding place_owner value_of
returns g c = grind (arith, runs)
