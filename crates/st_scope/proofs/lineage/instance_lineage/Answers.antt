use Rattle.std.proofs.Common.{rules}
use Rattle.st_model.specs.Values.{value}
use Rattle.st_scope.specs.Classes.{instance_lineage}
use Rattle.st_scope.specs.inside.Meanings.{values_of}
use Rattle.st_scope.specs.inside.Lineages.{lineage_of}
use Rattle.st_scope.proofs.Finding.{first_fails}
use Rattle.st_scope.proofs.LineageOf.{one_chain}
use Rattle.st_scope.proofs.lineage.instance_lineage.Goals as goal

pub returns-in_err-owners : goal.returns-in_err-owners
unfolding instance_lineage
returns-in_err-owners g c = first_fails lineage_of values_of _ _ _ _ c.in_err-owners.field-0.0 (search rules) c.in_err-owners.ensures

pub returns : goal.returns
returns g c = one_chain (value c.args.class) (g.M.Memory.view c.args.m.now).objects c.in_ok-owners.owners c.in_ok-owners.ensures c.in_ok-sharers.sharers (search rules)
