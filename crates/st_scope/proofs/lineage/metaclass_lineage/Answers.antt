use Rattle.std.proofs.Common.{rules}
use Rattle.st_model.specs.Values.{value}
use Rattle.st_scope.specs.Classes.{metaclass_lineage}
use Rattle.st_scope.specs.inside.Meanings.{values_of}
use Rattle.st_scope.specs.inside.Lineages.{lineage_of}
use Rattle.st_scope.proofs.Finding.{first_dies, first_fails, then_finds}
use Rattle.st_scope.proofs.LineageOf.{both_chains}
use Rattle.st_scope.proofs.lineage.metaclass_lineage.Goals as goal

pub returns-in_err-owners : goal.returns-in_err-owners
unfolding metaclass_lineage
returns-in_err-owners g c = first_fails lineage_of values_of _ _ _ _ c.in_err-owners.field-0.0 (search rules) c.in_err-owners.ensures

pub returns-in_err-instance : goal.returns-in_err-instance
unfolding metaclass_lineage
returns-in_err-instance g c =
    then_finds lineage_of values_of _ _ _ _ c.in_ok-owners.owners c.in_ok-owners.ensures (first_dies lineage_of value _ _ _ _ c.in_err-instance.field-0.0 (search rules) c.in_err-instance.ensures.fetches)

pub returns-in_err-sharers : goal.returns-in_err-sharers
unfolding metaclass_lineage
returns-in_err-sharers g c =
    then_finds lineage_of values_of _ _ _ _ c.in_ok-owners.owners c.in_ok-owners.ensures
    (then_finds lineage_of value _ _ _ _ c.in_ok-instance.instance c.in_ok-instance.ensures.fetches (first_fails lineage_of values_of _ _ _ _ c.in_err-sharers.field-0.0 (search rules) c.in_err-sharers.ensures))

pub returns : goal.returns
returns g c =
    both_chains (value c.args.class) (g.M.Memory.view c.args.m.now).objects c.in_ok-owners.owners c.in_ok-owners.ensures c.in_ok-instance.instance c.in_ok-instance.ensures.fetches c.in_ok-sharers.sharers c.in_ok-sharers.ensures
