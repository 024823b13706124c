-- The classes whose variables a method sees, as the code holds them.
use Rattle.st_scope.specs.declared.lineage.Chains.{Chains}
use Rattle.st_scope.specs.Classes.{Lineage}
use Rattle.st_scope.specs.inside.Meanings.{values_of}

abbrev pub lineage_of : Chains → Lineage
lineage_of chains = record { owners = values_of chains.owners; sharers = values_of chains.sharers }
