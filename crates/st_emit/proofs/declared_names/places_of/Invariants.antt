use Rattle.std.proofs.Common.{take}
use Rattle.st_emit.specs.inside.NamePlaces.{IsNameIndex}
use Rattle.st_emit.proofs.declared_names.places_of.Given as goal

abbrev pub invariant-loop-i : goal.invariant-loop-i
invariant-loop-i l = IsNameIndex (take l.i l.names) l.places.entries
