use Rattle.std.proofs.Common.{◌≡◌, ◌-◌, ◌++◌, drop}
use Rattle.st_first_objects.specs.Contents.{padded}
use Rattle.st_first_objects.specs.inside.Views.{fields_of}
use Rattle.st_first_objects.proofs.plan.FirstObjects.table.Given as goal

abbrev pub invariant-loop-i : goal.invariant-loop-i
invariant-loop-i l = fields_of l.fields.items ++ padded (l.places - l.i) (drop l.i (fields_of l.members.items)) ≡ padded l.places (fields_of l.members.items)
