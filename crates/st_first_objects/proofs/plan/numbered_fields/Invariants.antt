use Rattle.std.proofs.Common.{◌≡◌, ◌-◌, ◌++◌}
use Rattle.st_first_objects.specs.Orders.{numbered_from}
use Rattle.st_first_objects.specs.Contents.{all_of}
use Rattle.st_first_objects.specs.inside.Views.{fields_of}
use Rattle.st_first_objects.proofs.plan.numbered_fields.Given as goal

abbrev pub invariant-loop-number : goal.invariant-loop-number
invariant-loop-number l = fields_of l.fields.items ++ all_of (numbered_from l.what l.number (l.count - l.number)) ≡ all_of (numbered_from l.what 0 l.count)
