use Rattle.std.proofs.Common.{◌≡◌, ◌++◌, drop}
use Rattle.std.specs.Prelude.{filter}
use Rattle.st_first_objects.specs.Things.{is}
use Rattle.st_first_objects.specs.Contents.{all_of, members}
use Rattle.st_first_objects.specs.inside.Views.{fields_of}
use Rattle.st_first_objects.proofs.plan.FirstObjects.members.Given as goal

abbrev pub invariant-loop-i : goal.invariant-loop-i
invariant-loop-i l = fields_of l.fields.items ++ all_of (filter (is l.what) (drop l.i l.self.order.things)) ≡ members l.self (is l.what)
