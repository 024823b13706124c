use Rattle.std.proofs.Common.{◌≡◌, ◌++◌, drop}
use Rattle.st_first_objects.specs.Contents.{selector_fields}
use Rattle.st_first_objects.specs.inside.Views.{fields_of}
use Rattle.st_emit.specs.Selectors.{sends_now}
use Rattle.st_first_objects.proofs.plan.selector_fields.Given as goal

abbrev pub invariant-loop-selector : goal.invariant-loop-selector
invariant-loop-selector l = fields_of l.fields.items ++ selector_fields (sends_now (drop l.selector-index l.selectors)) ≡ selector_fields (sends_now l.selectors)
