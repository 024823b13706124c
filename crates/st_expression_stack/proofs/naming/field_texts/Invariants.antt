use Rattle.std.proofs.Common.{◌≡◌, map, take}
use Rattle.st_expression_stack.specs.Names.{usable_or}
use Rattle.st_expression_stack.proofs.naming.field_texts.Given as goal

abbrev pub invariant-loop-field : goal.invariant-loop-field
invariant-loop-field l = map (λ t. t.items) l.texts.items ≡ map (λ t. usable_or t.items) (take l.field-index l.fields)
