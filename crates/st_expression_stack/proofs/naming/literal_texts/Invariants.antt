use Rattle.std.proofs.Common.{◌≡◌, map, take}
use Rattle.st_emit.specs.inside.NameViews.{names_view}
use Rattle.st_emit.specs.inside.Views.{literal_view}
use Rattle.st_expression_stack.specs.Names.{literal_text}
use Rattle.st_expression_stack.proofs.naming.literal_texts.Given as goal

abbrev pub invariant-loop-literal : goal.invariant-loop-literal
invariant-loop-literal l = map (λ t. t.items) l.called.items ≡ map (λ x. literal_text (names_view l.names) (literal_view x)) (take l.literal-index l.literals)
