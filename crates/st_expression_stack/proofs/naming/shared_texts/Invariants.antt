use Rattle.std.proofs.Common.{◌≡◌, ◌++◌, map}
use Rattle.st_expression_stack.proofs.naming.shared_texts.Given as goal

abbrev pub invariant-loop-text : goal.invariant-loop-text
invariant-loop-text l = map (λ t. t.items) l.texts.items ++ map (λ s. s.0.items) l.text-iterator ≡ map (λ s. s.0.items) l.names.shared.entries
