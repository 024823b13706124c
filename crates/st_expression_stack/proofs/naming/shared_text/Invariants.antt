use Rattle.std.proofs.Common.{◌≡◌, drop}
use Rattle.st_emit.specs.inside.NameViews.{names_view, texts_view}
use Rattle.st_expression_stack.specs.Names.{shared_text}
use Rattle.st_expression_stack.proofs.naming.shared_text.Given as goal

abbrev pub invariant-loop-text : goal.invariant-loop-text
invariant-loop-text l = shared_text (names_view l.names) l.association.0 (texts_view (drop l.text-index l.texts)) ≡ shared_text (names_view l.names) l.association.0 (texts_view l.texts)
