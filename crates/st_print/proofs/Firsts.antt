-- Lists of which the first one is put, and then the others.
use Rattle.std.proofs.Common.{◌≡◌, false, List, [], ◌∷◌, ◌++◌, length, get_or, drop, refl, sym, ap, ◌∙◌, append_assoc}
use Rattle.std.specs.Prelude.{◌==◌}
use Rattle.st_scan.specs.declared.tree.Name.{Name}
use Rattle.st_scan.specs.declared.tree.Statement.{Statement}
use Rattle.st_scan.specs.declared.tree.Message.{Message}
use Rattle.st_scan.specs.Views.{names_view, expression_view, expressions_view, statements_view, messages_view}
use Rattle.st_print.specs.Words.{bar}
use Rattle.st_print.specs.Printed.{parameter_words, parameters_words, names_words, temporaries_words, return_words, expression_words, statements_words, next_statements, messages_words, next_messages, message_words}

pub some_parameters : (ns : List Name) → false ≡ (length ns == 0) → parameters_words (names_view ns) ≡ parameter_words (names_view ns) ++ bar ∷ []
some_parameters [] e = absurd cc
some_parameters (n ∷ ns) e = refl

pub some_temporaries : (ns : List Name) → false ≡ (length ns == 0) → temporaries_words (names_view ns) ≡ (bar ∷ names_words (names_view ns)) ++ bar ∷ []
some_temporaries [] e = absurd cc
some_temporaries (n ∷ ns) e = refl

pub some_statements : (ss : List Statement) (s : Statement) → false ≡ (length ss == 0) → s ≡ get_or ss 0 s
    → statements_words (statements_view ss) ≡ (return_words s.returns ++ expression_words (expression_view s.value)) ++ next_statements (statements_view (drop 1 ss))
some_statements [] s e is = absurd cc
some_statements (x ∷ ss) s e is =
    sym (append_assoc (return_words x.returns) (expression_words (expression_view x.value)) (next_statements (statements_view ss)))
    ∙ ap (λ (y : Statement). (return_words y.returns ++ expression_words (expression_view y.value)) ++ next_statements (statements_view ss)) (sym is)

pub some_messages : (ms : List Message) (m : Message) → false ≡ (length ms == 0) → m ≡ get_or ms 0 m
    → messages_words (messages_view ms) ≡ message_words m.selector.items (expressions_view m.arguments.items) ++ next_messages (messages_view (drop 1 ms))
some_messages [] m e is = absurd cc
some_messages (x ∷ ms) m e is = ap (λ (y : Message). message_words y.selector.items (expressions_view y.arguments.items) ++ next_messages (messages_view ms)) (sym is)
