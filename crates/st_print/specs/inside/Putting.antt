-- What is put behind a text.
use Rattle.std.specs.Prelude.{◌≡◌, ℕ, List, ◌++◌}
use Rattle.std.specs.Global.{Vec}
use Rattle.st_scan.specs.declared.tree.Name.{Name}
use Rattle.st_scan.specs.declared.tree.Expression.{Expression}
use Rattle.st_scan.specs.declared.tree.Statement.{Statement}
use Rattle.st_scan.specs.declared.tree.Message.{Message}
use Rattle.st_scan.specs.Views.{MethodView, names_view, expression_view, expressions_view, statements_view}
use Rattle.st_scan.specs.Views as views
use Rattle.st_print.specs.declared.rank.Rank.{Rank}
use Rattle.st_print.specs.Words.{Word, spaced}
use Rattle.st_print.specs.Printed.{return_words, expression_words, statements_words, message_words, keyword_words, rank_of_message, options_words, first_signed, apart, behind_pattern}

-- words were put behind a text, with a space before each
abbrev pub IsPut : List Word → (old new : Vec ℕ) → Type 0
IsPut ws old new = new.items ≡ old.items ++ spaced ws

-- the words of a block, of a statement and of a message
abbrev pub block_words : List Name → List Statement → List Word
block_words names body = expression_words (views.block (names_view names) (statements_view body))

abbrev pub statement_words : Statement → List Word
statement_words s = return_words s.returns ++ expression_words (expression_view s.value)

abbrev pub sent_words : Message → List Word
sent_words m = message_words m.selector.items (expressions_view m.arguments.items)

-- of keywords, each with its argument
abbrev pub keyword_parts : List ℕ → List Expression → List Word
keyword_parts selector arguments = keyword_words selector (expressions_view arguments)

-- what a message makes
abbrev pub sent_rank : Message → Rank
sent_rank m = rank_of_message m.selector.items (expressions_view m.arguments.items)

-- those of statements directly behind a pattern
abbrev pub apart_words : List Statement → List Word
apart_words body = apart (first_signed (statements_words (statements_view body))) (statements_words (statements_view body))

-- all that stands behind a method's pattern
abbrev pub rest_words : MethodView → List Word
rest_words m = behind_pattern (options_words m.temporaries m.primitive) (statements_words m.body)
