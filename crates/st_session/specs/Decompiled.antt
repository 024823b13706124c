-- The text that a session shows of a method of which no definition is kept: the one that is written of the tree that is read of its code,
-- where what it means has this code. That there is one exactly where some text has the code is the law `made_texts_have_the_code`; who
-- takes that law need not read how a tree is read.
use Rattle.std.specs.Prelude.{ℕ, Bool, false, List, Option, Some, None, Result, Ok, Err, option_and_then, if◌then◌else◌}
use Rattle.st_model.specs.View.{View}
use Rattle.st_scan.specs.declared.fault.Fault.{Fault as SyntaxFault}
use Rattle.st_scan.specs.Views.{MethodView}
use Rattle.st_print.specs.Printed.{printed}
use Rattle.st_emit.specs.Names.{NamesView}
use Rattle.st_code.specs.declared.fault.Fault.{Fault as CodeFault}
use Rattle.st_code.specs.Methods.{PartsView, code}
use Rattle.st_parts.specs.Parts.{Place, parts_at}
use Rattle.st_decompile.specs.Comparing.{same_parts}
use Rattle.st_expression_stack.specs.Names.{calling_of, name_in}
use Rattle.st_decompile.specs.Whole.{candidate}
use Rattle.st_chunk.specs.Asks.{Side}
use Rattle.st_grammar.specs.Syntax.{syntax}
use Rattle.st_browse.specs.Decompiling.{method_place, names_at}

-- such code was made
abbrev pub is_code : PartsView → Result PartsView CodeFault → Bool
is_code p (Ok made) = same_parts made p
is_code p (Err fault) = false

-- a tree has this code
abbrev pub has_code : NamesView → PartsView → Result MethodView SyntaxFault → Bool
has_code names p (Ok t) = is_code p (code t names)
has_code names p (Err fault) = false

-- a text, where what it means has this code
abbrev pub if_has_code : NamesView → PartsView → List ℕ → Option (List ℕ)
if_has_code names p text = if has_code names p (syntax text) then Some text else None

-- the text of the tree that is read of this code
unfoldable pub text_written : NamesView → PartsView → Option (List ℕ)
text_written names p = option_and_then (λ t. if_has_code names p (printed t)) (candidate (name_in (calling_of names p.literals)) p)

abbrev pub written_under : View → Place → NamesView → Option (List ℕ)
written_under v at names = option_and_then (text_written names) (parts_at names v at)

abbrev pub written_at : View → Place → Option (List ℕ)
written_at v at = option_and_then (written_under v at) (names_at v at)

-- that of a class's method
unfoldable pub made_text : View → Side → List ℕ → Option (List ℕ)
made_text v side selector = option_and_then (written_at v) (method_place v side selector)
