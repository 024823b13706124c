-- The text that a session makes of a method's code has that code, and there is one where some text has it.
use Rattle.std.proofs.Common.{◌≡◌, ◌∙◌, ℕ, Bool, true, false, true≢false, List, Option, Some, None, Ok, Err, refl, sym, ap}
use Rattle.std.specs.Prelude.{Result, option_and_then, if◌then◌else◌}
use Rattle.st_model.specs.View.{View}
use Rattle.st_scan.specs.declared.fault.Fault.{Fault as SyntaxFault}
use Rattle.st_scan.specs.Views.{MethodView}
use Rattle.st_print.specs.Printed.{printed}
use Rattle.st_emit.specs.Names.{NamesView}
use Rattle.st_code.specs.declared.fault.Fault.{Fault as CodeFault}
use Rattle.st_code.specs.Methods.{PartsView, code}
use Rattle.st_parts.specs.Parts.{Place, parts_at}
use Rattle.st_expression_stack.specs.Names.{calling_of, name_in}
use Rattle.st_decompile.specs.Whole.{candidate}
use Rattle.st_decompile.specs.inside.Answers.{IsSource, IsSourceOf}
use Rattle.st_decompile.proofs.Finding.{none_found, back_is}
use Rattle.st_decompile.proofs.Sameness.{parts_are, parts_same}
use Rattle.st_chunk.specs.Asks.{Side}
use Rattle.st_grammar.specs.inside.SyntaxMeant.{IsSyntax}
use Rattle.st_grammar.specs.Syntax.{syntax}
use Rattle.st_grammar.proofs.Syntaxes.{is, only}
use Rattle.st_browse.specs.Decompiling.{method_place, names_at}
use Rattle.st_browse.specs.inside.MadeTexts.{IsTextOf, IsTextOfParts, IsTextUnder, IsTextAt, IsMade}
use Rattle.st_session.specs.Decompiled.{is_code, has_code, if_has_code, text_written, written_under, written_at, made_text}

module _ (names : NamesView) (p : PartsView) where
  made_so : (r : Result PartsView CodeFault) → is_code p r ≡ true → r ≡ Ok p
  made_so (Ok made) e = ap (λ (x : PartsView). Ok x) (parts_are made p e)
  made_so (Err fault) e = absurd cc

  same_made : (r : Result PartsView CodeFault) → r ≡ Ok p → is_code p r ≡ true
  same_made r e = ap (is_code p) e ∙ parts_same p

  -- what a text means has the code
  source_by : (text : List ℕ) (r : Result MethodView SyntaxFault) → IsSyntax text r → has_code names p r ≡ true → (t : MethodView) × IsSourceOf names p text t
  source_by text (Ok t) means e = (t, record { means = means; same = made_so (code t names) e })
  source_by text (Err fault) first e = absurd cc

  module _ (tree : MethodView) (read : candidate (name_in (calling_of names p.literals)) p ≡ Some tree) where
    -- where it hasn't, no text has
    missed : has_code names p (syntax (printed tree)) ≡ false → (t : MethodView) → IsSource names p t → ⊥
    missed e t s =
        let back = back_is names p tree read t s in
        let same = ap (has_code names p) (sym (only (printed tree) (Ok back.0) back.1)) ∙ same_made (code back.0 names) back.2 in
        true≢false (sym same ∙ e)

    tested : (b : Bool) → has_code names p (syntax (printed tree)) ≡ b → IsTextOf names p (if b then Some (printed tree) else None)
    tested true e = (source_by (printed tree) (syntax (printed tree)) (is (printed tree)) e, record { tree = tree; is = read; text_is = refl })
    tested false e = missed e

  read_by : (t : Option MethodView) → candidate (name_in (calling_of names p.literals)) p ≡ t → IsTextOf names p (option_and_then (λ x. if_has_code names p (printed x)) t)
  read_by None e = none_found names p e
  read_by (Some tree) e = tested tree e (has_code names p (syntax (printed tree))) refl

  written_is : IsTextOf names p (text_written names p)
  unfolding text_written
  written_is = read_by (candidate (name_in (calling_of names p.literals)) p) refl

by_parts : (names : NamesView) (p : Option PartsView) → IsTextOfParts names p (option_and_then (text_written names) p)
by_parts names None = refl
by_parts names (Some p) = written_is names p

by_names : (v : View) (at : Place) (names : Option NamesView) → IsTextUnder v at names (option_and_then (written_under v at) names)
by_names v at None = refl
by_names v at (Some names) = by_parts names (parts_at names v at)

by_place : (v : View) (place : Option Place) → IsTextAt v place (option_and_then (written_at v) place)
by_place v None = refl
by_place v (Some at) = by_names v at (names_at v at)

pub made_is : (v : View) (side : Side) (selector : List ℕ) → IsMade v side selector (made_text v side selector)
unfolding made_text
made_is v side selector = by_place v (method_place v side selector)
