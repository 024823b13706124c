-- The text that is made of a method's code, under the names that it sees: names that tell no text apart give the same, and there is one.
use Rattle.std.proofs.Common.{◌≡◌, ℕ, List, Option, Some, None, Ok, Err, refl, sym, ap, ◌∙◌, subst}
use Rattle.std.specs.Prelude.{option_map, option_and_then, Result}
use Rattle.std.specs.Result.{result_ok}
use Rattle.st_model.specs.Values.{Value}
use Rattle.st_model.specs.Table.{Table, table}
use Rattle.st_model.specs.Machine.{Step}
use Rattle.st_model.specs.inside.Calls.{Reads, itself}
use Rattle.st_model.specs.Deeds.{over_table}
use Rattle.st_model.specs.View.{View}
use Rattle.st_scan.specs.Views.{MethodView}
use Rattle.st_print.specs.Printed.{printed}
use Rattle.st_emit.specs.declared.names.Names.{Names}
use Rattle.st_emit.specs.Names.{NamesView}
use Rattle.st_emit.specs.inside.NameViews.{names_view}
use Rattle.st_code.specs.Methods.{PartsView, code}
use Rattle.st_scope.specs.declared.fault.InstallFault.{InstallFault}
use Rattle.st_scope.specs.declared.fault.InstallFault.TheVariants as fault
use Rattle.st_scope.specs.inside.Alike.{SeesAlike}
use Rattle.st_scope.specs.Calls.{names}
use Rattle.st_parts.proofs.CodeAlike.{code_alike}
use Rattle.st_parts.specs.inside.NamesFor.{AnswersFor}
use Rattle.st_parts.specs.Keys.{HasOneName, literals_in, mentioning, names_for}
use Rattle.st_parts.specs.Parts.{Place, parts_at}
use Rattle.st_parts.proofs.OneName.{one_name}
use Rattle.st_parts.proofs.PartsAlike.{parts_alike}
use Rattle.st_expression_stack.specs.Names.{name_in, calling_of}
use Rattle.st_decompile.specs.Whole.{candidate}
use Rattle.st_decompile.specs.inside.Answers.{IsSourceOf, IsPrintedRead}
use Rattle.st_decompile.proofs.CallsAlike.{calls_alike}
use Rattle.st_browse.specs.Display.{answer_in, answer_of}
use Rattle.st_browse.specs.Decompiling.{names_at}
use Rattle.st_browse.specs.inside.MadeTexts.{IsTextOf, IsTextOfParts, IsTextUnder, IsTextAt}
use Rattle.st_browse.specs.inside.Placing.{AreNamesAt}

-- NAMES

-- what a step answers that only reads
read_answer : {A B : Type 0} (step : Step Table A) (f : B → A) (t : Table) (x : B) → Reads step f t (Ok x) → answer_in step t ≡ Some (f x)
read_answer step f t x h = ap answer_of (h (over_table t) refl)

module _ (v : View) (at : Place) where
  abbrev vs : List Value
  vs = literals_in v.objects at.method

  abbrev step : Step Table (Result NamesView InstallFault)
  step = names table v.head at.class at.meta (mentioning v.objects vs)

  at_answer : (x : Option (Result NamesView InstallFault)) → answer_in step v.objects ≡ x → names_at v at ≡ option_map (names_for v.objects vs) (option_and_then result_ok x)
  unfolding names_at
  at_answer x e = ap (λ (y : Option (Result NamesView InstallFault)). option_map (names_for v.objects vs) (option_and_then result_ok y)) e

  pub names_found : (names : Names) → AnswersFor vs step v.objects (Ok names) → AreNamesAt v at names
  names_found names h = record {
    seen = names_for v.objects vs h.listed;
    is = at_answer (Some (Ok h.listed)) (read_answer step Ok v.objects h.listed h.reads);
    alike = h.alike;
    one = one_name v.objects h.listed vs;
  }

  unread : (cause : InstallFault) → Reads step itself v.objects (Ok (Err cause)) → names_at v at ≡ None
  unread cause h = at_answer (Some (Err cause)) (read_answer step itself v.objects (Err cause) h)

  abbrev pub IsAnswer : InstallFault → Type 0
  IsAnswer fault.OutOfMemory = ⊥
  IsAnswer cause = Unit {0}

  none_by : (cause : InstallFault) → IsAnswer cause → AnswersFor vs step v.objects (Err cause) → names_at v at ≡ None
  none_by fault.NoClass other h = unread fault.NoClass h
  none_by fault.NoGlobals other h = unread fault.NoGlobals h
  none_by (fault.NoRoom demand) other h = unread (fault.NoRoom demand) h
  none_by fault.Shape other h = unread fault.Shape h
  none_by fault.OutOfMemory other h = absurd other

  pub none_found : (cause known : InstallFault) → cause ≡ known → IsAnswer known → AnswersFor vs step v.objects (Err cause) → names_at v at ≡ None
  none_found cause known e other h = none_by known other (subst (λ (x : InstallFault). AnswersFor vs step v.objects (Err x)) e h)

-- NAMES THAT TELL NO TEXT APART

module _ (a b : NamesView) (alike : SeesAlike a b) (one : HasOneName a) where
  same_call : (p : PartsView) → calling_of a p.literals ≡ calling_of b p.literals
  same_call p = calls_alike a b (record { fields = alike.fields; shared = alike.shared }) one p.literals

  same_code : (p : PartsView) (t : MethodView) → code t a ≡ code t b
  same_code p t = code_alike t a b alike

  same_read : (p : PartsView) (text : List ℕ) → IsPrintedRead b p text → IsPrintedRead a p text
  same_read p text h = record {
    tree = h.tree;
    is = ap (λ k. candidate (name_in k) p) (same_call p) ∙ h.is;
    text_is = h.text_is;
  }

  same_text : (p : PartsView) (text : Option (List ℕ)) → IsTextOf b p text → IsTextOf a p text
  same_text p None h = λ t s. h t (record { text = s.text; means = s.means; same = sym (same_code p t) ∙ s.same })
  same_text p (Some text) h = ((h.0.0, record { means = h.0.1.means; same = same_code p h.0.0 ∙ h.0.1.same }), same_read p text h.1)

  same_by : (p : Option PartsView) (text : Option (List ℕ)) → IsTextOfParts b p text → IsTextOfParts a p text
  same_by None text h = h
  same_by (Some p) text h = same_text p text h

  same_parts : (v : View) (at : Place) (text : Option (List ℕ)) → IsTextOfParts b (parts_at b v at) text → IsTextOfParts a (parts_at a v at) text
  same_parts v at text h = subst (λ (p : Option PartsView). IsTextOfParts a p text) (sym (parts_alike a b alike v at)) (same_by (parts_at b v at) text h)

-- the printed text of the tree that was found
pub printed_text : (names : NamesView) (p : PartsView) (t : MethodView) (text : List ℕ) → text ≡ printed t → IsSourceOf names p (printed t) t → IsPrintedRead names p (printed t)
    → IsTextOf names p (Some text)
printed_text names p t text e answer read = subst (λ (x : List ℕ). IsTextOf names p (Some x)) (sym e) ((t, answer), read)

-- MADE

pub is_made : (v : View) (at : Place) (place : Option Place) (names : Names) (text : Option (List ℕ)) → Some at ≡ place → AreNamesAt v at names
    → IsTextOfParts (names_view names) (parts_at (names_view names) v at) text → IsTextAt v place text
is_made v at place names text e h made =
    subst (λ (x : Option Place). IsTextAt v x text) e
    (subst (λ (x : Option NamesView). IsTextUnder v at x text) (sym h.is) (same_parts h.seen (names_view names) h.alike h.one v at text made))

pub unmade : (v : View) (at : Place) (place : Option Place) → Some at ≡ place → names_at v at ≡ None → IsTextAt v place None
unmade v at place e h = subst (λ (x : Option Place). IsTextAt v x None) e (subst (λ (x : Option NamesView). IsTextUnder v at x None) (sym h) refl)

pub nowhere : (v : View) (place : Option Place) → None ≡ place → IsTextAt v place None
nowhere v place e = subst (λ (x : Option Place). IsTextAt v x None) e refl

-- THERE IS ONE

same_tree : (a b : MethodView) (x : Option MethodView) → x ≡ Some a → x ≡ Some b → a ≡ b
same_tree a b x e f = let q = sym e ∙ f in cc

one_of : (names : NamesView) (p : PartsView) (a b : Option (List ℕ)) → IsTextOf names p a → IsTextOf names p b → a ≡ b
one_of names p None None g h = refl
one_of names p None (Some b) g h = absurd (g h.0.0 (record { text = b; means = h.0.1.means; same = h.0.1.same }))
one_of names p (Some a) None g h = absurd (h g.0.0 (record { text = a; means = g.0.1.means; same = g.0.1.same }))
one_of names p (Some a) (Some b) g h =
    ap (λ (x : List ℕ). Some x) (g.1.text_is ∙ (ap printed (same_tree g.1.tree h.1.tree (candidate (name_in (calling_of names p.literals)) p) g.1.is h.1.is) ∙ sym h.1.text_is))

one_by : (names : NamesView) (p : Option PartsView) (a b : Option (List ℕ)) → IsTextOfParts names p a → IsTextOfParts names p b → a ≡ b
one_by names None a b g h = g ∙ sym h
one_by names (Some p) a b g h = one_of names p a b g h

one_under : (v : View) (at : Place) (names : Option NamesView) (a b : Option (List ℕ)) → IsTextUnder v at names a → IsTextUnder v at names b → a ≡ b
one_under v at None a b g h = g ∙ sym h
one_under v at (Some names) a b g h = one_by names (parts_at names v at) a b g h

pub one_made : (v : View) (place : Option Place) (a b : Option (List ℕ)) → IsTextAt v place a → IsTextAt v place b → a ≡ b
one_made v None a b g h = g ∙ sym h
one_made v (Some at) a b g h = one_under v at (names_at v at) a b g h
