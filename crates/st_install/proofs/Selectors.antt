-- The selector of a method that was accepted is that of its text's tree, and no line ends in it.
use Rattle.std.proofs.Common.{◌≡◌, ◌∙◌, ℕ, zero, suc, Bool, true, false, not, List, [], ◌∷◌, ◌++◌, length, Option, Some, None, Result, Ok, Err, inl, inr, refl, subst, arith}
use Rattle.std.specs.Prelude.{◌==◌}
use Rattle.std.specs.List.{list_all}
use Rattle.std.specs.Str.{byte}
use Rattle.std.specs.Char.{is_ascii_alphanumeric}
use Rattle.std.proofs.lemmas.Bool.{and_parts, and_from}
use Rattle.std.proofs.lemmas.Bool.Decides.{nat_tests}
use Rattle.std.proofs.lemmas.List.Folds.{list_all-append}
use Rattle.st_model.specs.Machine.{State, Transition, Died, Went, Step, answer, after, ◌>>=◌, ◌>>◌}
use Rattle.st_model.specs.Births.{Births, births}
use Rattle.st_scan.specs.declared.fault.Fault as syntax_fault
use Rattle.st_scan.specs.Views.{MethodView}
use Rattle.st_scan.specs.Bytes.{is_operator_byte, begins_operator, is_second_operator_byte}
use Rattle.st_scan.specs.Pieces.{is_name, is_operator, keywords_text}
use Rattle.st_grammar.specs.inside.Meant.{Means}
use Rattle.st_grammar.specs.inside.Formed.{IsSelector}
use Rattle.st_grammar.proofs.FormedTrees.{means_formed}
use Rattle.st_emit.specs.Names.{NamesView}
use Rattle.st_code.specs.declared.fault.Fault as code_fault
use Rattle.st_code.specs.Methods.{fault, parts_or}
use Rattle.st_install.specs.Installing.{install}
use Rattle.st_chunk.specs.Definitions.{Definition}
use Rattle.st_protocol.specs.declared.refusal.Refusal.{Refusal}
use Rattle.st_protocol.specs.Installing.{Accepted}
use Rattle.st_grammar.specs.inside.SyntaxMeant.{IsSyntax}
use Rattle.st_grammar.specs.Syntax.{syntax}
use Rattle.st_install.specs.Defining.{of_syntax, of_code, of_install, Prepared, on_ok_by, on_ok, prepare, carry_out, define, outcome_of, installed}
use Rattle.st_grammar.proofs.Syntaxes.{is}

-- no line ends in it
abbrev pub IsInLine : List ℕ → Type 0
IsInLine text = list_all (λ b. not (b == 10)) text ≡ true

-- SELECTORS

-- a byte that passes a test is no line feed, where that doesn't pass it
passing : (p : ℕ → Bool) → p 10 ≡ false → (b : ℕ) → p b ≡ true → not (b == 10) ≡ true
passing p never b e = over (b == 10) refl
  where
    over : (t : Bool) → (b == 10) ≡ t → not t ≡ true
    over true same =
        let ten : b ≡ 10 = grind (arith, nat_tests, same) in
        let passed : p 10 ≡ true = subst (λ c. p c ≡ true) ten e in
        absurd (cc)
    over false other = refl

pub all_passing : (p : ℕ → Bool) → p 10 ≡ false → (text : List ℕ) → list_all p text ≡ true → IsInLine text
all_passing p never [] e = refl
all_passing p never (b ∷ text) e =
    let parts = and_parts (p b) (list_all p text) e in
    and_from _ _ (passing p never b parts.0) (all_passing p never text parts.1)

pub both_in_line : (a b : List ℕ) → IsInLine a → IsInLine b → IsInLine (a ++ b)
both_in_line a b h k = list_all-append (λ c. not (c == 10)) a b ∙ and_from _ _ h k

name_in_line : (name : List ℕ) → is_name name ≡ true → IsInLine name
name_in_line name e = all_passing is_ascii_alphanumeric refl name (and_parts _ _ e).1

operator_in_line : (operator : List ℕ) → is_operator operator ≡ true → IsInLine operator
operator_in_line [] e = refl
operator_in_line (b ∷ []) e = all_passing begins_operator refl (b ∷ []) (and_from _ _ e refl)
operator_in_line (b ∷ c ∷ []) e =
    let parts = and_parts _ _ e in
    both_in_line (b ∷ []) (c ∷ []) (all_passing is_operator_byte refl (b ∷ []) (and_from _ _ parts.0 refl)) (all_passing is_second_operator_byte refl (c ∷ []) (and_from _ _ parts.1 refl))
operator_in_line (b ∷ c ∷ d ∷ more) e = absurd (cc)

keywords_in_line : (names : List (List ℕ)) → list_all is_name names ≡ true → IsInLine (keywords_text names)
keywords_in_line [] e = refl
keywords_in_line (n ∷ ns) e =
    let parts = and_parts (is_name n) (list_all is_name ns) e in
    both_in_line n (byte ":" ∷ keywords_text ns) (name_in_line n parts.0) (keywords_in_line ns parts.1)

formed_in_line : (selector : List ℕ) (n : ℕ) → IsSelector selector n → IsInLine selector
formed_in_line selector zero h = name_in_line selector h
formed_in_line selector (suc n) (inl h) = operator_in_line selector h.0
formed_in_line selector (suc n) (inr h) = subst IsInLine h.is_joined (keywords_in_line h.names h.are_names)

pub selector_in_line : (text : List ℕ) (tree : MethodView) → Means text tree → IsInLine tree.selector
selector_in_line text tree means = formed_in_line tree.selector (length tree.arguments) (means_formed text tree means).selector

-- WHAT IS ANSWERED

abbrev Any : {A : Type 0} → A → Type 0
Any a = Unit {0}

module _ {H : Type 0} where
  -- where a step doesn't die, its answer is so
  abbrev Gives : {A : Type 0} → (A → Type 0) → Transition (State H) A → Type 0
  Gives P (Died cause) = Unit {0}
  Gives P (Went a s) = P a

  gives_any : {A : Type 0} (o : Transition (State H) A) → Gives Any o
  gives_any (Died cause) = tt
  gives_any (Went a s) = tt

  gives_after : {A B : Type 0} (P : A → Type 0) (Q : B → Type 0) (o : Transition (State H) A) (f : A → Step H B)
      → Gives P o → ((a : A) (s : State H) → P a → Gives Q ((f a).run s)) → Gives Q (after o (λ a t. (f a).run t))
  unfolding after
  gives_after P Q (Died cause) f h k = tt
  gives_after P Q (Went a s) f h k = k a s h

  gives_then : {A B : Type 0} (P : A → Type 0) (Q : B → Type 0) (m : Step H A) (f : A → Step H B) (s : State H)
      → Gives P (m.run s) → ((a : A) (t : State H) → P a → Gives Q ((f a).run t)) → Gives Q ((m >>= f).run s)
  unfolding ◌>>=◌
  gives_then P Q m f s h k = gives_after P Q (m.run s) f h k

-- where something came, it is so
abbrev Came : {A E : Type 0} → (A → Type 0) → Result A E → Type 0
Came P (Err why) = Unit {0}
Came P (Ok a) = P a

module _ {H : Type 0} where
  came_any : {A E : Type 0} (o : Transition (State H) (Result A E)) → Gives (Came Any) o
  came_any (Died cause) = tt
  came_any (Went (Err why) s) = tt
  came_any (Went (Ok a) s) = tt

  gives_on : {A B E : Type 0} (P : A → Type 0) (Q : B → Type 0) (says : E → Refusal) (m : Step H (Result A E)) (f : A → Step H (Result B Refusal)) (s : State H)
      → Gives (Came P) (m.run s) → ((a : A) (t : State H) → P a → Gives (Came Q) ((f a).run t)) → Gives (Came Q) ((on_ok says m f).run s)
  unfolding on_ok answer
  gives_on {A = A} {E = E} P Q says m f s h k = gives_then (Came P) (Came Q) m (on_ok_by says f) s h over
    where
      over : (r : Result A E) (t : State H) → Came P r → Gives (Came Q) ((on_ok_by says f r).run t)
      over (Err why) t c = tt
      over (Ok a) t c = k a t c

abbrev IsPrepared : Result Prepared Refusal → Type 0
IsPrepared r = Came (λ p. IsInLine p.selector) r

abbrev IsAnswered : Result (List ℕ) Refusal → Type 0
IsAnswered r = Came IsInLine r

in_tree : (text : List ℕ) (r : Result MethodView syntax_fault.Fault) → IsSyntax text r → Came (λ tree. IsInLine tree.selector) r
in_tree text (Err f) h = tt
in_tree text (Ok tree) h = selector_in_line text tree h

in_code : (tree : MethodView) (seen : NamesView) (o : Option code_fault.Fault) → IsInLine tree.selector → Came (λ parts. IsInLine parts.selector) (parts_or tree seen o)
in_code tree seen (Some f) h = tt
in_code tree seen None h = h

module _ (s : State Births) (d : Definition) where
  prepared : Gives IsPrepared ((prepare births s.head d).run s)
  unfolding prepare answer
  prepared =
      gives_on Any _ of_install _ _ s (came_any _) λ class t any.
      gives_on (λ tree. IsInLine tree.selector) _ of_syntax _ _ t (in_tree d.text (syntax d.text) (is d.text)) λ tree u h.
      gives_on Any _ of_install _ _ u (came_any _) λ seen v any.
      gives_on (λ parts. IsInLine parts.selector) _ of_code _ _ v (in_code tree seen (fault tree seen) h) λ parts w g.
      gives_on Any _ of_install _ _ w (came_any _) λ plan x any. g

  carried : (r : Result Prepared Refusal) (t : State Births) → IsPrepared r → Gives IsAnswered ((carry_out births r).run t)
  unfolding carry_out answer ◌>>◌
  carried (Err why) t h = tt
  carried (Ok p) t h = gives_then Any IsAnswered (install births p.plan) _ t (gives_any _) (λ u v any. h)

  defined : Gives IsAnswered ((define births s.head d).run s)
  unfolding define
  defined = gives_then IsPrepared IsAnswered (prepare births s.head d) (carry_out births) s prepared carried

outcome_in_line : (o : Transition (State Births) (Result (List ℕ) Refusal)) (selector : List ℕ) (t : State Births) → Gives IsAnswered o → outcome_of o ≡ Accepted selector t → IsInLine selector
outcome_in_line (Died cause) selector t h e = absurd (cc)
outcome_in_line (Went (Err why) s) selector t h e = absurd (cc)
outcome_in_line (Went (Ok name) s) selector t h e = let same : name ≡ selector = cc in subst IsInLine same h

pub accepted_selector : (d : Definition) (s : State Births) (selector : List ℕ) (t : State Births) → installed d s ≡ Accepted selector t → IsInLine selector
unfolding installed
accepted_selector d s selector t e = outcome_in_line ((define births s.head d).run s) selector t (defined s d) e
