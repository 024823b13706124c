-- What the trees that are made rest on.
use Rattle.std.proofs.Common.{◌≡◌, ◌<◌, ◌≤◌, ℕ, zero, suc, ◌+◌, ◌-◌, Bool, true, false, List, [], ◌∷◌, ◌++◌, map, take, drop, length, get_or, Option, Some, None, refl, sym, ap, ap₂, ◌∙◌, arith}
use Rattle.std.proofs.lemmas.Bool.Decides.{nat_tests}
use Rattle.std.proofs.lemmas.List.{take_more, take_all}
use Rattle.std.specs.Prelude.{if◌then◌else◌, nat_lt, codes}
use Rattle.st_scan.specs.declared.token.Signed.{Signed}
use Rattle.st_scan.specs.declared.tree.Content.{Content}
use Rattle.st_scan.specs.declared.tree.Element.{Element}
use Rattle.st_scan.specs.declared.tree.Statement.{Statement}
use Rattle.st_scan.specs.Views.{ContentView, ElementsView, ElementView, content_view, elements_view, with_element, ExpressionView, StatementsView, statement, no_statements, expression_view, statements_view, variable, block, assign, send}
use Rattle.st_scan.specs.Views as views
use Rattle.st_scan.proofs.Views.{elements_view-push}
use Rattle.st_emit.specs.declared.literal.Literal.{Literal}
use Rattle.st_emit.specs.declared.instruction.Constant.{Constant}
use Rattle.st_emit.specs.inside.Views.{literal_view, members_view}
use Rattle.st_expression_stack.specs.Choosing.{small_signed, content_of, elements_of, alone, one_sided_by, with_blocks, two_sides, sides_by, choice_tree}

-- NUMBERS

pub small_more : (n : ℕ) → (0 < n) → record { minus = false; size = n - 1 } ≡ small_signed n
small_more zero h = absurd (omega (arith, h))
small_more (suc n) h = let e : suc n - 1 ≡ n = omega arith in ap (λ (k : ℕ). small_signed (suc k)) e

-- LITERAL ARRAYS

abbrev placeless : ContentView → ElementView
placeless c = record { place = 0; what = c }

elements_push : (ls : List Literal) (l : Literal) → elements_of (members_view (ls ++ l ∷ [])) ≡ with_element (elements_of (members_view ls)) (placeless (content_of (literal_view l)))
elements_push [] l = refl
elements_push (x ∷ ls) l = ap (views.element 0 (content_of (literal_view x))) (elements_push ls l)

abbrev element_at : Content → Element
element_at what = record { place = 0; what = what }

pub element_turn : (es new : List Element) (what : Content) (ls : List Literal) (i : ℕ) (l : Literal) → elements_view es ≡ elements_of (members_view (take i ls)) → new ≡ es ++ element_at what ∷ [] → content_view what ≡ content_of (literal_view l) → i < length ls → l ≡ get_or ls i l → elements_view new ≡ elements_of (members_view (take (i + 1) ls))
element_turn es new what ls i l before pushed is less at =
    ap elements_view pushed ∙ elements_view-push es (element_at what) ∙ ap₂ (λ (v : ElementsView) (c : ContentView). with_element v (placeless c)) before is
    ∙ sym (ap (λ (xs : List Literal). elements_of (members_view xs)) (take_more ls i l less ∙ ap (λ (x : Literal). take i ls ++ x ∷ []) (sym at)) ∙ elements_push (take i ls) l)

pub elements_end : (es : List Element) (ls : List Literal) (i : ℕ) → elements_view es ≡ elements_of (members_view (take i ls)) → length ls ≤ i → elements_view es ≡ elements_of (members_view ls)
elements_end es ls i before h = before ∙ ap (λ (xs : List Literal). elements_of (members_view xs)) (take_all i ls h)

-- STATEMENTS THAT STAND ALONE

pub alone_one : (ss : List Statement) (s : Statement) → 1 ≤ length ss → length ss < 2 → s ≡ get_or ss 0 s → alone (statement s.returns (expression_view s.value) no_statements) ≡ alone (statements_view ss)
alone_one [] s l m e = absurd (omega (arith, l))
alone_one (x ∷ []) s l m e = ap (λ (y : Statement). alone (statement y.returns (expression_view y.value) no_statements)) e
alone_one (x ∷ y ∷ ss) s l m e = absurd (omega (arith, m))

not_alone : (b : Bool) (e : ExpressionView) (c : Bool) (f : ExpressionView) (ss : StatementsView) → None ≡ alone (statement b e (statement c f ss))
not_alone true e c f ss = refl
not_alone false (variable n) c f ss = refl
not_alone false (views.literal l) c f ss = refl
not_alone false (block ns body) c f ss = refl
not_alone false (assign n v) c f ss = refl
not_alone false (send r ms) c f ss = refl

pub alone_none : (ss : List Statement) → length ss < 1 → None ≡ alone (statements_view ss)
alone_none [] h = refl
alone_none (x ∷ ss) h = absurd (omega (arith, h))

pub alone_many : (ss : List Statement) → 2 ≤ length ss → None ≡ alone (statements_view ss)
alone_many [] h = absurd (omega (arith, h))
alone_many (x ∷ []) h = absurd (omega (arith, h))
alone_many (x ∷ y ∷ ss) h = not_alone x.returns (expression_view x.value) y.returns (expression_view y.value) (statements_view ss)

-- FORMS

pub two_less : (e : ExpressionView) (a : StatementsView) (la : ℕ) (b : StatementsView) (lb : ℕ) → lb < la → two_sides e a la b lb ≡ with_blocks e (codes "ifFalse:ifTrue:") b a
two_less e a la b lb h = let t : nat_lt lb la ≡ true = grind (arith, nat_tests, h) in ap (λ (c : Bool). if c then with_blocks e (codes "ifFalse:ifTrue:") b a else with_blocks e (codes "ifTrue:ifFalse:") a b) t

pub two_more : (e : ExpressionView) (a : StatementsView) (la : ℕ) (b : StatementsView) (lb : ℕ) → la ≤ lb → two_sides e a la b lb ≡ with_blocks e (codes "ifTrue:ifFalse:") a b
two_more e a la b lb h = let t : nat_lt lb la ≡ false = grind (arith, nat_tests, h) in ap (λ (c : Bool). if c then with_blocks e (codes "ifFalse:ifTrue:") b a else with_blocks e (codes "ifTrue:ifFalse:") a b) t

pub ruleset sides = (two_less, two_more)

pub choice_is : (on : Bool) (e : ExpressionView) (a : StatementsView) (la : ℕ) (b : StatementsView) (lb : ℕ) (o : Option (List ℕ)) → o ≡ one_sided_by on (alone b) → sides_by o e a la b lb ≡ choice_tree on e a la b lb
choice_is on e a la b lb o h = ap (λ (x : Option (List ℕ)). sides_by x e a la b lb) h
