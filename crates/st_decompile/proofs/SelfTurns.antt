-- The turns of counting statements up to ^self.
use Rattle.std.proofs.Common.{◌≡◌, ◌<◌, ◌≤◌, ℕ, ◌+◌, Bool, true, false, List, [], ◌∷◌, ◌++◌, take, drop, length, get_or, refl, sym, ap, ◌∙◌, arith}
use Rattle.std.proofs.lemmas.List.{take_more, take_all, at_drop_more, at_drop_all}
use Rattle.std.specs.Prelude.{if◌then◌else◌}
use Rattle.st_scan.specs.declared.tree.Statement.{Statement}
use Rattle.st_scan.specs.Views.{StatementsView, statement, no_statements, expression_view, statements_view}
use Rattle.st_decompile.specs.Back.{is_self, without_self}

-- statements before others
abbrev pub before_others : List Statement → StatementsView → StatementsView
before_others [] v = v
before_others (s ∷ ss) v = statement s.returns (expression_view s.value) (before_others ss v)

pub before_none : (ss : List Statement) → before_others ss no_statements ≡ statements_view ss
before_none [] = refl
before_none (s ∷ ss) = ap (statement s.returns (expression_view s.value)) (before_none ss)

pub before_push : (ss : List Statement) (s : Statement) (v : StatementsView) → before_others (ss ++ s ∷ []) v ≡ before_others ss (statement s.returns (expression_view s.value) v)
before_push [] s v = refl
before_push (x ∷ ss) s v = ap (statement x.returns (expression_view x.value)) (before_push ss s v)

pub self_turn : (s : Statement) (ss : List Statement) → s.returns ≡ false → without_self (statements_view (s ∷ ss)) ≡ statement s.returns (expression_view s.value) (without_self (statements_view ss))
self_turn s ss e =
    ap (λ (b : Bool). without_self (statement b (expression_view s.value) (statements_view ss))) e
    ∙ sym (ap (λ (b : Bool). statement b (expression_view s.value) (without_self (statements_view ss))) e)

pub self_is : (s : Statement) (ss : List Statement) → s.returns ≡ true → is_self (expression_view s.value) ≡ true → without_self (statements_view (s ∷ ss)) ≡ no_statements
self_is s ss e i =
    ap (λ (b : Bool). without_self (statement b (expression_view s.value) (statements_view ss))) e
    ∙ ap (λ (b : Bool). if b then no_statements else statement true (expression_view s.value) no_statements) i

pub self_not : (s : Statement) (ss : List Statement) → s.returns ≡ true → is_self (expression_view s.value) ≡ false → without_self (statements_view (s ∷ ss)) ≡ statement s.returns (expression_view s.value) no_statements
self_not s ss e i =
    ap (λ (b : Bool). without_self (statement b (expression_view s.value) (statements_view ss))) e
    ∙ ap (λ (b : Bool). if b then no_statements else statement true (expression_view s.value) no_statements) i
    ∙ sym (ap (λ (b : Bool). statement b (expression_view s.value) no_statements) e)

-- TURNS

module _ (ss : List Statement) (i : ℕ) where
  -- so many are counted
  abbrev pub Counted : ℕ → Type 0
  Counted n = before_others (take n ss) (without_self (statements_view (drop n ss))) ≡ without_self (statements_view ss)

  module _ (s : Statement) (less : i < length ss) (is : s ≡ get_or ss i s) (counted : Counted i) where
    next : drop i ss ≡ s ∷ drop (i + 1) ss
    next = at_drop_more (λ (xs : List Statement). xs) ss i s less ∙ ap (λ (x : Statement). x ∷ drop (i + 1) ss) (sym is)

    taken : take (i + 1) ss ≡ take i ss ++ s ∷ []
    taken = take_more ss i s less ∙ ap (λ (x : Statement). take i ss ++ x ∷ []) (sym is)

    begun : without_self (statements_view ss) ≡ before_others (take i ss) (without_self (statements_view (s ∷ drop (i + 1) ss)))
    begun = sym counted ∙ ap (λ (xs : List Statement). before_others (take i ss) (without_self (statements_view xs))) next

    pub count_here : s.returns ≡ true → is_self (expression_view s.value) ≡ true → without_self (statements_view ss) ≡ statements_view (take i ss)
    count_here r e = begun ∙ ap (before_others (take i ss)) (self_is s (drop (i + 1) ss) r e) ∙ before_none (take i ss)

    pub count_next : s.returns ≡ true → is_self (expression_view s.value) ≡ false → without_self (statements_view ss) ≡ statements_view (take (i + 1) ss)
    count_next r e =
        begun ∙ ap (before_others (take i ss)) (self_not s (drop (i + 1) ss) r e) ∙ sym (before_push (take i ss) s no_statements)
        ∙ before_none (take i ss ++ s ∷ []) ∙ ap statements_view (sym taken)

    pub count_turn : s.returns ≡ false → Counted (i + 1)
    count_turn r =
        ap (λ (xs : List Statement). before_others xs (without_self (statements_view (drop (i + 1) ss)))) taken
        ∙ before_push (take i ss) s (without_self (statements_view (drop (i + 1) ss)))
        ∙ ap (before_others (take i ss)) (sym (self_turn s (drop (i + 1) ss) r)) ∙ sym begun

  pub count_end : length ss ≤ i → Counted i → without_self (statements_view ss) ≡ statements_view (take (length ss) ss)
  count_end h counted =
      sym counted ∙ at_drop_all (λ (xs : List Statement). before_others (take i ss) (without_self (statements_view xs))) ss i h
      ∙ before_none (take i ss) ∙ ap statements_view (take_all i ss h ∙ sym (take_all (length ss) ss (omega arith)))
