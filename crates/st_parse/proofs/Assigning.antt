-- Names that are assigned to; and messages with arguments.
use Rattle.std.proofs.Common.{◌≡◌, ℕ, true, false, eqb, List, [], ◌∷◌, ◌++◌, length, refl, sym, ap, ◌∙◌, append_assoc}
use Rattle.std.proofs.lemmas.List.{append-nil}
use Rattle.st_scan.specs.declared.tree.Name.{Name}
use Rattle.st_scan.specs.declared.tree.Expression.{Expression}
use Rattle.st_scan.specs.Views.{NameView, ExpressionView, name_view, names_view, expressions_view}
use Rattle.st_scan.specs.Views as views
use Rattle.st_grammar.specs.declared.leaf.Leaf.{Leaf}
use Rattle.st_grammar.specs.Trees.{name_at, sent, sent_if}
use Rattle.st_grammar.specs.Reading.{is_target, targets_at, assigned_to}
use Rattle.st_parse.specs.inside.Phrases.{NoTarget, BeginsWithTarget}

names_view-push : (ns : List Name) (n : Name) → names_view (ns ++ n ∷ []) ≡ names_view ns ++ name_view n ∷ []
names_view-push [] n = refl
names_view-push (m ∷ ns) n = ap (λ (l : List NameView). name_view m ∷ l) (names_view-push ns n)

-- a step of the loop over targets
one_target : (text : List ℕ) (x y : Leaf) (rest : List Leaf) → is_target x y ≡ true → targets_at text (x ∷ y ∷ rest) ≡ (name_at text x ∷ (targets_at text rest).0, (targets_at text rest).1)
unfolding targets_at
one_target text x y rest e = rw e refl

pub no_target : (text : List ℕ) (ts : List Leaf) → NoTarget ts → targets_at text ts ≡ ([], ts)
unfolding targets_at
no_target text [] e = refl
no_target text (x ∷ []) e = refl
no_target text (x ∷ y ∷ ts) e = rw e refl

abbrev behind : List NameView → List NameView × List Leaf → List NameView × List Leaf
behind ns t = (ns ++ t.0, t.1)

pub target_turn : (text : List ℕ) (names more : List Name) (n : Name) (ts rest : List Leaf) (x : Leaf) (total : List NameView × List Leaf) → more ≡ names ++ n ∷ [] → name_view n ≡ name_at text x → BeginsWithTarget ts x rest
    → (names_view names ++ (targets_at text ts).0, (targets_at text ts).1) ≡ total → (names_view more ++ (targets_at text rest).0, (targets_at text rest).1) ≡ total
target_turn text names more n ts rest x total pushed is b so_far =
    let t = targets_at text rest in
    let front : names_view more ≡ names_view names ++ name_at text x ∷ [] = ap names_view pushed ∙ names_view-push names n ∙ ap (λ (v : NameView). names_view names ++ v ∷ []) is in
    ap (λ (ns : List NameView). behind ns t) front
    ∙ ap (λ (l : List NameView). (l, t.1)) (append_assoc (names_view names) (name_at text x ∷ []) t.0)
    ∙ ap (behind (names_view names)) (sym (one_target text x b.assign rest b.is))
    ∙ ap (λ (l : List Leaf). behind (names_view names) (targets_at text l)) (sym b.parts)
    ∙ so_far

pub target_end : (text : List ℕ) (names : List Name) (ts : List Leaf) (total : List NameView × List Leaf) → NoTarget ts → (names_view names ++ (targets_at text ts).0, (targets_at text ts).1) ≡ total → (names_view names, ts) ≡ total
target_end text names ts total e so_far =
    ap (λ (l : List NameView). (l, ts)) (sym (append-nil (names_view names))) ∙ ap (behind (names_view names)) (sym (no_target text ts e)) ∙ so_far

assigned_to-push : (ns : List NameView) (n : NameView) (t : ExpressionView) → assigned_to (ns ++ n ∷ []) t ≡ assigned_to ns (views.assign n t)
assigned_to-push [] n t = refl
assigned_to-push (m ∷ ns) n t = ap (views.assign m) (assigned_to-push ns n t)

pub assigned_turn : (names before : List Name) (n : Name) (t u total : ExpressionView) → names ≡ before ++ n ∷ [] → u ≡ views.assign (name_view n) t → assigned_to (names_view names) t ≡ total → assigned_to (names_view before) u ≡ total
assigned_turn names before n t u total popped is so_far =
    ap (assigned_to (names_view before)) is
    ∙ sym (assigned_to-push (names_view before) (name_view n) t)
    ∙ ap (λ (l : List NameView). assigned_to l t) (sym (names_view-push before n))
    ∙ ap (λ (l : List Name). assigned_to (names_view l) t) (sym popped)
    ∙ so_far

pub assigned_end : (names : List Name) (t total : ExpressionView) → names ≡ [] → assigned_to (names_view names) t ≡ total → t ≡ total
assigned_end names t total none so_far = ap (λ (l : List Name). assigned_to (names_view l) t) (sym none) ∙ so_far

pub sent_if-some : (t : ExpressionView) (selector : List ℕ) (es : List Expression) (n : ℕ) → n ≡ length es → false ≡ eqb n 0 → sent_if t selector (expressions_view es) ≡ sent t selector (expressions_view es)
sent_if-some t selector [] n is some =
    let zero_is : eqb n 0 ≡ true = ap (λ (k : ℕ). eqb k 0) is in
    absurd cc
sent_if-some t selector (e ∷ es) n is some = refl
