-- What is taken off a stack of items, one after the other.
use Rattle.std.proofs.Common.{◌≡◌, ℕ, suc, ◌<◌, min, max, Bool, true, List, [], ◌∷◌, ◌++◌, length, Option, Some, None, refl, sym, ap, ap₂, ◌∙◌, subst, arith}
use Rattle.std.specs.Prelude.{◌==◌, reverse, if◌then◌else◌}
use Rattle.std.proofs.lemmas.List.{reverse-append}
use Rattle.st_scan.specs.declared.tree.Expression.{Expression}
use Rattle.st_scan.specs.Views.{StatementsView, ExpressionsView, statement, expression, expression_view, expressions_view}
use Rattle.st_emit.specs.declared.instruction.InstructionOperand.{InstructionOperand}
use Rattle.st_expression_stack.specs.declared.item.Piece.{Piece as Kept}
use Rattle.st_expression_stack.specs.declared.item.Item.{Item as KeptItem}
use Rattle.st_expression_stack.specs.declared.item.Item.TheVariants as kept
use Rattle.st_expression_stack.specs.Items.{Piece, Item, piece, argument, is_low, put_low, Taken, statements_before, arguments_of, Acted, statements_from, on_piece}
use Rattle.st_expression_stack.specs.Items as items
use Rattle.st_expression_stack.specs.Messages.{with_arguments}
use Rattle.st_expression_stack.specs.inside.Stacks.{piece_view, item_view, stack_onto, stack_view, chosen_if, IsPieceless, IsArgumentless}

-- one more on top
pub stack_more : (below : List Item) (xs : List KeptItem) (x : KeptItem) → stack_onto below (xs ++ x ∷ []) ≡ item_view x ∷ stack_onto below xs
stack_more below [] x = refl
stack_more below (y ∷ xs) x = stack_more (item_view y ∷ below) xs x

pub stack_push : (old new : List KeptItem) (x : KeptItem) → new ≡ old ++ x ∷ [] → stack_view new ≡ item_view x ∷ stack_view old
stack_push old new x e = ap stack_view e ∙ stack_more [] old x

-- STATEMENTS

pub taken_turn : (ss ss' : StatementsView) (l l' h h' : ℕ) (p : Piece) (xs xs' : List Item) (whole : Taken) → xs ≡ piece p ∷ xs' → ss' ≡ statement p.returns p.tree ss → l' ≡ min p.least l → h' ≡ max p.height h
    → statements_before ss l h xs ≡ whole → statements_before ss' l' h' xs' ≡ whole
taken_turn ss ss' l l' h h' p xs xs' whole e s m k i =
    ap₂ (λ (x : StatementsView) (n : ℕ). statements_before x n h' xs') s m ∙ ap (λ (n : ℕ). statements_before (statement p.returns p.tree ss) (min p.least l) n xs') k ∙ sym (ap (statements_before ss l h) e) ∙ i

pub taken_end : (ss : StatementsView) (l h : ℕ) (xs : List Item) → IsPieceless xs → statements_before ss l h xs ≡ record { statements = ss; least = l; height = h; below = xs }
taken_end ss l h [] n = refl
taken_end ss l h (piece p ∷ xs) n = absurd n
taken_end ss l h (items.cascade p ms ∷ xs) n = refl
taken_end ss l h (items.again ∷ xs) n = refl
taken_end ss l h (items.answered ∷ xs) n = refl
taken_end ss l h (argument p ∷ xs) n = refl
taken_end ss l h (items.over d ∷ xs) n = refl
taken_end ss l h (items.back d ∷ xs) n = refl

abbrev from_by : (is_last : Bool) → ℕ → StatementsView → (l h : ℕ) → List Item → Option Taken
from_by is_last at ss l h xs = if is_last then Some (record { statements = ss; least = l; height = h; below = xs }) else statements_from at ss l h xs

pub from_turn : (at : ℕ) (ss ss' : StatementsView) (l l' h h' : ℕ) (p : Piece) (xs xs' : List Item) (whole : Option Taken) (is_last : Bool) → (p.start == at) ≡ is_last
    → xs ≡ piece p ∷ xs' → ss' ≡ statement p.returns p.tree ss → l' ≡ min p.least l → h' ≡ max p.height h → statements_from at ss l h xs ≡ whole → from_by is_last at ss' l' h' xs' ≡ whole
from_turn at ss ss' l l' h h' p xs xs' whole is_last t e s m k i =
    ap₂ (λ (x : StatementsView) (n : ℕ). from_by is_last at x n h' xs') s m
    ∙ ap (λ (n : ℕ). from_by is_last at (statement p.returns p.tree ss) (min p.least l) n xs') k
    ∙ sym (ap (λ (b : Bool). from_by b at (statement p.returns p.tree ss) (min p.least l) (max p.height h) xs') t)
    ∙ sym (ap (statements_from at ss l h) e) ∙ i

pub from_end : (at : ℕ) (ss : StatementsView) (l h : ℕ) (xs : List Item) → IsPieceless xs → statements_from at ss l h xs ≡ None
from_end at ss l h [] n = refl
from_end at ss l h (piece p ∷ xs) n = absurd n
from_end at ss l h (items.cascade p ms ∷ xs) n = refl
from_end at ss l h (items.again ∷ xs) n = refl
from_end at ss l h (items.answered ∷ xs) n = refl
from_end at ss l h (argument p ∷ xs) n = refl
from_end at ss l h (items.over d ∷ xs) n = refl
from_end at ss l h (items.back d ∷ xs) n = refl

-- ONE PIECE

pub on_piece_none : {A : Type 0} (xs : List Item) (f : Piece → List Item → Option A) → IsPieceless xs → on_piece xs f ≡ None
on_piece_none [] f n = refl
on_piece_none (piece p ∷ xs) f n = absurd n
on_piece_none (items.cascade p ms ∷ xs) f n = refl
on_piece_none (items.again ∷ xs) f n = refl
on_piece_none (items.answered ∷ xs) f n = refl
on_piece_none (argument p ∷ xs) f n = refl
on_piece_none (items.over d ∷ xs) f n = refl
on_piece_none (items.back d ∷ xs) f n = refl

pub on_piece_some : {A : Type 0} (xs below : List Item) (p : Piece) (f : Piece → List Item → Option A) → xs ≡ piece p ∷ below → on_piece xs f ≡ f p below
on_piece_some xs below p f e = ap (λ (l : List Item). on_piece l f) e

-- ARGUMENTS

pub arguments_turn : (n m : ℕ) (es es' : ExpressionsView) (l l' h h' : ℕ) (p : Piece) (xs xs' : List Item) (f : ExpressionsView → (l h : ℕ) → List Item → Option Acted) → n ≡ suc m
    → xs ≡ piece p ∷ xs' → es' ≡ expression p.tree es → l' ≡ min p.least l → h' ≡ max (suc p.height) h → with_arguments m es' l' h' xs' f ≡ with_arguments n es l h xs f
arguments_turn n m es es' l l' h h' p xs xs' f k e s d i =
    ap₂ (λ (x : ExpressionsView) (y : ℕ). with_arguments m x y h' xs' f) s d
    ∙ ap (λ (y : ℕ). with_arguments m (expression p.tree es) (min p.least l) y xs' f) i
    ∙ sym (ap₂ (λ (a : ℕ) (x : List Item). with_arguments a es l h x f) k e)

pub arguments_none : (n m : ℕ) (es : ExpressionsView) (l h : ℕ) (xs : List Item) (f : ExpressionsView → (l h : ℕ) → List Item → Option Acted) → n ≡ suc m → IsPieceless xs → with_arguments n es l h xs f ≡ None
arguments_none n m es l h xs f k i = ap (λ (a : ℕ). with_arguments a es l h xs f) k ∙ by_items xs i
  where
    by_items : (ys : List Item) → IsPieceless ys → with_arguments (suc m) es l h ys f ≡ None
    by_items [] i = refl
    by_items (piece p ∷ ys) i = absurd i
    by_items (items.cascade p ms ∷ ys) i = refl
    by_items (items.again ∷ ys) i = refl
    by_items (items.answered ∷ ys) i = refl
    by_items (argument p ∷ ys) i = refl
    by_items (items.over d ∷ ys) i = refl
    by_items (items.back d ∷ ys) i = refl

pub arguments_end : (xs : List Item) → IsArgumentless xs → arguments_of xs ≡ []
arguments_end [] n = refl
arguments_end (piece p ∷ xs) n = refl
arguments_end (items.cascade p ms ∷ xs) n = refl
arguments_end (items.again ∷ xs) n = refl
arguments_end (items.answered ∷ xs) n = refl
arguments_end (argument p ∷ xs) n = absurd n
arguments_end (items.over d ∷ xs) n = refl
arguments_end (items.back d ∷ xs) n = refl

-- WHAT WAS ON TOP

pub length_more : (xs : List KeptItem) (x : KeptItem) → length xs < length (xs ++ x ∷ [])
length_more [] x = omega arith
length_more (y ∷ xs) x = omega (arith, length_more xs x)

pub piece_on_top : (xs : List KeptItem) (x : KeptItem) (p : Kept) → x ≡ kept.Piece p → (stack_view (xs ++ x ∷ []) ≡ piece (piece_view p) ∷ stack_view xs) × (length xs < length (xs ++ x ∷ []))
piece_on_top xs x p e = (stack_more [] xs x ∙ ap (λ (y : KeptItem). item_view y ∷ stack_view xs) e, length_more xs x)

pub argument_on_top : (xs : List KeptItem) (x : KeptItem) (p : InstructionOperand) → x ≡ kept.Argument p → (stack_view (xs ++ x ∷ []) ≡ argument p ∷ stack_view xs) × (length xs < length (xs ++ x ∷ []))
argument_on_top xs x p e = (stack_more [] xs x ∙ ap (λ (y : KeptItem). item_view y ∷ stack_view xs) e, length_more xs x)

-- a piece that a text may have
pub put_is : (xs new : List KeptItem) (p : Kept) (low : Bool) → low ≡ is_low p.height → low ≡ true → new ≡ xs ++ kept.Piece p ∷ [] → chosen_if true new ≡ put_low (piece_view p) (stack_view xs)
put_is xs new p low is so n =
    ap (λ (ys : List Item). Some ys) (stack_push xs new (kept.Piece p) n)
    ∙ sym (ap (λ (b : Bool). if b then Some (piece (piece_view p) ∷ stack_view xs) else None) (sym is ∙ so))

pieceless : (x : KeptItem) (ys : List Item) → ((p : Kept) → x ≡ kept.Piece p → ⊥) → IsPieceless (item_view x ∷ ys)
pieceless (kept.Piece p) ys n = n p refl
pieceless (kept.Cascade p ms) ys n = tt
pieceless kept.Again ys n = tt
pieceless kept.Answered ys n = tt
pieceless (kept.Argument p) ys n = tt
pieceless (kept.Over d) ys n = tt
pieceless (kept.Back d) ys n = tt

pub none_on_top : (xs : List KeptItem) (x : KeptItem) → ((p : Kept) → x ≡ kept.Piece p → ⊥) → IsPieceless (stack_view (xs ++ x ∷ []))
none_on_top xs x n = subst IsPieceless (sym (stack_more [] xs x)) (pieceless x (stack_view xs) n)

argumentless : (x : KeptItem) (ys : List Item) → ((p : InstructionOperand) → x ≡ kept.Argument p → ⊥) → IsArgumentless (item_view x ∷ ys)
argumentless (kept.Piece p) ys n = tt
argumentless (kept.Cascade p ms) ys n = tt
argumentless kept.Again ys n = tt
argumentless kept.Answered ys n = tt
argumentless (kept.Argument p) ys n = n p refl
argumentless (kept.Over d) ys n = tt
argumentless (kept.Back d) ys n = tt

pub no_argument_on_top : (xs : List KeptItem) (x : KeptItem) → ((p : InstructionOperand) → x ≡ kept.Argument p → ⊥) → IsArgumentless (stack_view (xs ++ x ∷ []))
no_argument_on_top xs x n = subst IsArgumentless (sym (stack_more [] xs x)) (argumentless x (stack_view xs) n)

-- one more argument, of those that stand in the other order
pub argument_put : (es : List Expression) (e : Expression) → expressions_view (reverse (es ++ e ∷ [])) ≡ expression (expression_view e) (expressions_view (reverse es))
argument_put es e = ap expressions_view (reverse-append es (e ∷ []))
