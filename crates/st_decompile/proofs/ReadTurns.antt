-- What is done with the top of a stack.
use Rattle.std.proofs.Common.{◌≡◌, ℕ, suc, ◌+◌, ◌-◌, Bool, false, List, [], ◌∷◌, ◌++◌, map, Option, Some, None, refl, sym, ap, ap₂, ◌∙◌, subst}
use Rattle.std.proofs.lemmas.List.{append-nil, append_assoc, map-append}
use Rattle.std.proofs.lemmas.Option.{slice_get-map}
use Rattle.std.specs.Borrow.{Bor}
use Rattle.std.specs.Prelude.{slice_get, option_map}
use Rattle.std.specs.Slice.{IsItemAt}
use Rattle.st_emit.specs.declared.instruction.InstructionOperand.{InstructionOperand}
use Rattle.st_emit.specs.Selectors.{sends_now}
use Rattle.st_resolved.specs.Instructions.{on_some}
use Rattle.st_scan.specs.declared.tree.Name.{Name}
use Rattle.st_scan.specs.Views.{NameView, ExpressionView, name_view, names_view, no_statements}
use Rattle.st_scan.specs.Views as views
use Rattle.st_expression_stack.specs.Choosing.{called}
use Rattle.st_expression_stack.specs.declared.item.Piece.{Piece as Kept}
use Rattle.st_expression_stack.specs.declared.item.Item.{Item as KeptItem}
use Rattle.st_expression_stack.specs.declared.item.Item.TheVariants as kept
use Rattle.st_decompile.specs.declared.reading.Reading.{Reading}
use Rattle.st_expression_stack.specs.Items.{on_piece, Piece, Item, Taken, statements_of, arguments_of, piece, argument, goes_on, statements_from, put_low}
use Rattle.st_decompile.specs.Reading.{loop_piece, block_piece, least_among}
use Rattle.st_expression_stack.specs.inside.Stacks.{piece_view, stack_view, IsPieceless, IsPopped, IsArgumentless}
use Rattle.st_decompile.specs.inside.Read.{selector_now, name_by, literals_by, region_by, arguments_by, block_by, popped_by, popped_into_by, looped_by}
use Rattle.st_expression_stack.proofs.Stacking.{on_piece_none, stack_push, arguments_end}
use Rattle.st_expression_stack.proofs.Got.{got_as}

-- A PIECE ON TOP

pub piece_put : (old new : List KeptItem) (k : Kept) (p : Piece) → new ≡ old ++ kept.Piece k ∷ [] → piece_view k ≡ p → stack_view new ≡ piece p ∷ stack_view old
piece_put old new k p e is = stack_push old new (kept.Piece k) e ∙ ap (λ (x : Piece). piece x ∷ stack_view old) is

-- what stands on top where a piece was asked for
pub popped_none : {A : Type 0} (old new : List KeptItem) (v : Option Kept) (f : Piece → List Item → Option A) → v ≡ None → IsPopped old new v → None ≡ on_piece (stack_view old) f
popped_none old new v f e h = sym (on_piece_none (stack_view old) f (subst (IsPopped old new) e h).0)

pub popped_some : (old new : List KeptItem) (v : Option Kept) (p : Kept) → v ≡ Some p → IsPopped old new v → stack_view old ≡ piece (piece_view p) ∷ stack_view new
popped_some old new v p e h = (subst (IsPopped old new) e h).0

module _ (r : Reading) (place : InstructionOperand) where
  into_none : (xs : List Item) → IsPieceless xs → popped_into_by r place xs ≡ goes_on (argument place ∷ xs)
  into_none (piece x ∷ xs) h = absurd h
  into_none xs h = refl

  pub popped_is : (old new : List KeptItem) (value : Option Kept) → IsPopped old new value → popped_into_by r place (stack_view old) ≡ goes_on (popped_by r place (option_map piece_view value) ∷ stack_view new)
  popped_is old new None h = into_none (stack_view old) h.0 ∙ ap (λ (xs : List KeptItem). goes_on (argument place ∷ stack_view xs)) (sym h.1)
  popped_is old new (Some p) h = ap (popped_into_by r place) h.0

-- LOOPS

pub looped_on : (on : Bool) (at : ℕ) (body xs : List Item) (t : Option Taken) → t ≡ statements_from at no_statements 64 0 xs → on_some t (λ x. put_low (loop_piece on at x (statements_of body)) x.below) ≡ looped_by on at body xs
looped_on on at body xs t e = ap (λ (o : Option Taken). on_some o (λ x. put_low (loop_piece on at x (statements_of body)) x.below)) e

-- BLOCKS

abbrev piece_of : (at height : ℕ) → ExpressionView → ℕ → Piece
piece_of at height e l = record { returns = false; tree = e; start = at; least = l; height = height }

module _ (r : Reading) where
  abbrev block_as : ℕ → Taken → Piece
  block_as at t = block_piece (name_by r) (literals_by r) (region_by r 0) at t

  pub others_turn : (ns new : List Name) (name : Name) (xs ys : List Item) (p : InstructionOperand) (whole : List NameView) → xs ≡ argument p ∷ ys → new ≡ ns ++ name ∷ [] → name_view name ≡ called (name_by r p) → names_view ns ++ arguments_by r xs ≡ whole
      → names_view new ++ arguments_by r ys ≡ whole
  others_turn ns new name xs ys p whole e pushed is h =
      ap (λ (l : List NameView). l ++ arguments_by r ys) (ap names_view pushed ∙ map-append name_view ns (name ∷ []))
      ∙ append_assoc (names_view ns) (name_view name ∷ []) (arguments_by r ys) ∙ ap (λ (v : NameView). names_view ns ++ v ∷ arguments_by r ys) is
      ∙ ap (λ (zs : List Item). names_view ns ++ arguments_by r zs) (sym e) ∙ h

  pub others_end : (ns : List Name) (xs : List Item) (whole : List NameView) → IsArgumentless xs → names_view ns ++ arguments_by r xs ≡ whole → names_view ns ≡ whole
  others_end ns xs whole n h =
      sym (append-nil (names_view ns)) ∙ ap (λ (ps : List InstructionOperand). names_view ns ++ map (λ p. called (name_by r p)) ps) (sym (arguments_end xs n)) ∙ h

  pub none_declared : (ns : List Name) (xs : List Item) → ns ≡ [] → IsArgumentless xs → names_view ns ≡ arguments_by r xs
  none_declared ns xs e n = ap names_view e ∙ ap (map (λ p. called (name_by r p))) (sym (arguments_end xs n))

  pub block_is : (at : ℕ) (made : List Item) (t : Taken) (tree : ExpressionView) (least height : ℕ) (names : List NameView) → t ≡ statements_of made → tree ≡ views.block names t.statements → names ≡ arguments_by r t.below → least ≡ least_among (arguments_of t.below) t.least → height ≡ suc t.height
      → record { returns = false; tree = tree; start = at; least = least; height = height } ≡ block_by r at made
  block_is at made t tree least height names e is called_as least_is height_is =
      ap (λ (n : ℕ). piece_of at n tree least) height_is ∙ ap₂ (piece_of at (suc t.height)) (is ∙ ap (λ (ns : List NameView). views.block ns t.statements) called_as) least_is ∙ ap (block_as at) e

-- A TABLE OF SELECTORS

pub special_got : (t : List (Bor (List ℕ) × ℕ)) (i : ℕ) (r : Option (Bor (Bor (List ℕ) × ℕ))) → IsItemAt t i r → slice_get (map (λ (s : List ℕ × ℕ). s.0) (sends_now t)) i ≡ option_map selector_now r
special_got t i r h =
    slice_get-map (λ (s : List ℕ × ℕ). s.0) (sends_now t) i ∙ ap (option_map (λ (s : List ℕ × ℕ). s.0)) (got_as t i (λ (s : Bor (List ℕ) × ℕ). (s.0.now, s.1)) r h) ∙ same r
  where
    same : (o : Option (Bor (Bor (List ℕ) × ℕ))) → option_map (λ (s : List ℕ × ℕ). s.0) (option_map (λ (x : Bor (Bor (List ℕ) × ℕ)). (x.now.0.now, x.now.1)) o) ≡ option_map selector_now o
    same None = refl
    same (Some x) = refl
