-- What contracts see of a stack of items.
use Rattle.std.specs.Prelude.{◌≡◌, ◌<◌, length, ℕ, Bool, true, false, min, max, reverse, List, [], ◌∷◌, Option, Some, None, Result, IfOk}
use Rattle.std.specs.Borrow.{Bor}
use Rattle.std.specs.Global.{Vec}
use Rattle.st_scan.specs.Views.{ExpressionsView, no_expressions, statement, expression_view, expressions_view, statements_view, messages_view}
use Rattle.st_emit.specs.declared.instruction.InstructionOperand.{InstructionOperand}
use Rattle.st_expression_stack.specs.declared.item.Piece.{Piece as Kept}
use Rattle.st_expression_stack.specs.declared.item.Statements.{Statements}
use Rattle.st_expression_stack.specs.declared.item.Item.{Item as KeptItem}
use Rattle.st_expression_stack.specs.declared.sending.Arguments.{Arguments}
use Rattle.st_expression_stack.specs.declared.item.Item.TheVariants as kept
use Rattle.st_expression_stack.specs.Items as items
use Rattle.st_expression_stack.specs.Items.{Piece, Item, Taken, no_arguments, Acted, goes_on}
use Rattle.st_expression_stack.specs.Messages.{with_arguments}

abbrev pub piece_view : Kept → Piece
piece_view p = record { returns = p.returns; tree = expression_view p.tree; start = p.start; least = p.least; height = p.height }

abbrev pub item_view : KeptItem → Item
item_view (kept.Piece p) = items.piece (piece_view p)
item_view (kept.Cascade p ms) = items.cascade (piece_view p) (messages_view ms.items)
item_view kept.Again = items.again
item_view kept.Answered = items.answered
item_view (kept.Argument p) = items.argument p
item_view (kept.Over d) = items.over d
item_view (kept.Back d) = items.back d

-- a stack, from the top down, over what lies below; the last item is the top
abbrev pub stack_onto : List Item → List KeptItem → List Item
stack_onto below [] = below
stack_onto below (x ∷ xs) = stack_onto (item_view x ∷ below) xs

abbrev pub stack_view : List KeptItem → List Item
stack_view xs = stack_onto [] xs

-- no piece is on top
abbrev pub IsPieceless : List Item → Type 0
IsPieceless (items.piece p ∷ xs) = ⊥
IsPieceless xs = Unit {0}

abbrev pub IsPopped : (old new : List KeptItem) → Option Kept → Type 0
IsPopped old new None = IsPieceless (stack_view old) × (new ≡ old)
IsPopped old new (Some p) = (stack_view old ≡ items.piece (piece_view p) ∷ stack_view new) × (length new < length old)

abbrev pub IsArgumentless : List Item → Type 0
IsArgumentless (items.argument p ∷ xs) = ⊥
IsArgumentless xs = Unit {0}

abbrev pub IsArgumentPopped : (old new : List KeptItem) → Option InstructionOperand → Type 0
IsArgumentPopped old new None = IsArgumentless (stack_view old) × (new ≡ old)
IsArgumentPopped old new (Some p) = (stack_view old ≡ items.argument p ∷ stack_view new) × (length new < length old)

-- statements in the other order, with one more before them
abbrev pub put_statement : Piece → Statements → Statements → Type 0
put_statement p old new =
    (statements_view (reverse new.list.items) ≡ statement p.returns p.tree (statements_view (reverse old.list.items)))
    × (new.least ≡ min p.least old.least)
    × (new.height ≡ max p.height old.height)

abbrev pub taken_view : Statements → List KeptItem → Taken
taken_view t below = record { statements = statements_view t.list.items; least = t.least; height = t.height; below = stack_view below }

abbrev pub taken_if : Option Statements → List KeptItem → Option Taken
taken_if None below = None
taken_if (Some t) below = Some (taken_view t below)

-- TEXTS

abbrev pub text_now : Bor (List ℕ) → List ℕ
text_now t = t.now

-- WHAT IS DONE

-- what has been read then, where it could be; nothing is passed
abbrev pub acted_if : Bool → List KeptItem → Option Acted
acted_if false xs = None
acted_if true xs = goes_on (stack_view xs)

-- with how many bytes are passed
abbrev pub acted_by : Option ℕ → List KeptItem → Option Acted
acted_by None xs = None
acted_by (Some skip) xs = Some (record { skip = skip; items = stack_view xs })

abbrev pub chosen_if : Bool → List KeptItem → Option (List Item)
chosen_if false xs = None
chosen_if true xs = Some (stack_view xs)

-- What was asked for is done, with this on the stack; or it answers that it can't be done, and this is nothing.
abbrev pub Acts : {E : Type 0} → Result Bool E → Vec KeptItem → Option Acted → Type 0
Acts result new acted = IfOk result (λ ok. acted_if ok new.items ≡ acted)

-- the same, with how many bytes are passed
abbrev pub Passes : {E : Type 0} → Result (Option ℕ) E → Vec KeptItem → Option Acted → Type 0
Passes result new acted = IfOk result (λ skip. acted_by skip new.items ≡ acted)

-- the same of a form
abbrev pub Chooses : {E : Type 0} → Result Bool E → Vec KeptItem → Option (List Item) → Type 0
Chooses result new chosen = IfOk result (λ ok. chosen_if ok new.items ≡ chosen)

abbrev pub stack_if : Option (Vec KeptItem) → Option (List Item)
stack_if None = None
stack_if (Some xs) = Some (stack_view xs.items)

-- the last pieces are taken as arguments
abbrev pub ArgumentsTaken : ℕ → (old new : List KeptItem) → Option Arguments → Type 0
ArgumentsTaken n old new None = (f : ExpressionsView → (l h : ℕ) → List Item → Option Acted) → with_arguments n no_expressions no_arguments 0 (stack_view old) f ≡ None
ArgumentsTaken n old new (Some a) =
    (f : ExpressionsView → (l h : ℕ) → List Item → Option Acted)
    → with_arguments n no_expressions no_arguments 0 (stack_view old) f ≡ f (expressions_view a.list.items) a.least a.height (stack_view new)
