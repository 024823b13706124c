-- What has been read of code so far, the last on top.
use Rattle.std.specs.Prelude.{ℕ, ◌==◌, nat_le, Bool, false, min, max, List, [], ◌∷◌, Option, Some, None, if◌then◌else◌}
use Rattle.st_scan.specs.Views.{ExpressionView, StatementsView, MessagesView, no_statements, statement}
use Rattle.st_emit.specs.declared.instruction.InstructionOperand.{InstructionOperand}

-- An expression, or a statement: whether it is returned, where its code starts, the least number of a block argument within,
-- so that two blocks are put into the order of the text, and how many arguments and blocks stand in one another at most.
pub record Piece : Type 0 where
  pub returns : Bool
  pub tree : ExpressionView
  pub start : ℕ
  pub least : ℕ
  pub height : ℕ

pub data Item : Type 0 where
  piece : Piece → Item
  -- a receiver and the messages so far; the receiver once more; and the answer of a message that isn't the last one
  cascade : Piece → MessagesView → Item
  again : Item
  answered : Item
  -- an argument of a block; and the jumps at the end of a region: over the second side, and back
  argument : InstructionOperand → Item
  over : ℕ → Item
  back : ℕ → Item

-- more than each number of a block argument
abbrev pub no_arguments : ℕ
no_arguments = 64

abbrev pub leaf : ExpressionView → ℕ → Piece
leaf e at = record { returns = false; tree = e; start = at; least = no_arguments; height = 0 }

-- what has been read, and how many bytes are passed behind the instruction
pub record Acted : Type 0 where
  pub skip : ℕ
  pub items : List Item

abbrev pub goes_on : List Item → Option Acted
goes_on items = Some (record { skip = 0; items = items })

abbrev pub on_piece : {A : Type 0} → List Item → (Piece → List Item → Option A) → Option A
on_piece (piece p ∷ items) f = f p items
on_piece items f = None

-- HEIGHT

-- A text has at most 200 brackets in one another, and between two of them a keyword's argument may hold an operator's.
abbrev pub most_high : ℕ
most_high = 602

-- a text may have so many arguments and blocks in one another
abbrev pub is_low : ℕ → Bool
is_low height = nat_le height most_high

-- a piece more, if a text may have it
abbrev pub put_low : Piece → List Item → Option (List Item)
put_low p items = if is_low p.height then Some (piece p ∷ items) else None

-- STATEMENTS

-- statements from the top down to what is none, before others
pub record Taken : Type 0 where
  pub statements : StatementsView
  pub least : ℕ
  pub height : ℕ
  pub below : List Item

abbrev pub statements_before : StatementsView → (l h : ℕ) → List Item → Taken
statements_before ss l h (piece p ∷ items) = statements_before (statement p.returns p.tree ss) (min p.least l) (max p.height h) items
statements_before ss l h items = record { statements = ss; least = l; height = h; below = items }

abbrev pub statements_of : List Item → Taken
statements_of items = statements_before no_statements no_arguments 0 items

-- from the top down to the one that starts at a place, before others
abbrev pub statements_from : ℕ → StatementsView → (l h : ℕ) → List Item → Option Taken
statements_from at ss l h (piece p ∷ items) =
    let more = statement p.returns p.tree ss in
    let less = min p.least l in
    let high = max p.height h in
    if p.start == at then Some (record { statements = more; least = less; height = high; below = items }) else statements_from at more less high items
statements_from at ss l h items = None

-- the arguments of a block, the first one on top
abbrev pub arguments_of : List Item → List InstructionOperand
arguments_of (argument p ∷ items) = p ∷ arguments_of items
arguments_of items = []
