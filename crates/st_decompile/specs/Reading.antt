-- From instructions (chapter 28) to what they are made of, with a stack of what has been read.
use Rattle.std.specs.Prelude.{ℕ, zero, suc, ◌+◌, ◌-◌, ◌==◌, Bool, true, false, min, max, List, [], ◌∷◌, map, slice_get, Option, Some, None, option_map, if◌then◌else◌}
use Rattle.st_scan.specs.Views.{ExpressionView, StatementsView, no_statements}
use Rattle.st_scan.specs.Views as views
use Rattle.st_emit.specs.declared.instruction.InstructionOperand.{InstructionOperand}
use Rattle.st_emit.specs.declared.instruction.InstructionOperand.TheVariants.{Temporary, Literal}
use Rattle.st_emit.specs.declared.instruction.Instruction.{Instruction}
use Rattle.st_emit.specs.declared.instruction.Instruction.TheVariants.{Push, PushConstant, PushNumber, Store, PopStore, Pop, Duplicate, Send, SendSuper, SendSpecial, ReturnConstant, ReturnTop, ReturnBlock, Jump, JumpBack, JumpIf, JumpPast}
use Rattle.st_emit.specs.Steps.{size_of}
use Rattle.st_emit.specs.Literals.{LiteralView, symbol}
use Rattle.st_emit.specs.Resolving.{special_selectors, first_special, block_copy}
use Rattle.st_resolved.specs.Instructions.{on_some}
use Rattle.st_expression_stack.specs.Items.{Piece, Item, piece, argument, over, back, no_arguments, leaf, Acted, goes_on, on_piece, put_low, Taken, statements_of, statements_from, arguments_of}
use Rattle.st_expression_stack.specs.Messages.{sends, doubled, popped}
use Rattle.st_expression_stack.specs.Choosing.{called, constant_tree, small_tree, literal_tree, choice_tree, loop_tree}

-- the first instructions, and those behind them, by their bytes
abbrev pub front : ℕ → List Instruction → List Instruction
front d [] = []
front d (s ∷ ss) = if d == 0 then [] else s ∷ front (d - size_of s) ss

abbrev pub behind : ℕ → List Instruction → List Instruction
behind d [] = []
behind d (s ∷ ss) = if d == 0 then s ∷ ss else behind (d - size_of s) ss

abbrev pub symbol_of : LiteralView → Option (List ℕ)
symbol_of (symbol text) = Some text
symbol_of _ = None

-- REGIONS

abbrev pub argument_number : InstructionOperand → ℕ
argument_number (Temporary n) = n
argument_number p = no_arguments

abbrev pub least_among : List InstructionOperand → ℕ → ℕ
least_among [] l = l
least_among (p ∷ ps) l = argument_number p

abbrev pub choice_piece : (on : Bool) → Piece → (a b : Taken) → Piece
choice_piece on x a b = record x {
  tree = choice_tree on x.tree a.statements a.least b.statements b.least;
  least = min x.least (min a.least b.least);
  height = max x.height (suc (max a.height b.height));
}

abbrev pub loop_piece : (on : Bool) → ℕ → (x a : Taken) → Piece
loop_piece on at x a = record {
  returns = false;
  tree = loop_tree on x.statements a.statements;
  start = at;
  least = min x.least a.least;
  height = suc (max x.height a.height);
}

-- a piece of instructions that are passed, if a text may have it
abbrev pub passes : (skip : ℕ) → Piece → List Item → Option Acted
passes skip p items = on_some (put_low p items) (λ made. Some (record { skip = skip; items = made }))

-- a jump over the body of a block
abbrev pub passed : List Instruction → (ℕ → List Instruction → Option Acted) → Option Acted
passed (JumpPast d ∷ ss) f = f d ss
passed (Jump d ∷ ss) f = f d ss
passed ss f = None

-- what variables are called, the literals, and how the instructions of a region at a place are read
module _ (name_of : InstructionOperand → List ℕ) (literals : List LiteralView) (region : ℕ → List Instruction → Option (List Item)) where
  abbrev pub assigned : InstructionOperand → Piece → Piece
  assigned p x = record x { tree = views.assign (called (name_of p)) x.tree }

  abbrev pub pushed_tree : InstructionOperand → Option ExpressionView
  pushed_tree (Literal n) = option_map literal_tree (slice_get literals n)
  pushed_tree p = Some (views.variable (called (name_of p)))

  -- an assignment, or an argument of a block where nothing stands before it
  abbrev pub popped_into : InstructionOperand → List Item → Option Acted
  popped_into p (piece x ∷ items) = goes_on (piece (assigned p x) ∷ items)
  popped_into p items = goes_on (argument p ∷ items)

  abbrev pub stored_into : InstructionOperand → List Item → Option Acted
  stored_into p items = on_piece items (λ x below. goes_on (piece (assigned p x) ∷ below))

  abbrev pub selector_at : ℕ → Option (List ℕ)
  selector_at n = on_some (slice_get literals n) symbol_of

  abbrev pub block_tree : List InstructionOperand → StatementsView → ExpressionView
  block_tree ps ss = views.block (map (λ p. called (name_of p)) ps) ss

  abbrev pub block_piece : ℕ → Taken → Piece
  block_piece at t = let ps = arguments_of t.below in record {
    returns = false;
    tree = block_tree ps t.statements;
    start = at;
    least = least_among ps t.least;
    height = suc t.height;
  }

  -- a block, behind the active context and the count of its arguments
  abbrev pub makes_block : ℕ → List Instruction → List Item → Option Acted
  makes_block at ss items =
      on_piece items (λ n below. on_piece below (λ x rest. passed ss (λ d inside.
      on_some (region (at + 2) (front d inside)) (λ made. passes (2 + d) (block_piece x.start (statements_of made)) rest))))

  -- a conditional form: behind the jump stands the first side with a jump over the second one, or a loop's body with a
  -- jump back
  abbrev pub decided : (on : Bool) → (at d : ℕ) → List Instruction → List Item → List Item → Option Acted
  decided on at d ss items (over e ∷ a) =
      on_some (region (at + d) (front e (behind d ss))) (λ b. on_piece items (λ x rest. passes (d + e) (choice_piece on x (statements_of a) (statements_of b)) rest))
  decided on at d ss items (back e ∷ a) =
      on_some (statements_from (at + d - e) no_statements no_arguments 0 items) (λ x. passes (d + 1) (loop_piece on (at + d - e) x (statements_of a)) x.below)
  decided on at d ss items a = None

  -- one instruction at a place, given those behind it; a place is that of its first byte, `next` that behind it
  abbrev pub act : Instruction → (at next : ℕ) → List Instruction → List Item → Option Acted
  act (Push p) at next ss items = on_some (pushed_tree p) (λ e. goes_on (piece (leaf e at) ∷ items))
  act (PushConstant k) at next ss items = goes_on (piece (leaf (constant_tree k) at) ∷ items)
  act (PushNumber n) at next ss items = goes_on (piece (leaf (small_tree n) at) ∷ items)
  act (Store p) at next ss items = stored_into p items
  act (PopStore p) at next ss items = popped_into p items
  act Pop at next ss items = goes_on (popped items)
  act Duplicate at next ss items = doubled items
  act (Send n k) at next ss items = on_some (selector_at k) (λ s. sends false s items)
  act (SendSuper n k) at next ss items = on_some (selector_at k) (λ s. sends true s items)
  act (SendSpecial code) at next ss items =
      if code == first_special + block_copy then makes_block next ss items else on_some (slice_get special_selectors (code - first_special)) (λ s. sends false s items)
  act (ReturnConstant k) at next ss items = goes_on (piece (record (leaf (constant_tree k) at) { returns = true }) ∷ items)
  act ReturnTop at next ss items = on_piece items (λ x below. goes_on (piece (record x { returns = true }) ∷ below))
  act ReturnBlock at next ss items = goes_on items
  act (Jump d) at next ss items = goes_on (over d ∷ items)
  act (JumpPast d) at next ss items = goes_on (over d ∷ items)
  act (JumpBack d) at next ss items = goes_on (back d ∷ items)
  act (JumpIf on d) at next ss items = on_some (region next (front d ss)) (decided on next d ss items)

  abbrev pub run : (skip at : ℕ) → List Instruction → List Item → Option (List Item)
  run skip at [] items = Some items
  run skip at (s ∷ ss) items =
      if skip == 0 then on_some (act s at (at + size_of s) ss items) (λ a. run a.skip (at + size_of s) ss a.items) else run (skip - size_of s) (at + size_of s) ss items

-- the instructions of a region, which holds regions in one another up to so many
module _ (name_of : InstructionOperand → List ℕ) (literals : List LiteralView) where
  abbrev pub region : ℕ → ℕ → List Instruction → Option (List Item)
  region zero at ss = None
  region (suc f) at ss = run name_of literals (region f) 0 at ss []
