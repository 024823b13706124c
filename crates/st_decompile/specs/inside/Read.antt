-- What contracts say of reading: the rows of `Reading` by what the code is read with.
use Rattle.std.specs.Prelude.{◌≡◌, ℕ, ◌+◌, ◌-◌, ◌==◌, Bool, true, false, min, List, [], ◌∷◌, map, take, drop, slice_get, Option, Some, None}
use Rattle.std.specs.Borrow.{Bor}
use Rattle.st_scan.specs.Views.{NameView, names_view, ExpressionView, no_statements}
use Rattle.st_emit.specs.declared.instruction.InstructionOperand.{InstructionOperand}
use Rattle.st_emit.specs.declared.instruction.Instruction.{Instruction}
use Rattle.st_emit.specs.declared.instruction.Instruction.TheVariants.{JumpIf, SendSpecial, Jump as JumpOver, JumpPast}
use Rattle.st_emit.specs.Literals.{LiteralView}
use Rattle.st_emit.specs.inside.Views.{literals_view}
use Rattle.st_emit.specs.Resolving.{special_selectors, first_special}
use Rattle.st_resolved.specs.Instructions.{on_some}
use Rattle.st_expression_stack.specs.declared.item.Item.{Item as KeptItem}
use Rattle.st_expression_stack.specs.inside.Stacks.{stack_view}
use Rattle.st_decompile.specs.declared.reading.Reading.{Reading}
use Rattle.st_decompile.specs.declared.region.Jump.{Jump}
use Rattle.st_decompile.specs.declared.region.Spot.{Spot}
use Rattle.st_decompile.specs.declared.reading.Declared.{Declared}
use Rattle.st_decompile.specs.declared.located.Located.{Located}
use Rattle.st_decompile.specs.inside.Located.{steps_in, AreSpaced}
use Rattle.st_expression_stack.specs.Choosing.{called}
use Rattle.st_expression_stack.specs.Items.{Piece, Item, piece, argument, over, Taken, statements_of, arguments_of, no_arguments, Acted, goes_on, on_piece, statements_from, put_low}
use Rattle.st_expression_stack.specs.Messages.{sends}
use Rattle.st_decompile.specs.Reading.{front, behind, least_among, symbol_of, choice_piece, loop_piece, assigned, pushed_tree, popped_into, stored_into, selector_at, block_piece, makes_block, decided, act, region, passes}
use Rattle.st_expression_stack.specs.Items as items
use Rattle.st_expression_stack.specs.inside.Called.{calling_view}
use Rattle.st_expression_stack.specs.Names.{name_in}

module _ (r : Reading) where
  abbrev pub name_by : InstructionOperand → List ℕ
  name_by = name_in (calling_view r.calling.now)

  abbrev pub literals_by : List LiteralView
  literals_by = literals_view r.literals.now

  abbrev pub region_by : (depth at : ℕ) → List Instruction → Option (List Item)
  region_by depth = region name_by literals_by depth

  abbrev pub act_by : (depth : ℕ) → Instruction → (at next : ℕ) → List Instruction → List Item → Option Acted
  act_by depth = act name_by literals_by (region_by depth)

  abbrev pub makes_block_by : (depth at : ℕ) → List Instruction → List Item → Option Acted
  makes_block_by depth = makes_block name_by literals_by (region_by depth)

  -- with what was read of a first side
  abbrev pub decided_by : (depth : ℕ) → (on : Bool) → (distance : ℕ) → Spot → (first xs : List Item) → Option Acted
  decided_by depth on distance s first xs = decided name_by literals_by (region_by depth) on s.next distance (steps_in s.rest.now) xs first

  abbrev pub assigned_by : InstructionOperand → Piece → Piece
  assigned_by = assigned name_by literals_by (region_by 0)

  abbrev pub pushed_by : InstructionOperand → Option ExpressionView
  pushed_by = pushed_tree name_by literals_by (region_by 0)

  abbrev pub popped_into_by : InstructionOperand → List Item → Option Acted
  popped_into_by = popped_into name_by literals_by (region_by 0)

  -- what a value that is popped into a variable becomes
  abbrev pub popped_by : InstructionOperand → Option Piece → Item
  popped_by place None = argument place
  popped_by place (Some p) = piece (assigned_by place p)

  abbrev pub stored_into_by : InstructionOperand → List Item → Option Acted
  stored_into_by = stored_into name_by literals_by (region_by 0)

  abbrev pub pushes_by : InstructionOperand → ℕ → List Item → Option Acted
  pushes_by p at xs = on_some (pushed_by p) (λ e. goes_on (piece (items.leaf e at) ∷ xs))

  -- the arguments of a block as names
  abbrev pub arguments_by : List Item → List NameView
  arguments_by xs = map (λ p. called (name_by p)) (arguments_of xs)

  abbrev pub sends_by : (above : Bool) → ℕ → List Item → Option Acted
  sends_by above k xs = on_some (on_some (slice_get literals_by k) symbol_of) (λ s. sends above s xs)

  abbrev pub block_by : ℕ → List Item → Piece
  block_by at xs = block_piece name_by literals_by (region_by 0) at (statements_of xs)

abbrev pub selector_in : List LiteralView → ℕ → Option (List ℕ)
selector_in ls k = on_some (slice_get ls k) symbol_of

abbrev pub special_sends_by : ℕ → List Item → Option Acted
special_sends_by code xs = on_some (slice_get special_selectors (code - first_special)) (λ s. sends false s xs)

abbrev pub returns_top_by : List Item → Option Acted
returns_top_by xs = on_piece xs (λ x below. goes_on (piece (record x { returns = true }) ∷ below))

-- an instruction that begins no region
abbrev pub IsPlain : Instruction → Type 0
IsPlain (JumpIf on d) = ⊥
IsPlain (SendSpecial code) = (code == 200) ≡ false
IsPlain step = Unit {0}

abbrev pub passed_by : List Instruction → Option (ℕ × List Instruction)
passed_by (JumpPast d ∷ ss) = Some (d, ss)
passed_by (JumpOver d ∷ ss) = Some (d, ss)
passed_by ss = None

abbrev pub IsPassed : List Located → Option (ℕ × Bor (List Located)) → Type 0
IsPassed ls None = passed_by (steps_in ls) ≡ None
IsPassed ls (Some p) = (passed_by (steps_in ls) ≡ Some (p.0, steps_in p.1.now)) × AreSpaced p.1.now

abbrev pub chosen_by : Bool → (first second xs : List Item) → Option (List Item)
chosen_by on a b xs = on_piece xs (λ x rest. put_low (choice_piece on x (statements_of a) (statements_of b)) rest)

abbrev pub looped_by : Bool → ℕ → (body xs : List Item) → Option (List Item)
looped_by on at a xs = on_some (statements_from at no_statements no_arguments 0 xs) (λ x. put_low (loop_piece on at x (statements_of a)) x.below)

abbrev pub selector_now : Bor (Bor (List ℕ) × ℕ) → List ℕ
selector_now row = row.now.0.now

-- the arguments of a block, and the number of the first one, or else the least within
abbrev pub AreDeclared : Reading → List Item → ℕ → Declared → Type 0
AreDeclared r xs least d = (names_view d.names.items ≡ arguments_by r xs) × (d.least ≡ least_among (arguments_of xs) least)

-- the top piece is taken, where there is one, and its code starts there
abbrev pub IsPieceStart : (old new : List KeptItem) → Option ℕ → Type 0
IsPieceStart old new None = (f : Piece → List Item → Option Acted) → on_piece (stack_view old) f ≡ None
IsPieceStart old new (Some at) = (f : ℕ → List Item → Option Acted) → on_piece (stack_view old) (λ x rest. f x.start rest) ≡ f at (stack_view new)

-- the active context is taken, and what lies above it
abbrev pub on_context : List Item → (Piece → List Item → Option Acted) → Option Acted
on_context xs f = on_piece xs (λ n below. on_piece below f)

abbrev pub IsBlockStart : (old new : List KeptItem) → Option ℕ → Type 0
IsBlockStart old new None = (f : Piece → List Item → Option Acted) → on_context (stack_view old) f ≡ None
IsBlockStart old new (Some at) = (f : ℕ → List Item → Option Acted) → on_context (stack_view old) (λ x rest. f x.start rest) ≡ f at (stack_view new)

-- a block whose code starts there, with what was read of its body
abbrev pub block_made_by : Reading → (start distance : ℕ) → Option (List Item) → List Item → Option Acted
block_made_by r start distance made xs = on_some made (λ body. passes (2 + distance) (block_by r start body) xs)

-- a conditional form with what was read of its second side
abbrev pub choice_made_by : Jump → (first : List Item) → Option (List Item) → List Item → Option Acted
choice_made_by j first second xs =
    on_some second (λ b. on_piece xs (λ x rest. passes (j.distance + j.end) (choice_piece j.on x (statements_of first) (statements_of b)) rest))

-- a loop whose jump back goes to its condition
abbrev pub repeats_by : Jump → (next : ℕ) → (body xs : List Item) → Option Acted
repeats_by j next body xs =
    let at = next + j.distance - j.end in
    on_some (statements_from at no_statements no_arguments 0 xs) (λ x. passes (j.distance + 1) (loop_piece j.on at x (statements_of body)) x.below)
