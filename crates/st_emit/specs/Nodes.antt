-- A method's tree with its names resolved: variables by their numbers, literals and selectors by their places, and the
-- conditional forms told from messages.
use Rattle.std.specs.Prelude.{ℕ, ◌+◌, Bool, true, false, List}
use Rattle.st_emit.specs.declared.instruction.Constant.{Constant}
use Rattle.st_emit.specs.declared.instruction.InstructionOperand.{InstructionOperand}
use Rattle.st_emit.specs.declared.form.By.{By}
use Rattle.st_emit.specs.declared.form.Lookup.{Lookup}
use Rattle.st_emit.specs.declared.form.Lookup.TheVariants.{InClass, InSuperclass}
use Rattle.st_emit.specs.declared.form.OneSided.{OneSided}
use Rattle.st_emit.specs.declared.form.TwoSided.{TwoSided}
use Rattle.st_emit.specs.declared.form.Loop.{Loop}
use Rattle.st_emit.specs.Literals.{LiteralView}

-- a message to super is looked up above the class of its method
abbrev pub is_above : Lookup → Bool
is_above InClass = false
is_above InSuperclass = true

-- a selector, and how it is sent
pub record Sending : Type 0 where
  pub selector : List ℕ
  pub by : By

mutual
  pub data Node : Type 0 where
    constant : Constant → Node
    -- a number from -1 to 2, by one more than it
    small : ℕ → Node
    literal : LiteralView → (place : ℕ) → Node
    variable : InstructionOperand → Node
    assign : InstructionOperand → Node → Node
    -- a block: the number of its first argument, how many it has, that count as a node, and its statements
    block : (first arguments : ℕ) → Node → Body → Node
    -- a receiver and its messages, to super or not
    send : (above : Bool) → Node → Messages → Node
    one_sided : OneSided → Node → Body → Node
    two_sided : TwoSided → Node → Body → Body → Node
    loop : Loop → Body → Body → Node

  -- statements: none, the last one, one before others, or the one after ^
  pub data Body : Type 0 where
    nothing : Body
    last : Node → Body
    next : Node → Body → Body
    returned : Node → Body

  -- the last message of a cascade, or the one message; and one before others
  pub data Messages : Type 0 where
    only : Sending → Nodes → Messages
    also : Sending → Nodes → Messages → Messages

  pub data Nodes : Type 0 where
    none : Nodes
    node : Node → Nodes → Nodes

-- how many there are
abbrev pub count : Nodes → ℕ
count none = 0
count (node n ns) = count ns + 1

-- the statements of a block
abbrev pub body_of : Node → Body
body_of (block first arguments n body) = body
body_of _ = nothing

-- WHAT IS DONE TO A NODE

-- it is assigned to a variable; messages are sent to it; or it stands before the blocks of a conditional form
pub data Tail : Type 0 where
  assigned : InstructionOperand → Tail
  sent : (above : Bool) → Messages → Tail
  sided : OneSided → Body → Tail
  chosen : TwoSided → Body → Body → Tail
  looped : Loop → Body → Tail

abbrev pub with_tail : Node → Tail → Node
with_tail n (assigned p) = assign p n
with_tail n (sent above ms) = send above n ms
with_tail n (sided side a) = one_sided side n a
with_tail n (chosen side a b) = two_sided side n a b
with_tail n (looped kind a) = loop kind (body_of n) a

-- the statements end with a ^
abbrev pub returns : Body → Bool
returns nothing = false
returns (last n) = false
returns (next n b) = returns b
returns (returned n) = true
