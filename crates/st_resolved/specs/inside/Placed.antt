-- The literals and selectors that nodes name stand at their places.
use Rattle.std.specs.Prelude.{◌≡◌, ◌≢◌, ◌≤◌, ℕ, ◌-◌, ◌+◌, Bool, true, false, List, slice_get, Some}
use Rattle.st_emit.specs.declared.form.By.{By}
use Rattle.st_emit.specs.declared.form.By.TheVariants.{Special, SelectorAt}
use Rattle.st_emit.specs.declared.instruction.InstructionOperand.{InstructionOperand}
use Rattle.st_emit.specs.declared.instruction.InstructionOperand.TheVariants.{Literal}
use Rattle.st_emit.specs.Selectors.{arity}
use Rattle.st_emit.specs.Literals.{LiteralView, symbol}
use Rattle.st_emit.specs.Resolving.{special_selectors, first_special, block_copy}
use Rattle.st_emit.specs.Nodes.{Sending, Node, constant, small, literal, variable, assign, block, send, one_sided, two_sided, loop, Body, nothing, last, next, returned, Messages, only, also, Nodes, none, node, count}

-- the count of a block's arguments is a number
abbrev pub IsCount : Node → Type 0
IsCount (small k) = Unit {0}
IsCount (literal x place) = Unit {0}
IsCount _ = ⊥

abbrev pub IsVariable : InstructionOperand → Type 0
IsVariable (Literal n) = ⊥
IsVariable p = Unit {0}

-- a special selector that is no blockCopy:
pub record IsSpecial (code : ℕ) (text : List ℕ) : Type 0 where
  pub is : slice_get special_selectors (code - first_special) ≡ Some text
  pub other : code ≢ first_special + block_copy
  pub low : first_special ≤ code

module _ (literals : List LiteralView) where
  -- a selector is found by what sends it; to super only by its literal
  abbrev pub IsFound : (above : Bool) → List ℕ → By → Type 0
  IsFound true text (Special code) = ⊥
  IsFound false text (Special code) = IsSpecial code text
  IsFound above text (SelectorAt k) = slice_get literals k ≡ Some (symbol text)

  pub record IsSent (above : Bool) (s : Sending) (arguments : ℕ) : Type 0 where
    pub found : IsFound above s.selector s.by
    pub many : arity s.selector ≡ arguments

  abbrev mutual
    pub Placed : Node → Type 0
    Placed (constant k) = Unit {0}
    Placed (small k) = k ≤ 3
    Placed (literal x place) = slice_get literals place ≡ Some x
    Placed (variable p) = IsVariable p
    Placed (assign p n) = Placed n
    Placed (block first arguments n body) = Placed n × IsCount n × BodyPlaced body
    Placed (send above r ms) = Placed r × MessagesPlaced above ms
    Placed (one_sided side x a) = Placed x × BodyPlaced a
    Placed (two_sided side x a b) = Placed x × BodyPlaced a × BodyPlaced b
    Placed (loop kind x a) = BodyPlaced x × BodyPlaced a

    pub BodyPlaced : Body → Type 0
    BodyPlaced nothing = Unit {0}
    BodyPlaced (last n) = Placed n
    BodyPlaced (next n b) = Placed n × BodyPlaced b
    BodyPlaced (returned n) = Placed n

    pub MessagesPlaced : (above : Bool) → Messages → Type 0
    MessagesPlaced above (only s ns) = NodesPlaced ns × IsSent above s (count ns)
    MessagesPlaced above (also s ns ms) = NodesPlaced ns × IsSent above s (count ns) × MessagesPlaced above ms

    pub NodesPlaced : Nodes → Type 0
    NodesPlaced none = Unit {0}
    NodesPlaced (node n ns) = Placed n × NodesPlaced ns
