-- The variables that nodes name are seen where they stand, and their literals stand in a text without fault.
use Rattle.std.specs.Prelude.{◌≡◌, ℕ, zero, suc, ◌+◌, ◌<◌, ◌≤◌, ◌⊎◌, Bool, true, not, ◌&&◌, nat_lt, List, [], ◌∷◌, ◌++◌, slice_get, Some, None}
use Rattle.st_scan.specs.Views.{ContentView}
use Rattle.st_emit.specs.declared.instruction.InstructionOperand.{InstructionOperand}
use Rattle.st_emit.specs.declared.instruction.InstructionOperand.TheVariants.{Field, Temporary, Literal, Shared}
use Rattle.st_emit.specs.Names.{NamesView, Scope, constant_named, field_named, shared_named}
use Rattle.st_emit.specs.Literals.{LiteralView, literal_of, named}
use Rattle.st_emit.specs.Nodes as nodes
use Rattle.st_emit.specs.Nodes.{Node, Body, Messages, Nodes}
use Rattle.st_code.specs.Faults.{content_fault}

-- NUMBERS

abbrev pub In : List ℕ → ℕ → Type 0
In [] k = ⊥
In (n ∷ ns) k = (n ≡ k) ⊎ In ns k

abbrev pub range : (first n : ℕ) → List ℕ
range first zero = []
range first (suc n) = first ∷ range (first + 1) n

abbrev pub AllBelow : ℕ → List ℕ → Type 0
AllBelow k [] = Unit {0}
AllBelow k (n ∷ ns) = (n < k) × AllBelow k ns

-- SCOPES

abbrev pub numbers : Scope → List ℕ
numbers [] = []
numbers (d ∷ ds) = d.number ∷ numbers ds

-- without its numbers
abbrev pub unnumbered : Scope → Scope
unnumbered [] = []
unnumbered (d ∷ ds) = record d { number = 0 } ∷ unnumbered ds

-- the temporaries are those from one number to another
abbrev pub assigns : (from to : ℕ) → ℕ → Bool
assigns from to k = not (nat_lt k from) && nat_lt k to

-- only temporaries are assigned
abbrev pub IsScope : (from to : ℕ) → Scope → Type 0
IsScope from to [] = Unit {0}
IsScope from to (d ∷ ds) = (d.assignable ≡ assigns from to d.number) × IsScope from to ds

-- MEANING

-- some text means this field
pub record IsField (names : NamesView) (n : ℕ) : Type 0 where
  pub text : List ℕ
  pub plain : constant_named text ≡ None
  pub is : field_named names text ≡ Some n

-- some text means what the association at this place of the literals holds
pub record IsShared (names : NamesView) (literals : List LiteralView) (place : ℕ) : Type 0 where
  pub text : List ℕ
  pub association : ℕ
  pub plain : constant_named text ≡ None
  pub no_field : field_named names text ≡ None
  pub is : shared_named names text ≡ Some association
  pub there : slice_get literals place ≡ Some (named association)

-- the literal of what stands in a text without fault
pub record IsWritten (l : LiteralView) : Type 0 where
  pub what : ContentView
  pub place : ℕ
  pub right : content_fault place what ≡ None
  pub is : literal_of what ≡ l

-- NODES

module _ (from to : ℕ) (names : NamesView) (literals : List LiteralView) where
  -- among variables with these numbers
  abbrev pub SeenPlace : List ℕ → InstructionOperand → Type 0
  SeenPlace ks (Temporary k) = In ks k
  SeenPlace ks (Field n) = IsField names n
  SeenPlace ks (Shared p) = IsShared names literals p
  SeenPlace ks (Literal n) = ⊥

  abbrev pub StoredPlace : List ℕ → InstructionOperand → Type 0
  StoredPlace ks (Temporary k) = In ks k × (assigns from to k ≡ true)
  StoredPlace ks p = SeenPlace ks p

  -- a block's arguments have new numbers
  abbrev pub Fresh : (first n : ℕ) → List ℕ → Type 0
  Fresh first zero ks = Unit {0}
  Fresh first (suc n) ks = AllBelow first ks × (to ≤ first) × (first + suc n ≤ 64)

  abbrev mutual
    pub Seen : List ℕ → Node → Type 0
    Seen ks (nodes.constant k) = Unit {0}
    Seen ks (nodes.small k) = Unit {0}
    Seen ks (nodes.literal l place) = IsWritten l
    Seen ks (nodes.variable p) = SeenPlace ks p
    Seen ks (nodes.assign p n) = StoredPlace ks p × Seen ks n
    Seen ks (nodes.block first n c b) = Fresh first n ks × BodySeen (ks ++ range first n) b
    Seen ks (nodes.send above r ms) = Seen ks r × MessagesSeen ks ms
    Seen ks (nodes.one_sided side x a) = Seen ks x × BodySeen ks a
    Seen ks (nodes.two_sided side x a b) = Seen ks x × BodySeen ks a × BodySeen ks b
    Seen ks (nodes.loop kind x a) = BodySeen ks x × BodySeen ks a

    pub BodySeen : List ℕ → Body → Type 0
    BodySeen ks nodes.nothing = Unit {0}
    BodySeen ks (nodes.last n) = Seen ks n
    BodySeen ks (nodes.next n b) = Seen ks n × BodySeen ks b
    BodySeen ks (nodes.returned n) = Seen ks n

    pub MessagesSeen : List ℕ → Messages → Type 0
    MessagesSeen ks (nodes.only s ns) = NodesSeen ks ns
    MessagesSeen ks (nodes.also s ns ms) = NodesSeen ks ns × MessagesSeen ks ms

    pub NodesSeen : List ℕ → Nodes → Type 0
    NodesSeen ks nodes.none = Unit {0}
    NodesSeen ks (nodes.node n ns) = Seen ks n × NodesSeen ks ns
