-- What the nodes of an arena do, each by what those before it do.
use Rattle.std.specs.Prelude.{ℕ, Bool, true, false, List, [], ◌∷◌, ◌++◌, slice_get, Option, Some, None}
use Rattle.st_emit.specs.declared.instruction.Constant.TheVariants.{Receiver}
use Rattle.st_meaning.specs.declared.deed.Value.{Value}
use Rattle.st_meaning.specs.inside.Values.{constant_value}
use Rattle.st_meaning.specs.declared.arena.Statements.{Statements}
use Rattle.st_meaning.specs.declared.arena.Message.{Message}
use Rattle.st_meaning.specs.declared.arena.Start.{Start}
use Rattle.st_meaning.specs.declared.arena.Start.TheVariants.{Known, Held, Block, Loop}
use Rattle.st_meaning.specs.declared.arena.Act.{Act}
use Rattle.st_meaning.specs.declared.arena.Act.TheVariants.{Assign, Send, One, Two}
use Rattle.st_meaning.specs.declared.arena.Node.{Node}
use Rattle.st_meaning.specs.inside.Runs.{Run, went, gives, ◌>>=◌, assign_to, answer_to, make_block, return_value, in_order}
use Rattle.st_meaning.specs.inside.Traces.{nil, sided, chosen, turns}

-- what a node does, where each loop makes at most so many turns
abbrev pub Meaning : Type 0
Meaning = ℕ → Run Value

abbrev pub meant : Option Meaning → Meaning
meant (Some m) = m
meant None = λ n. gives nil

-- the node at a place; where there is none, nil
abbrev pub node_at : List Meaning → ℕ → Meaning
node_at before i = meant (slice_get before i)

-- each of a list, one behind the other
abbrev pub each : {X S : Type 0} → (one : X → S → Run S) → List X → S → Run S
each one [] s = gives s
each one (x ∷ xs) s = one x s >>= each one xs

module _ (most : ℕ) (before : List Meaning) (n : ℕ) where
  abbrev pub place_run : {S : Type 0} → (S → Value → S) → ℕ → S → Run S
  place_run put i s = node_at before i n >>= λ v. gives (put s v)

  -- the values of arguments, the last one first
  abbrev pub arguments_run : List ℕ → Run (List Value)
  arguments_run places = each (place_run (λ vs v. v ∷ vs)) places []

  -- statements: the value of the last one
  abbrev pub nodes_run : List ℕ → Run Value
  nodes_run places = each (place_run (λ v w. w)) places nil

  abbrev pub message_run : (above : Bool) → (receiver : Value) → Message → Run Value
  message_run above r m = arguments_run m.arguments.items >>= λ vs. answer_to most r m.selector.items (in_order vs) above

  -- messages to a receiver: the answer of the last one
  abbrev pub messages_run : (above : Bool) → (receiver : Value) → List Message → Run Value
  messages_run above r ms = each (λ m v. message_run above r m) ms r

  -- a value that is returned, or left
  abbrev pub left : (returns : Bool) → Value → Run Value
  left true v = return_value most v
  left false v = gives v

  abbrev pub body_run : Statements → Run Value
  body_run s = nodes_run s.nodes.items >>= left s.returns

  -- a method without a ^ returns its receiver
  abbrev pub method_end : (returns : Bool) → Value → Run Value
  method_end true v = return_value most v
  method_end false v = return_value most (constant_value Receiver)

  abbrev pub method_run : Statements → Run Value
  method_run s = nodes_run s.nodes.items >>= method_end s.returns

  abbrev pub start_run : Start → Run Value
  start_run (Known v) = gives v
  start_run (Held p) = λ g. went (g.held p) g
  start_run Block = make_block most
  start_run (Loop kind x a) = turns most n kind (body_run x) (body_run a)

  abbrev pub act_run : Act → Value → Run Value
  act_run (Assign p) v = assign_to most p v
  act_run (Send above ms) v = messages_run above v ms.items
  act_run (One side a) v = sided most side v (body_run a)
  act_run (Two side a b) v = chosen most side v (body_run a) (body_run b)

  abbrev pub acts_run : List Act → Value → Run Value
  acts_run = each act_run

  abbrev pub node_run : Node → Run Value
  node_run x = start_run x.start >>= acts_run x.acts.items

module _ (most : ℕ) where
  -- what nodes do, behind others
  abbrev pub runs_behind : List Meaning → List Node → List Meaning
  runs_behind before [] = before
  runs_behind before (x ∷ xs) = runs_behind (before ++ (λ n. node_run most before n x) ∷ []) xs

  abbrev pub runs_of : List Node → List Meaning
  runs_of xs = runs_behind [] xs
