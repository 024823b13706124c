-- That parts of an arena do what nodes of a tree do.
use Rattle.std.specs.Prelude.{◌≡◌, ℕ, Bool, List, [], ◌∷◌, slice_get, Some}
use Rattle.st_emit.specs.Nodes.{Node, Body, nothing, Tail, assigned, sent, sided as side_of, chosen as sides_of, looped, Nodes, Sending}
use Rattle.st_meaning.specs.declared.deed.Value.{Value}
use Rattle.st_meaning.specs.declared.arena.Statements.{Statements}
use Rattle.st_meaning.specs.declared.arena.Message.{Message}
use Rattle.st_meaning.specs.declared.arena.Start.{Start}
use Rattle.st_meaning.specs.declared.arena.Act.{Act}
use Rattle.st_meaning.specs.inside.Values.{variable_of}
use Rattle.st_meaning.specs.inside.Runs.{Run, gives, ◌>>=◌, assign_to, answer_to, in_order}
use Rattle.st_meaning.specs.inside.Traces.{sided, chosen, value_of, body_value, messages_value, nodes_values, method_value}
use Rattle.st_meaning.specs.inside.Meanings.{most}
use Rattle.st_meaning.specs.inside.Arenas.{Meaning, start_run, act_run, acts_run, each, place_run, message_run, left, method_end, body_run, method_run}

-- what is done to a value; a loop is no such thing
abbrev pub tail_value : Tail → Value → ℕ → Run Value
tail_value (assigned p) v n = assign_to most (variable_of p) v
tail_value (sent above ms) v n = messages_value most ms above v n
tail_value (side_of side a) v n = sided most side v (body_value most a n)
tail_value (sides_of side a b) v n = chosen most side v (body_value most a n) (body_value most b n)
tail_value (looped kind a) v n = gives v

-- PARTS OF AN ARENA, whatever nodes stand behind them

-- the node at a place means this one
abbrev pub IsNode : ℕ → List Meaning → Node → Type 0
IsNode i ms x = slice_get ms i ≡ Some (value_of most x)

abbrev pub IsStart : Start → List Meaning → Node → Type 0
IsStart s ms x = (n : ℕ) → start_run most ms n s ≡ value_of most x n

-- what was begun with, and what was done to it so far
abbrev pub IsChain : Start → List Act → List Meaning → Node → Type 0
IsChain s acts ms x = (n : ℕ) → (start_run most ms n s >>= acts_run most ms n acts) ≡ value_of most x n

abbrev pub IsAct : Act → List Meaning → Tail → Type 0
IsAct a ms t = (n : ℕ) (v : Value) → act_run most ms n a v ≡ tail_value t v n

abbrev pub IsArguments : List ℕ → List Meaning → Nodes → Type 0
IsArguments is ms xs = (n : ℕ) (vs : List Value) → each (place_run most ms n (λ vs v. v ∷ vs)) is vs ≡ nodes_values most xs vs n

-- one message, as it is sent
abbrev pub IsMessage : (above : Bool) → Message → List Meaning → (Sending × Nodes) → Type 0
IsMessage above m ms p = (n : ℕ) (r : Value) → message_run most ms n above r m ≡ (nodes_values most p.1 [] n >>= λ vs. answer_to most r p.0.selector (in_order vs) above)

-- messages to one receiver
abbrev pub IsMessages : (above : Bool) → List Message → List Meaning → List (Sending × Nodes) → Type 0
IsMessages above [] ms [] = Unit {0}
IsMessages above [] ms (p ∷ ps) = ⊥
IsMessages above (m ∷ list) ms [] = ⊥
IsMessages above (m ∷ list) ms (p ∷ ps) = IsMessage above m ms p × IsMessages above list ms ps

-- statements behind a value, in a block and in a method
abbrev pub value_behind : Body → Value → ℕ → Run Value
value_behind nothing v n = gives v
value_behind b v n = body_value most b n

pub record IsBehind (returns : Bool) (is : List ℕ) (ms : List Meaning) (b : Body) : Type 0 where
  pub inside : (n : ℕ) (v : Value) → (each (place_run most ms n (λ v w. w)) is v >>= left most ms n returns) ≡ value_behind b v n
  pub method : (n : ℕ) (v : Value) → (each (place_run most ms n (λ v w. w)) is v >>= method_end most ms n returns) ≡ method_value most b n

-- statements in a block, and in a method
pub record IsBody (s : Statements) (ms : List Meaning) (b : Body) : Type 0 where
  pub inside : (n : ℕ) → body_run most ms n s ≡ body_value most b n
  pub method : (n : ℕ) → method_run most ms n s ≡ method_value most b n
