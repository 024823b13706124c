-- How what an arena's nodes do is told of the code that does it.
use Rattle.std.specs.Prelude.{◌≡◌, ℕ, suc, Bool, List, Option, option_map}
use Rattle.std.specs.Global.{Vec}
use Rattle.st_emit.specs.declared.form.OneSided.{OneSided}
use Rattle.st_emit.specs.declared.form.TwoSided.{TwoSided}
use Rattle.st_emit.specs.declared.form.Loop.{Loop}
use Rattle.st_meaning.specs.declared.deed.Value.{Value}
use Rattle.st_meaning.specs.inside.Walks.{on_boolean}
use Rattle.st_meaning.specs.declared.arena.Statements.{Statements}
use Rattle.st_meaning.specs.declared.arena.Message.{Message}
use Rattle.st_meaning.specs.declared.arena.Start.{Start}
use Rattle.st_meaning.specs.declared.arena.Act.{Act}
use Rattle.st_meaning.specs.declared.arena.Node.{Node}
use Rattle.st_meaning.specs.declared.course.Course.{Course}
use Rattle.st_meaning.specs.declared.tracing.TurnEnd.{TurnEnd}
use Rattle.st_meaning.specs.declared.tracing.TurnEnd.TheVariants.{Again, Left, Over}
use Rattle.st_meaning.specs.inside.Runs.{Outcome, went, over, long, stuck, unfinished, Run, gives, ◌>>=◌, jump_back}
use Rattle.st_meaning.specs.inside.Traces.{nil, sided, chosen, goes_on, turns}
use Rattle.st_meaning.specs.inside.Meanings.{most}
use Rattle.st_meaning.specs.inside.Courses.{going_view, stack_view, Goes}
use Rattle.st_meaning.specs.inside.Arenas.{runs_of, node_at, start_run, acts_run, act_run, messages_run, message_run, arguments_run, nodes_run, body_run, method_run}

-- RUNS OF AN ARENA

abbrev pub node_in : List Node → (bound place : ℕ) → Run Value
node_in xs n i = node_at (runs_of most xs) i n

abbrev pub start_in : List Node → (bound : ℕ) → Start → Run Value
start_in xs n s = start_run most (runs_of most xs) n s

abbrev pub acts_in : List Node → (bound : ℕ) → List Act → Value → Run Value
acts_in xs n list v = acts_run most (runs_of most xs) n list v

abbrev pub act_in : List Node → (bound : ℕ) → Act → Value → Run Value
act_in xs n a v = act_run most (runs_of most xs) n a v

abbrev pub messages_in : List Node → (bound : ℕ) → (above : Bool) → Value → List Message → Run Value
messages_in xs n above r ms = messages_run most (runs_of most xs) n above r ms

abbrev pub message_in : List Node → (bound : ℕ) → (above : Bool) → Value → Message → Run Value
message_in xs n above r m = message_run most (runs_of most xs) n above r m

abbrev pub arguments_in : List Node → (bound : ℕ) → List ℕ → Run (List Value)
arguments_in xs n places = arguments_run most (runs_of most xs) n places

abbrev pub nodes_in : List Node → (bound : ℕ) → List ℕ → Run Value
nodes_in xs n places = nodes_run most (runs_of most xs) n places

abbrev pub body_in : List Node → (bound : ℕ) → Statements → Run Value
body_in xs n s = body_run most (runs_of most xs) n s

abbrev pub method_in : List Node → (bound : ℕ) → Statements → Run Value
method_in xs n s = method_run most (runs_of most xs) n s

abbrev pub sided_in : List Node → (bound : ℕ) → OneSided → Value → Statements → Run Value
sided_in xs n side v a = sided most side v (body_in xs n a)

abbrev pub chosen_in : List Node → (bound : ℕ) → TwoSided → Value → Statements → Statements → Run Value
chosen_in xs n side v a b = chosen most side v (body_in xs n a) (body_in xs n b)

abbrev pub loop_in : List Node → (bound : ℕ) → Loop → Statements → Statements → Run Value
loop_in xs n kind x a = turns most n kind (body_in xs n x) (body_in xs n a)

-- WHAT THEY GIVE

abbrev pub Gives : Run Value → (old new : Course) → Option Value → Type 0
Gives m old new o = Goes (m (going_view old)) o (going_view new)

-- values, the last one first
abbrev pub GivesAll : Run (List Value) → (old new : Course) → Option (Vec Value) → Type 0
GivesAll m old new o = Goes (m (going_view old)) (option_map (λ vs. stack_view vs.items) o) (going_view new)

abbrev pub IsOver : Run Value → (old new : Course) → Type 0
IsOver m old new = m (going_view old) ≡ over (going_view new)

-- it is too long, or its bound ran out
abbrev pub Cut : {A : Type 0} → Outcome A → Type 0
Cut (went x g) = ⊥
Cut (over d) = ⊥
Cut long = Unit {0}
Cut (stuck d) = ⊥
Cut unfinished = Unit {0}

abbrev pub IsCut : {A : Type 0} → Run A → Course → Type 0
IsCut m old = Cut (m (going_view old))

-- on this boolean a block is passed, with this value
abbrev pub IsPassed : OneSided → (on : Bool) → Value → Type 0
IsPassed side on k = (v : Value) (a : Run Value) → sided most side v a ≡ on_boolean most on v (gives k) a

-- on this boolean the first block is done, and else the second
abbrev pub IsFirstOn : TwoSided → Bool → Type 0
IsFirstOn side on = (v : Value) (a b : Run Value) → chosen most side v a b ≡ on_boolean most on v a b

-- on this boolean a loop is left
abbrev pub IsLeftOn : Loop → Bool → Type 0
IsLeftOn kind on = (v : Value) (again leave : Run Value) → goes_on most kind v again leave ≡ on_boolean most on v leave again

-- LOOPS

-- how the first of so many turns ends, whatever their number
abbrev pub EndsTurn : List Node → (bound : ℕ) → Loop → Statements → Statements → (old new : Course) → TurnEnd → Type 0
EndsTurn xs n kind x a old new Again =
    (k : ℕ) → turns most (suc k) kind (body_in xs n x) (body_in xs n a) (going_view old) ≡ turns most k kind (body_in xs n x) (body_in xs n a) (going_view new)
EndsTurn xs n kind x a old new Left = (k : ℕ) → turns most (suc k) kind (body_in xs n x) (body_in xs n a) (going_view old) ≡ went nil (going_view new)
EndsTurn xs n kind x a old new Over = (k : ℕ) → turns most (suc k) kind (body_in xs n x) (body_in xs n a) (going_view old) ≡ over (going_view new)

abbrev pub IsTurnCut : List Node → (bound : ℕ) → Loop → Statements → Statements → Course → Type 0
IsTurnCut xs n kind x a old = (k : ℕ) → Cut (turns most (suc k) kind (body_in xs n x) (body_in xs n a) (going_view old))

-- what is repeated, and the jump back, whatever follows
abbrev pub again_in : List Node → (bound : ℕ) → Statements → Run Value → Run Value
again_in xs n a following = body_in xs n a >>= λ w. jump_back most following

abbrev pub Repeats : List Node → (bound : ℕ) → Statements → (old new : Course) → TurnEnd → Type 0
Repeats xs n a old new Again = (f : Run Value) → again_in xs n a f (going_view old) ≡ f (going_view new)
Repeats xs n a old new Left = ⊥
Repeats xs n a old new Over = (f : Run Value) → again_in xs n a f (going_view old) ≡ over (going_view new)

abbrev pub IsRepeatCut : List Node → (bound : ℕ) → Statements → Course → Type 0
IsRepeatCut xs n a old = (f : Run Value) → Cut (again_in xs n a f (going_view old))
