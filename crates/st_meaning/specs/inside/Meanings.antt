-- The trace of a method's tree, and the walk of its code.
use Rattle.std.specs.Prelude.{ℕ, ◌+◌, ◌*◌, nat_lt, List, [], length, Option, Some, None, if◌then◌else◌}
use Rattle.st_scan.specs.Views.{MethodView}
use Rattle.st_emit.specs.declared.instruction.Constant.TheVariants.{Nil}
use Rattle.st_emit.specs.Names.{NamesView}
use Rattle.st_emit.specs.Literals.{LiteralView}
use Rattle.st_emit.specs.Selectors.{arity}
use Rattle.st_emit.specs.Nodes.{Body}
use Rattle.st_code.specs.Methods.{PartsView, body}
use Rattle.st_meaning.specs.declared.deed.Value.{Value}
use Rattle.st_meaning.specs.declared.deed.Value.TheVariants.{First}
use Rattle.st_meaning.specs.declared.deed.Variable.{Variable}
use Rattle.st_meaning.specs.declared.deed.Variable.TheVariants.{Temporary}
use Rattle.st_meaning.specs.inside.Values.{AnswerView, constant_value}
use Rattle.st_meaning.specs.inside.Runs.{Going, Outcome, went, over, long, stuck, unfinished}
use Rattle.st_meaning.specs.inside.Traces.{method_value}
use Rattle.st_meaning.specs.inside.Walks.{walk}

-- deeds, and jumps back
abbrev pub most : ℕ
most = 1000000

-- arguments, fields and shared variables hold what they held at the start; other temporaries start as nil
abbrev pub start_of : (arguments : ℕ) → Variable → Value
start_of arguments (Temporary n) = if nat_lt n arguments then First (Temporary n) else constant_value Nil
start_of arguments p = First p

abbrev pub before_all : (start : Variable → Value) → List AnswerView → Going
before_all start answers = record { deeds = []; answers = answers; held = start; blocks = 0; backs = 0 }

-- So many turns are enough for each loop: the last one jumps back too often.
abbrev pub enough_turns : (most : ℕ) → ℕ
enough_turns most = most + 1

-- So many instructions are enough: between two jumps back the place rises.
abbrev pub enough_steps : (most : ℕ) → List ℕ → ℕ
enough_steps most bytes = (most + 1) * (length bytes + 1)

module _ (most : ℕ) where
  -- the trace of nodes, where so many variables are arguments
  abbrev pub trace_of : (arguments : ℕ) → Body → List AnswerView → Outcome Value
  trace_of arguments b answers = method_value most b (enough_turns most) (before_all (start_of arguments) answers)

  -- the walk of bytes
  abbrev pub walk_of : (arguments : ℕ) → List LiteralView → List ℕ → List AnswerView → Outcome Value
  walk_of arguments literals bytes answers = walk most literals bytes (enough_steps most bytes) 0 [] (before_all (start_of arguments) answers)

-- THE TRACE of a method under the names of its class: what it does, by recursion on its tree
abbrev pub Trace : MethodView → NamesView → List AnswerView → Outcome Value
Trace tree names answers = trace_of most (length tree.arguments) (body tree names).part answers

-- THE WALK of a method's code: what it does in one context, where each send takes the next answer
abbrev pub Walk : PartsView → List AnswerView → Outcome Value
Walk parts answers = walk_of most (arity parts.selector) parts.literals parts.bytes answers

-- HOW OFTEN a finished trace or walk jumped back
abbrev pub jumps_back : Outcome Value → Option ℕ
jumps_back (over g) = Some g.backs
jumps_back (stuck g) = Some g.backs
jumps_back o = None

-- a list of deeds, or too long a one
abbrev pub IsEnded : Outcome Value → Type 0
IsEnded (went v g) = ⊥
IsEnded (over g) = Unit {0}
IsEnded long = Unit {0}
IsEnded (stuck g) = ⊥
IsEnded unfinished = ⊥
