-- What code does in one context, from the meaning of each bytecode, where each send takes the next answer.
use Rattle.std.specs.Prelude.{ℕ, zero, suc, ◌+◌, ◌-◌, Bool, true, false, List, ◌∷◌, drop, slice_get, Option, Some, None, option_map}
use Rattle.st_emit.specs.declared.instruction.Instruction.{Instruction}
use Rattle.st_emit.specs.Literals.{LiteralView, symbol}
use Rattle.st_resolved.specs.declared.reading.Found.{Found}
use Rattle.st_resolved.specs.Instructions.{instruction}
use Rattle.st_meaning.specs.declared.deed.Value.{Value}
use Rattle.st_meaning.specs.declared.deed.Variable.{Variable}
use Rattle.st_meaning.specs.inside.Values.{constant_value, literal_value, small_value, variable_of}
use Rattle.st_meaning.specs.inside.Runs.{Going, stuck, unfinished, Run, ◌>>=◌, assign_to, answer_to, make_block, return_value, jump_back, decide}
use Rattle.st_meaning.specs.inside.Codes.{Values, Walked, walk_code}
use Rattle.st_meaning.specs.inside.Codes as codes

-- what comes next, at a place and with a stack
abbrev pub Next : Type 0
Next = ℕ → List Value → Run Value

-- nothing that the code can do
abbrev pub sticks : Run Value
sticks = λ g. stuck g

abbrev pub selector_of : Option LiteralView → Option (List ℕ)
selector_of (Some (symbol text)) = Some text
selector_of l = None

-- what a walk has
abbrev pub values_of : List LiteralView → (Variable → Value) → Values Variable Value
values_of literals held = record {
  constant = constant_value;
  small = small_value;
  literal = λ n. option_map (λ l. literal_value l n) (slice_get literals n);
  variable = λ p. held (variable_of p);
  target = variable_of;
  selector = λ n. selector_of (slice_get literals n);
}

abbrev pub values_at : List LiteralView → Going → Values Variable Value
values_at literals g = values_of literals g.held

module _ (most : ℕ) where
  abbrev pub on_boolean : {A : Type 0} → (on : Bool) → Value → (jump go : Run A) → Run A
  on_boolean true v jump go = decide most v jump go
  on_boolean false v jump go = decide most v go jump

  -- what becomes of an instruction, behind which the code goes on at this place
  abbrev pub done : Walked Variable Value → Next → ℕ → Run Value
  done (codes.went s) next at = next at s
  done (codes.stored p v s) next at = assign_to most p v >>= λ w. next at s
  done (codes.sent r text arguments above s) next at = answer_to most r text arguments above >>= λ v. next at (v ∷ s)
  done (codes.copied s) next at = make_block most >>= λ v. next at (v ∷ s)
  done (codes.returned v) next at = return_value most v
  done (codes.ahead d s) next at = next (at + d) s
  done (codes.aback d s) next at = jump_back most (next (at - d) s)
  done (codes.tested on v d s) next at = on_boolean on v (next (at + d) s) (next at s)
  done codes.stuck next at = sticks

  module _ (literals : List LiteralView) where
    -- one instruction
    abbrev pub act : Instruction → Next → ℕ → List Value → Run Value
    act x next at s = λ g. done (walk_code (values_at literals g) x s) next at g

    abbrev pub act_found : Option Found → Next → ℕ → List Value → Run Value
    act_found None next at s = sticks
    act_found (Some f) next at s = act f.step next (at + f.size) s

    -- at most n instructions, from a place and a stack on
    unfoldable pub walk : List ℕ → ℕ → Next
    walk bytes zero at s = λ g. unfinished
    walk bytes (suc n) at s = act_found (instruction (drop at bytes)) (walk bytes n) at s
