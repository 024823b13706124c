-- What is seen of a machine between what comes before a bytecode and the bytecode: which bytecode comes, and whether it is the first
-- of a method (chapters 27 and 28).
use Rattle.std.specs.Prelude.{codes, ℕ, List, [], ◌∷◌, ◌++◌, Option, Some, None, Bool, ◌&&◌, ℤ, pos, ◌+ℤ◌}
use Rattle.std.specs.Ordering.{int_eq}
use Rattle.std.specs.Fmt.{decimal, signed_decimal}
use Rattle.st_model.specs.Values.{Value, value}
use Rattle.st_model.specs.Objects.{is_method, first_unit}
use Rattle.st_model.specs.Machine.{State, Transition, Died, Went}
use Rattle.st_model.specs.Table.{Table, bounded_table}
use Rattle.st_model.specs.View.{is_live, object_of}
use Rattle.st_model.specs.Steps.{same_value, next_byte}
use Rattle.st_model.specs.Text.{values_text}
use Rattle.st_debug.specs.declared.watching.At as declared

-- a bytecode that comes: the active context, its method, the place as a context stores it, counted from 1, and the code
pub record At : Type 0 where
  pub active : Value
  pub method : Value
  pub place : ℤ
  pub code : ℕ

-- as the code has it
abbrev pub at_of : declared.At → At
at_of a = record { active = value a.active; method = value a.method; place = a.place; code = a.code }

-- no byte can be fetched, or this one
abbrev pub seen_at : State Table → Transition (State Table) ℕ → Option At
seen_at s (Died cause) = None
seen_at s (Went code t) = Some (record { active = s.registers.active; method = s.registers.method; place = s.registers.ip +ℤ pos 1; code = code })

-- the bytecode that comes, where its byte can be fetched
abbrev pub watched : State Table → Option At
watched s = seen_at s ((next_byte bounded_table).run s)

-- an object of kind Method is there, and its first bytecode has this number, from 0, among its bytes
abbrev pub is_first : Table → Value → ℤ → Bool
is_first t method ip = is_live t method && is_method (object_of t method).kind && int_eq ip (pos (first_unit (object_of t method)))

-- The machine stands before the first bytecode of this method: it is the method of the active context, which is its own home. In a
-- block it never is.
abbrev pub is_entered : State Table → Value → Bool
is_entered s method = same_value s.registers.method method && same_value s.registers.active s.registers.home && is_first s.memory method s.registers.ip

-- context, method, place and code
abbrev pub at_text : At → List ℕ
at_text a = codes "at" ++ (values_text (a.active ∷ a.method ∷ []) ++ ((codes " " ++ signed_decimal a.place) ++ ((codes " " ++ decimal a.code) ++ codes "\n")))
