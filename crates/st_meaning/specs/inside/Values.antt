-- Values and deeds, as both a trace and a walk have them.
use Rattle.std.specs.Prelude.{ℕ, zero, suc, ℤ, pos, ◌-ℤ◌, ◌==◌, ◌<◌, nat_le, Bool, false, List, if◌then◌else◌}
use Rattle.st_scan.specs.declared.token.Signed.{Signed}
use Rattle.st_emit.specs.declared.instruction.Constant.{Constant as Pseudo}
use Rattle.st_emit.specs.declared.instruction.Constant.TheVariants.{Receiver, True, False, Nil, Context}
use Rattle.st_emit.specs.declared.instruction.InstructionOperand.{InstructionOperand}
use Rattle.st_emit.specs.declared.instruction.InstructionOperand.TheVariants as place
use Rattle.st_emit.specs.Literals.{LiteralView}
use Rattle.st_emit.specs.Literals as literals
use Rattle.st_meaning.specs.declared.deed.Value.{Value}
use Rattle.st_meaning.specs.declared.deed.Value.TheVariants.{Number, Constant, Literal}
use Rattle.st_meaning.specs.declared.deed.Variable.{Variable}
use Rattle.st_meaning.specs.declared.deed.Variable.TheVariants.{Field, Temporary, Shared}

-- what a message answers, and which variables have other values then; of two for one variable the later counts
pub record AnswerView : Type 0 where
  pub value : Value
  pub changes : List (Variable × Value)

-- one thing that a method does: a message, an assignment, a block that is made, a return, or a value that is no boolean
-- where one has to be
pub data DeedView : Type 0 where
  sent : (receiver : Value) → (selector : List ℕ) → (arguments : List Value) → (above : Bool) → DeedView
  assigned : (variable : Variable) → (value : Value) → DeedView
  made : (block : ℕ) → DeedView
  returned : (value : Value) → DeedView
  unsure : (value : Value) → DeedView

abbrev pub signed_value : Signed → ℤ
signed_value n = if n.minus then pos 0 -ℤ pos n.size else pos n.size

-- a SmallInteger
abbrev pub is_small : Signed → Bool
is_small n = if n.minus then nat_le n.size 16384 else nat_le n.size 16383

-- a SmallInteger is itself, every other literal its place
abbrev pub number_value : Signed → ℕ → Value
number_value n place = if is_small n then Number (signed_value n) else Literal place

abbrev pub literal_value : LiteralView → ℕ → Value
literal_value (literals.number n) place = number_value n place
literal_value _ place = Literal place

-- self, true, false, nil and thisContext, counted from 0
abbrev pub constant_value : Pseudo → Value
constant_value Receiver = Constant 0
constant_value True = Constant 1
constant_value False = Constant 2
constant_value Nil = Constant 3
constant_value Context = Constant 4

-- -1, 0, 1 and 2, by one more
abbrev pub small_value : ℕ → Value
small_value zero = Number (pos 0 -ℤ pos 1)
small_value (suc zero) = Number (pos 0)
small_value (suc (suc zero)) = Number (pos 1)
small_value (suc (suc (suc k))) = Number (pos 2)

-- VARIABLES

-- The variable at a place. A literal is none: no tree names one there, and code that stores into one is no compiler's, and is
-- taken to store into the association in its place.
abbrev pub variable_of : InstructionOperand → Variable
variable_of (place.Field n) = Field n
variable_of (place.Temporary n) = Temporary n
variable_of (place.Literal n) = Shared n
variable_of (place.Shared n) = Shared n

-- a place whose number has 8 bits
abbrev pub IsShort : InstructionOperand → Type 0
IsShort (place.Field n) = n < 256
IsShort (place.Temporary n) = n < 256
IsShort (place.Literal n) = n < 256
IsShort (place.Shared n) = n < 256

abbrev pub same_variable : Variable → Variable → Bool
same_variable (Field m) (Field n) = m == n
same_variable (Temporary m) (Temporary n) = m == n
same_variable (Shared m) (Shared n) = m == n
same_variable _ _ = false
