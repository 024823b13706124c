-- What the instructions of a simple method are: one that returns the receiver, or two, of which the first pushes a
-- variable of it.
use Rattle.std.specs.Prelude.{List, [], ◌∷◌, Option, Some, None}
use Rattle.st_emit.specs.declared.instruction.Constant.TheVariants.{Receiver}
use Rattle.st_emit.specs.declared.instruction.InstructionOperand.TheVariants.{Field}
use Rattle.st_emit.specs.declared.instruction.Instruction.{Instruction}
use Rattle.st_emit.specs.declared.instruction.Instruction.TheVariants.{Push, ReturnConstant}
use Rattle.st_code.specs.declared.simple.Simple.{Simple}
use Rattle.st_code.specs.declared.simple.Simple.TheVariants.{Itself, ItsField}

abbrev pub itself_by : Instruction → Option Simple
itself_by (ReturnConstant Receiver) = Some Itself
itself_by _ = None

abbrev pub field_by : Instruction → Option Simple
field_by (Push (Field n)) = Some (ItsField n)
field_by _ = None

abbrev pub simple_by : List Instruction → Option Simple
simple_by (s ∷ []) = itself_by s
simple_by (s ∷ t ∷ []) = field_by s
simple_by _ = None
