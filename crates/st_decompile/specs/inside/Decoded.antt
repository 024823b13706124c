-- What contracts say of instructions that are read.
use Rattle.std.specs.Prelude.{◌≡◌, ℕ, List, Option, Some, None}
use Rattle.std.specs.Global.{Vec}
use Rattle.st_emit.specs.declared.instruction.Instruction.{Instruction}
use Rattle.st_resolved.specs.Instructions.{steps_of}

abbrev pub AreSteps : List ℕ → Option (Vec Instruction) → Type 0
AreSteps bytes None = steps_of bytes ≡ None
AreSteps bytes (Some steps) = steps_of bytes ≡ Some steps.items
