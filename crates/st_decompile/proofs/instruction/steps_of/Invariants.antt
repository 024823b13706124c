use Rattle.std.proofs.Common.{◌≡◌, ◌-◌, ◌++◌, List, length}
use Rattle.std.specs.Prelude.{option_map}
use Rattle.st_emit.specs.declared.instruction.Instruction.{Instruction}
use Rattle.st_resolved.specs.Instructions.{steps_up, steps_of}
use Rattle.st_decompile.proofs.instruction.steps_of.Given as goal

abbrev pub invariant-loop-i : goal.invariant-loop-i
invariant-loop-i l = option_map (λ (ss : List Instruction). l.steps.items ++ ss) (steps_up (length l.bytes - l.i) l.rest) ≡ steps_of l.bytes
