-- What instructions have to do with their bytes, and special selectors with their texts.
use Rattle.std.specs.Prelude.{◌≡◌, ℕ, List, length, slice_get, Some}
use Rattle.st_emit.specs.declared.instruction.Instruction.{Instruction}
use Rattle.st_emit.specs.Steps.{size_of, bytes_of, size, all_bytes}
use Rattle.st_emit.specs.Selectors.{special_sends, arity}
use Rattle.st_emit.specs.Resolving.{special_selector}

-- an instruction has as many bytes as its size, by which jumps go
abbrev pub HasItsSize : Instruction → Type 0
HasItsSize step = length (bytes_of step) ≡ size_of step

abbrev pub HaveTheirSize : List Instruction → Type 0
HaveTheirSize steps = length (all_bytes steps) ≡ size steps

-- at the place of a special selector the table has it, with as many arguments as its text says
abbrev pub HasItsArguments : List ℕ → Type 0
HasItsArguments text = (k : ℕ) → special_selector text ≡ Some k → slice_get special_sends k ≡ Some (text, arity text)
