-- A command and its arguments as clauses see them.
use Rattle.std.specs.Prelude.{ℕ, List, [], ◌∷◌}
use Rattle.st_call.specs.declared.arguments.Arguments as declared-arguments
use Rattle.st_call.specs.declared.arguments.Operands as declared-operands
use Rattle.st_call.specs.declared.arguments.Operands.TheVariants as operands
use Rattle.st_call.specs.declared.words.Command as declared
use Rattle.st_call.specs.declared.words.Command.TheVariants as variants
use Rattle.st_call.specs.Arguments.{Arguments}
use Rattle.st_call.specs.Words.{Command, Once, Import, Export, Clean, Condense, Session, Build, Drill}

abbrev pub operands_view : declared-operands.Operands → List (List ℕ)
operands_view operands.Empty = []
operands_view (operands.One first) = first.now ∷ []
operands_view (operands.Two first second) = first.now ∷ second.now ∷ []

abbrev pub arguments_view : declared-arguments.Arguments → Arguments
arguments_view a = record { operands = operands_view a.operands; options = a.options; next = a.next }

abbrev pub command_view : declared.Command → Command
command_view (variants.Once image cycles) = Once image.now cycles
command_view (variants.Import image store over) = Import image.now store.now over
command_view (variants.Export store image) = Export store.now image.now
command_view (variants.Clean store image) = Clean store.now image.now
command_view (variants.Condense store) = Condense store.now
command_view (variants.Session store) = Session store.now
command_view (variants.Build kernel store) = Build kernel.now store.now
command_view (variants.Drill number) = Drill number
