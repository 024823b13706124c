-- The words of the program, without its name: once IMAGE N, import IMAGE STORE with options, export STORE IMAGE, clean STORE IMAGE,
-- condense STORE, session STORE, build KERNEL STORE, and drill N.
use Rattle.std.specs.Prelude.{ℕ, Bool, ◌||◌, bytes_eq, List, [], ◌∷◌, codes, Option, Some, None, is_some, option_map, option_and_then, if◌then◌else◌}
use Rattle.st_image.specs.declared.head.HeadValues.{HeadValues}
use Rattle.st_chunk.specs.Lines.{number}
use Rattle.st_call.specs.Arguments.{Arguments, arguments_of}

-- a command, with the names of an image, a kernel text and a store
pub data Command : Type 0 where
  Once : (image : List ℕ) → (cycles : ℕ) → Command
  Import : (image store : List ℕ) → (over : HeadValues) → Command
  Export : (store image : List ℕ) → Command
  Clean : (store image : List ℕ) → Command
  Condense : (store : List ℕ) → Command
  Session : (store : List ℕ) → Command
  Build : (kernel store : List ℕ) → Command
  Drill : (number : ℕ) → Command

-- a command of one operand, or of two
abbrev pub of_operand : (List ℕ → Option Command) → List (List ℕ) → Option Command
of_operand command (operand ∷ []) = command operand
of_operand command operands = None

abbrev pub of_operands : (List ℕ → List ℕ → Option Command) → List (List ℕ) → Option Command
of_operands command (first ∷ second ∷ []) = command first second
of_operands command operands = None

abbrev pub has_values : HeadValues → Bool
has_values v = is_some v.entries || (is_some v.words || (is_some v.globals || is_some v.symbols))

-- the command of this name; only import has options, and a number is at most 1,000,000,000
abbrev pub command_named : List ℕ → Arguments → Option Command
command_named w a =
    if bytes_eq w (codes "import") then of_operands (λ image store. Some (Import image store a.options)) a.operands else
    if has_values a.options then None else
    if bytes_eq w (codes "once") then of_operands (λ image n. option_map (Once image) (number 1000000000 n)) a.operands else
    if bytes_eq w (codes "export") then of_operands (λ store image. Some (Export store image)) a.operands else
    if bytes_eq w (codes "clean") then of_operands (λ store image. Some (Clean store image)) a.operands else
    if bytes_eq w (codes "condense") then of_operand (λ store. Some (Condense store)) a.operands else
    if bytes_eq w (codes "session") then of_operand (λ store. Some (Session store)) a.operands else
    if bytes_eq w (codes "build") then of_operands (λ kernel store. Some (Build kernel store)) a.operands else
    if bytes_eq w (codes "drill") then of_operand (λ n. option_map Drill (number 1000000000 n)) a.operands else None

-- the command that the words say; None of all other words
abbrev pub command_of : List (List ℕ) → Option Command
command_of [] = None
command_of (w ∷ ws) = option_and_then (command_named w) (arguments_of ws)
