-- What is said of an image: of an object, the classes, a class's methods, a method's bytecodes, the senders of a selector.
-- Each line ends with LF. Names are escaped.
use Rattle.std.specs.Prelude.{codes, ℕ, ◌+◌, List, [], ◌∷◌, ◌++◌, length, Option, None, Bool, true, false, option_map, sum_by}
use Rattle.std.specs.Fmt.{decimal}
use Rattle.std.specs.List.{flat_map}
use Rattle.st_model.specs.Values.{Value, Small, Ref}
use Rattle.st_model.specs.Objects.{Object, first_unit}
use Rattle.st_model.specs.Table.{Table, entry}
use Rattle.st_model.specs.Text.{numbers_text, object_text, escaped}
use Rattle.st_chunk.specs.Groups.{side_text}
use Rattle.st_browse.specs.Naming.{Named}
use Rattle.st_browse.specs.Classes.{classes, on_side}
use Rattle.st_browse.specs.Methods.{methods}
use Rattle.st_parts.specs.Cutting.{codes_of}
use Rattle.st_browse.specs.Senders.{senders}

-- a word and a number
abbrev pub count_text : List ℕ → ℕ → List ℕ
count_text word n = word ++ ((codes " " ++ decimal n) ++ codes "\n")

-- OBJECTS

abbrev pub object_reply : Table → Value → Option (List ℕ)
object_reply t (Small n) = None
object_reply t (Ref n) = option_map (object_text n) (entry t n)

-- NAMES

-- a line of a word and a name
abbrev pub name_line : List ℕ → List ℕ → List ℕ
name_line word name = word ++ (escaped name ++ codes "\n")

-- how many names, and each of them
abbrev pub names_text : (all each : List ℕ) → List Named → List ℕ
names_text all each ns = count_text all (length ns) ++ flat_map (λ n. name_line each n.name) ns

abbrev pub classes_text : Table → Option Value → List ℕ
classes_text t globals = names_text (codes "classes") (codes "class ") (classes t globals)

abbrev pub methods_text : Table → Value → List ℕ
methods_text t class = names_text (codes "methods") (codes "method ") (methods t class)

-- BYTECODES

-- a place, counted from 1, and the bytes of the bytecode there
abbrev pub code_line : ℕ → List ℕ → List ℕ
code_line place code = codes "code" ++ (numbers_text (place ∷ code) ++ codes "\n")

-- bytecodes from a place on
abbrev pub codes_text : ℕ → List (List ℕ) → List ℕ
codes_text place [] = []
codes_text place (code ∷ more) = code_line place code ++ codes_text (place + length code) more

-- places count the bytes of a method's header and literals too
abbrev pub bytecodes_text : Object → List ℕ
bytecodes_text o = count_text (codes "bytecodes") (length (codes_of o.units)) ++ codes_text (first_unit o + 1) (codes_of o.units)

-- SENDERS

abbrev pub sender_line : List ℕ → (meta : Bool) → List ℕ → List ℕ
sender_line class meta selector = codes "sender " ++ (escaped class ++ (side_text meta ++ (codes " " ++ (escaped selector ++ codes "\n"))))

-- on one side of a class
abbrev pub senders_on : Table → List ℕ → Named → (meta : Bool) → List Named
senders_on t selector class meta = senders t selector (on_side t meta class.value)

abbrev pub senders_lines : Table → List ℕ → Named → (meta : Bool) → List ℕ
senders_lines t selector class meta = flat_map (λ n. sender_line class.name meta n.name) (senders_on t selector class meta)

-- on both sides, the instance side first
abbrev pub senders_count : Table → List ℕ → Named → ℕ
senders_count t selector class = length (senders_on t selector class false) + length (senders_on t selector class true)

abbrev pub both_lines : Table → List ℕ → Named → List ℕ
both_lines t selector class = senders_lines t selector class false ++ senders_lines t selector class true

abbrev pub senders_text : Table → List ℕ → List Named → List ℕ
senders_text t selector cs = count_text (codes "senders") (sum_by (senders_count t selector) cs) ++ flat_map (both_lines t selector) cs
