-- What is said of what a session is asked to look at are whole lines, which acknowledge nothing.
use Rattle.std.proofs.Common.{◌≡◌, ℕ, ◌+◌, ◌*◌, ◌/◌, ◌%◌, Bool, true, false, List, [], ◌∷◌, ◌++◌, length, refl}
use Rattle.std.specs.Prelude.{codes, Option, Some, None, option_map, option_and_then, unwrap_or, sum_by}
use Rattle.std.specs.Fmt.{decimal}
use Rattle.std.specs.List.{flat_map, range_with_len}
use Rattle.st_model.specs.declared.kind.Kind.{Kind}
use Rattle.st_model.specs.declared.kind.Kind.TheVariants.{Pointers, Words, Bytes, Method}
use Rattle.st_model.specs.Values.{Value, Small, Ref, value_of}
use Rattle.st_model.specs.Objects.{Object, first_unit}
use Rattle.st_model.specs.Table.{Table, entry}
use Rattle.st_model.specs.Text.{value_text, values_text, numbers_text, kind_text, colon_text, object_text, escaped, hexadecimal}
use Rattle.st_model.specs.View.{View, object_of}
use Rattle.st_model.specs.BitBlt.{Form}
use Rattle.st_chunk.specs.Asks.{Side, Ask, Object as AsksObject, Display, Classes, Methods, Source, Bytecodes, Senders, Until}
use Rattle.st_chunk.specs.Groups.{side_text}
use Rattle.st_browse.specs.Naming.{Named}
use Rattle.st_browse.specs.Classes.{classes}
use Rattle.st_browse.specs.Methods.{methods, method_named}
use Rattle.st_parts.specs.Cutting.{codes_of}
use Rattle.st_browse.specs.Display.{form_at, if_held, row_of, word_text, row_line, rows_text, form_text, display_reply}
use Rattle.st_browse.specs.Replies.{count_text, object_reply, name_line, classes_text, methods_text, code_line, codes_text, bytecodes_text, sender_line, senders_lines, senders_on, senders_count, both_lines, senders_text}
use Rattle.st_browse.specs.Sources.{lines_of, source_line, source_text}
use Rattle.st_browse.specs.Asked.{class_of_side, method_of_side, code_text, source_in, reply}
use Rattle.st_protocol.specs.Acknowledged.{counts, IsLines}
use Rattle.st_protocol.proofs.Lawful.{lines_both}
use Rattle.st_install.proofs.Selectors.{IsInLine, both_in_line}
use Rattle.st_call.specs.Replies.{missing_text}
use Rattle.st_session.specs.Browsing.{asked_text}
use Rattle.st_session.proofs.WholeLines.{one_line, no_text, put, hexadecimal_in_line, ends, behind, decimal_in_line, value_in_line, values_in_line, numbers_in_line, numbers_lines, escaped_in_line, side_in_line}

-- LINES

-- a word and a number
count_lines : (word : List ℕ) (n : ℕ) → IsInLine word → counts (word ++ ((codes " " ++ decimal n) ++ [])) ≡ 0 → IsLines 0 (count_text word n)
count_lines word n h e =
    one_line 0 (count_text word n) (behind word ((codes " " ++ decimal n) ++ codes "\n") h (behind (codes " " ++ decimal n) (codes "\n") (decimal_in_line n) ends)) e

-- a line for each
all_lines : {A : Type 0} (f : A → List ℕ) (xs : List A) → ((x : A) → IsLines 0 (f x)) → IsLines 0 (flat_map f xs)
all_lines f [] h = no_text
all_lines f (x ∷ xs) h = lines_both 0 0 (f x) (flat_map f xs) (h x) (all_lines f xs h)

missing_lines : IsLines 0 missing_text
missing_lines = record { whole = refl; count = refl }

-- where it is there
if_there : {A : Type 0} (f : A → List ℕ) (o : Option A) → ((x : A) → IsLines 0 (f x)) → IsLines 0 (unwrap_or (option_map f o) missing_text)
if_there f None h = missing_lines
if_there f (Some x) h = h x

then_there : {A : Type 0} (f : A → Option (List ℕ)) (o : Option A) → ((x : A) → IsLines 0 (unwrap_or (f x) missing_text)) → IsLines 0 (unwrap_or (option_and_then f o) missing_text)
then_there f None h = missing_lines
then_there f (Some x) h = h x

-- OBJECTS

kind_in_line : (k : Kind) → IsInLine (kind_text k)
kind_in_line Pointers = refl
kind_in_line Words = refl
kind_in_line Bytes = refl
kind_in_line Method = refl

colon_in_line : (k : Kind) → IsInLine (colon_text k)
colon_in_line Pointers = refl
colon_in_line Words = refl
colon_in_line Bytes = refl
colon_in_line Method = refl

object_lines : (n : ℕ) (o : Object) → IsLines 0 (object_text n o)
object_lines n o =
    let units = numbers_text o.units ++ codes "\n" in
    let sorted = colon_text o.kind ++ units in
    let body = values_text o.fields ++ sorted in
    let class = codes " " ++ value_text (Ref o.class) in
    let number = codes " " ++ decimal (2 * n) in
    let head = codes "object" ++ (number ++ (class ++ kind_text o.kind)) in
    one_line 0 (head ++ body)
    (behind head body (both_in_line number (class ++ kind_text o.kind) (decimal_in_line (2 * n)) (both_in_line class (kind_text o.kind) (value_in_line (Ref o.class)) (kind_in_line o.kind)))
    (behind (values_text o.fields) sorted (values_in_line o.fields) (behind (colon_text o.kind) units (colon_in_line o.kind) (behind (numbers_text o.units) (codes "\n") (numbers_in_line o.units) ends)))) refl

object_said : (t : Table) (v : Value) → IsLines 0 (unwrap_or (object_reply t v) missing_text)
object_said t (Small n) = missing_lines
object_said t (Ref n) = if_there (object_text n) (entry t n) (object_lines n)

-- THE DISPLAY

word_in_line : (w : ℕ) → IsInLine (word_text w)
word_in_line w =
    let last = hexadecimal (w % 16) ∷ [] in
    let lower = hexadecimal (w / 16 % 16) ∷ last in
    let upper = hexadecimal (w / 256 % 16) ∷ lower in
    digit (w / 4096) upper (digit (w / 256 % 16) lower (digit (w / 16 % 16) last (digit (w % 16) [] refl)))
  where
    digit : (n : ℕ) (text : List ℕ) → IsInLine text → IsInLine (hexadecimal n ∷ text)
    digit n text h = put (hexadecimal n) text (hexadecimal_in_line n) h

words_in_line : (row : List ℕ) → IsInLine (flat_map word_text row)
words_in_line [] = refl
words_in_line (w ∷ row) = both_in_line (word_text w) (flat_map word_text row) (word_in_line w) (words_in_line row)

row_lines : (row : List ℕ) → IsLines 0 (row_line row)
row_lines row =
    one_line 0 (row_line row) (behind (codes "row ") (flat_map word_text row ++ codes "\n") refl (behind (flat_map word_text row) (codes "\n") (words_in_line row) ends)) refl

form_lines : (f : Form) → IsLines 0 (form_text f)
form_lines f =
    let size = f.width ∷ f.height ∷ [] in
    lines_both 0 0 (codes "display" ++ (numbers_text size ++ codes "\n")) (rows_text f) (numbers_lines 0 (codes "display") size refl refl)
    (all_lines (λ y. row_line (row_of f y)) (range_with_len 0 f.height) (λ y. row_lines (row_of f y)))

display_said : (v : View) → IsLines 0 (unwrap_or (display_reply v) missing_text)
unfolding display_reply
display_said v = if_there form_text (option_and_then (form_at v.objects) (if_held v.held.devices.display)) form_lines

-- NAMES

class_line : (name : List ℕ) → IsLines 0 (name_line (codes "class ") name)
class_line name = one_line 0 (name_line (codes "class ") name) (behind (codes "class ") (escaped name ++ codes "\n") refl (behind (escaped name) (codes "\n") (escaped_in_line name) ends)) refl

method_line : (name : List ℕ) → IsLines 0 (name_line (codes "method ") name)
method_line name = one_line 0 (name_line (codes "method ") name) (behind (codes "method ") (escaped name ++ codes "\n") refl (behind (escaped name) (codes "\n") (escaped_in_line name) ends)) refl

classes_said : (t : Table) (globals : Option Value) → IsLines 0 (classes_text t globals)
classes_said t globals =
    let ns = classes t globals in
    let each : Named → List ℕ = λ n. name_line (codes "class ") n.name in
    lines_both 0 0 (count_text (codes "classes") (length ns)) (flat_map each ns) (count_lines (codes "classes") (length ns) refl refl) (all_lines each ns (λ n. class_line n.name))

methods_said : (t : Table) (class : Value) → IsLines 0 (methods_text t class)
methods_said t class =
    let ns = methods t class in
    let each : Named → List ℕ = λ n. name_line (codes "method ") n.name in
    lines_both 0 0 (count_text (codes "methods") (length ns)) (flat_map each ns) (count_lines (codes "methods") (length ns) refl refl) (all_lines each ns (λ n. method_line n.name))

-- BYTECODES

codes_lines : (place : ℕ) (all : List (List ℕ)) → IsLines 0 (codes_text place all)
codes_lines place [] = no_text
codes_lines place (code ∷ more) =
    lines_both 0 0 (code_line place code) (codes_text (place + length code) more) (numbers_lines 0 (codes "code") (place ∷ code) refl refl) (codes_lines (place + length code) more)

bytecodes_lines : (o : Object) → IsLines 0 (bytecodes_text o)
bytecodes_lines o =
    let all = codes_of o.units in
    lines_both 0 0 (count_text (codes "bytecodes") (length all)) (codes_text (first_unit o + 1) all) (count_lines (codes "bytecodes") (length all) refl refl) (codes_lines (first_unit o + 1) all)

code_said : (v : View) (side : Side) (selector : List ℕ) → IsLines 0 (unwrap_or (option_map (code_text v.objects) (method_of_side v side selector)) missing_text)
code_said v side selector = if_there (code_text v.objects) (method_of_side v side selector) (λ method. bytecodes_lines (object_of v.objects method))

-- TEXTS

source_line_lines : (line : List ℕ) → IsLines 0 (source_line line)
source_line_lines line =
    one_line 0 (source_line line) (behind (codes "| ") (escaped line ++ codes "\n") refl (behind (escaped line) (codes "\n") (escaped_in_line line) ends)) refl

source_lines : (text : List ℕ) → IsLines 0 (source_text text)
source_lines text =
    let lines = lines_of text in
    lines_both 0 0 (count_text (codes "source") (length lines)) (flat_map source_line lines) (count_lines (codes "source") (length lines) refl refl) (all_lines source_line lines source_line_lines)

source_said : (t : Table) (selector : List ℕ) (text : Option (List ℕ)) (class : Value) → IsLines 0 (unwrap_or (source_in t selector text class) missing_text)
source_said t selector text class = then_there (λ n. option_map source_text text) (method_named t class selector) (λ n. if_there source_text text source_lines)

-- SENDERS

sender_lines : (class : List ℕ) (meta : Bool) (selector : List ℕ) → IsLines 0 (sender_line class meta selector)
sender_lines class meta selector =
    let last = escaped selector ++ codes "\n" in
    let sided = side_text meta ++ (codes " " ++ last) in
    one_line 0 (sender_line class meta selector)
    (behind (codes "sender ") (escaped class ++ sided) refl (behind (escaped class) sided (escaped_in_line class)
    (behind (side_text meta) (codes " " ++ last) (side_in_line meta) (behind (codes " ") last refl (behind (escaped selector) (codes "\n") (escaped_in_line selector) ends))))) refl

one_side : (t : Table) (selector : List ℕ) (class : Named) (meta : Bool) → IsLines 0 (senders_lines t selector class meta)
one_side t selector class meta = all_lines (λ n. sender_line class.name meta n.name) (senders_on t selector class meta) (λ n. sender_lines class.name meta n.name)

senders_said : (t : Table) (selector : List ℕ) (cs : List Named) → IsLines 0 (senders_text t selector cs)
senders_said t selector cs =
    let count = sum_by (senders_count t selector) cs in
    lines_both 0 0 (count_text (codes "senders") count) (flat_map (both_lines t selector) cs) (count_lines (codes "senders") count refl refl)
    (all_lines (both_lines t selector) cs (λ c. lines_both 0 0 (senders_lines t selector c false) (senders_lines t selector c true) (one_side t selector c false) (one_side t selector c true)))

-- WHAT IS ASKED FOR

pub asked_lines : (v : View) (source : Side → List ℕ → Option (List ℕ)) (ask : Ask) → IsLines 0 (asked_text v source ask)
unfolding reply
asked_lines v source (AsksObject pointer) = object_said v.objects (value_of pointer)
asked_lines v source Display = display_said v
asked_lines v source Classes = classes_said v.objects v.head.globals
asked_lines v source (Methods side) = if_there (methods_text v.objects) (class_of_side v side) (methods_said v.objects)
asked_lines v source (Source side selector) =
    let text = source side selector in
    then_there (source_in v.objects selector text) (class_of_side v side) (source_said v.objects selector text)
asked_lines v source (Bytecodes side selector) = code_said v side selector
asked_lines v source (Senders selector) = senders_said v.objects selector (classes v.objects v.head.globals)
asked_lines v source (Until cycles side selector) = code_said v side selector
