-- What an image answers to what is asked of it, with the text of the method's last definition where that is asked for; nothing where
-- what is asked for is missing.
use Rattle.std.specs.Prelude.{ℕ, List, Option, Some, MatchOption, option_map, option_and_then, ⊤}
use Rattle.st_model.specs.Values.{Value, value_of}
use Rattle.st_model.specs.Table.{Table}
use Rattle.st_model.specs.View.{View, object_of}
use Rattle.st_chunk.specs.Asks.{Side, Ask, Object, Display, Classes, Methods, Source, Bytecodes, Senders, Until}
use Rattle.st_chunk.specs.Definitions.{Definition}
use Rattle.st_changes.specs.Last.{IsNowhere, IsLastText}
use Rattle.st_browse.specs.Classes.{classes, class_named, on_side}
use Rattle.st_browse.specs.Methods.{if_method, method_named}
use Rattle.st_browse.specs.Display.{display_reply}
use Rattle.st_browse.specs.Sources.{source_text}
use Rattle.st_browse.specs.Replies.{object_reply, classes_text, methods_text, bytecodes_text, senders_text}

-- the class that a side names
abbrev pub class_of_side : View → Side → Option Value
class_of_side v side = option_map (on_side v.objects side.meta) (class_named v.objects v.head.globals side.class)

-- a class's method, where an object of kind Method is there
abbrev pub method_in : Table → List ℕ → Value → Option Value
method_in t selector class = option_and_then (λ n. if_method t n.value) (method_named t class selector)

abbrev pub method_of_side : View → Side → List ℕ → Option Value
method_of_side v side selector = option_and_then (method_in v.objects selector) (class_of_side v side)

-- its bytecodes
abbrev pub code_text : Table → Value → List ℕ
code_text t method = bytecodes_text (object_of t method)

-- a text, where the class has the method and there is a text
abbrev pub source_in : Table → List ℕ → Option (List ℕ) → Value → Option (List ℕ)
source_in t selector text class = option_and_then (λ n. option_map source_text text) (method_named t class selector)

-- Of a method to run up to an image shows the bytecodes: it runs nothing.
unfoldable pub reply : View → Option (List ℕ) → Ask → Option (List ℕ)
reply v text (Object pointer) = object_reply v.objects (value_of pointer)
reply v text Display = display_reply v
reply v text Classes = Some (classes_text v.objects v.head.globals)
reply v text (Methods side) = option_map (methods_text v.objects) (class_of_side v side)
reply v text (Source side selector) = option_and_then (source_in v.objects selector text) (class_of_side v side)
reply v text (Bytecodes side selector) = option_map (code_text v.objects) (method_of_side v side selector)
reply v text (Until cycles side selector) = option_map (code_text v.objects) (method_of_side v side selector)
reply v text (Senders selector) = Some (senders_text v.objects selector (classes v.objects v.head.globals))

-- Where a source is asked for: the text of the last of these definitions that is of this class, this side of it and this selector.
abbrev pub IsTextFor : List Definition → Ask → Option (List ℕ) → Type 0
IsTextFor ds (Source side selector) text = MatchOption text (IsNowhere ds side.class side.meta selector) (IsLastText ds side.class side.meta selector)
IsTextFor ds ask text = ⊤
