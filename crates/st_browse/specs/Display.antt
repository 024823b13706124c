-- What an image shows: the Form that is held as the display. Field 0 of a Form has its pixels, 1 its width and 2 its height, as
-- BitBlt reads them.
use Rattle.std.specs.Prelude.{codes, ℕ, ◌*◌, ◌/◌, ◌%◌, List, [], ◌∷◌, ◌++◌, take, drop, Option, Some, None, option_map, option_and_then, if◌then◌else◌}
use Rattle.std.specs.List.{flat_map, range_with_len}
use Rattle.st_model.specs.Values.{Value}
use Rattle.st_model.specs.Objects.{nil}
use Rattle.st_model.specs.Machine.{State, Step, Transition, Died, Went}
use Rattle.st_model.specs.Events.{is_held}
use Rattle.st_model.specs.Deeds.{over_table}
use Rattle.st_model.specs.Pixels.{row_words}
use Rattle.st_model.specs.BitBlt.{Form, read_form}
use Rattle.st_model.specs.Table.{Table, table}
use Rattle.st_model.specs.Text.{hexadecimal, numbers_text}
use Rattle.st_model.specs.View.{View}

abbrev pub answer_of : {A : Type 0} → Transition (State Table) A → Option A
answer_of (Died cause) = None
answer_of (Went a s) = Some a

-- what a step answers that looks at a table alone; nothing where it dies
abbrev pub answer_in : {A : Type 0} → Step Table A → Table → Option A
answer_in step t = answer_of (step.run (over_table t))

abbrev pub form_at : Table → Value → Option Form
form_at t v = answer_in (read_form table v) t

-- nil is held where there is no display
abbrev pub if_held : Value → Option Value
if_held v = if is_held nil v then Some v else None

-- the words of row y, from the top
abbrev pub row_of : Form → ℕ → List ℕ
row_of f y = take (row_words f.width) (drop (y * row_words f.width) f.words)

-- a word as four digits
abbrev pub word_text : ℕ → List ℕ
word_text w = hexadecimal (w / 4096) ∷ hexadecimal (w / 256 % 16) ∷ hexadecimal (w / 16 % 16) ∷ hexadecimal (w % 16) ∷ []

abbrev pub row_line : List ℕ → List ℕ
row_line row = codes "row " ++ (flat_map word_text row ++ codes "\n")

abbrev pub rows_text : Form → List ℕ
rows_text f = flat_map (λ y. row_line (row_of f y)) (range_with_len 0 f.height)

-- width and height, and the rows from the top
abbrev pub form_text : Form → List ℕ
form_text f = (codes "display" ++ (numbers_text (f.width ∷ f.height ∷ []) ++ codes "\n")) ++ rows_text f

unfoldable pub display_reply : View → Option (List ℕ)
display_reply v = option_map form_text (option_and_then (form_at v.objects) (if_held v.held.devices.display))
