-- What a Form of the code means.
use Rattle.std.specs.Prelude.{◌≡◌, ℕ, ◌*◌, ◌<◌, ◌≤◌, List, true, length}
use Rattle.st_model.specs.Values.{Value, value}
use Rattle.st_model.specs.Objects.{is_words}
use Rattle.st_model.specs.Pixels.{row_words}
use Rattle.st_model.specs.BitBlt.{Form}
use Rattle.st_model.specs.Table.{Table}
use Rattle.st_model.specs.View.{is_live, object_of}
use Rattle.st_browse.specs.declared.display.Form.{Form as FormRead}

-- the words of an object
abbrev pub words_in : Table → Value → List ℕ
words_in t v = (object_of t v).units

abbrev pub form_in : Table → FormRead → Form
form_in t f = record { words = words_in t (value f.bits); width = f.width; height = f.height }

-- an object of kind Words is there
pub record HasWords (t : Table) (v : Value) : Type 0 where
  pub live : is_live t v ≡ true
  pub kind : is_words (object_of t v).kind ≡ true

-- the object with the pixels is there, with enough words for the rows
pub record IsForm (t : Table) (f : FormRead) : Type 0 where
  pub bits : HasWords t (value f.bits)
  pub enough : f.height * row_words f.width ≤ length (words_in t (value f.bits))
  pub width : f.width < 16384
  pub height : f.height < 16384
