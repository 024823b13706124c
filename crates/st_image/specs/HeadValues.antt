-- Values that are handed in to take the place of a head's.
use Rattle.std.specs.Prelude.{ℕ, List, None, unwrap_or}
use Rattle.st_model.specs.declared.head.ImageHead.{ImageHead}
use Rattle.st_model.specs.Image.{image_head}
use Rattle.st_image.specs.declared.head.HeadValues.{HeadValues}

-- no values: all are those of the head
abbrev pub no_values : HeadValues
no_values = record { entries = None; words = None; globals = None; symbols = None }

-- what a file's head says, with the values that are there in place
unfoldable pub head_over : HeadValues → List ℕ → ImageHead
head_over over bytes = record (image_head bytes) {
  entries = unwrap_or over.entries (image_head bytes).entries;
  words = unwrap_or over.words (image_head bytes).words;
  globals = unwrap_or over.globals (image_head bytes).globals;
  symbols = unwrap_or over.symbols (image_head bytes).symbols;
}
