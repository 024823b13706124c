-- The words of the objects of a memory.
use Rattle.std.specs.Prelude.{◌≡◌, ℕ, List, true}
use Rattle.st_model.specs.Values.{Value}
use Rattle.st_model.specs.Objects.{is_words}
use Rattle.st_model.specs.View.{View, is_live, object_of}
use Rattle.st_memory.specs.inside.Copied.{with_units_in}

abbrev pub words : View → Value → List ℕ
words v o = (object_of v.objects o).units

-- an object of kind Words that is there
pub record HasWords (v : View) (o : Value) : Type 0 where
  pub live : is_live v.objects o ≡ true
  pub kind : is_words (object_of v.objects o).kind ≡ true

-- the memory in which these are the words of an object
abbrev pub with_words : View → Value → List ℕ → View
with_words v o us = record { objects = with_units_in v.objects o us; held = v.held; head = v.head }
