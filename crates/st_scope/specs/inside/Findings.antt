-- What functions that take memory find in an image.
use Rattle.std.specs.Prelude.{ℕ, List, Result, Ok, Err}
use Rattle.std.specs.Global.{Vec}
use Rattle.st_model.specs.Machine.{Step}
use Rattle.st_model.specs.Table.{Table}
use Rattle.st_model.specs.inside.Calls.{Reads}
use Rattle.st_emit.specs.inside.NameViews.{texts_view}
use Rattle.st_scope.specs.declared.unread.Unread.{Unread}
use Rattle.st_scope.specs.declared.unread.Unread.TheVariants.{Dies, OutOfMemory}

-- the function reads what this step does, or dies as it does; where there was no memory, nothing is said
abbrev pub Finds : {A B : Type 0} → Step Table A → (B → A) → Table → Result B Unread → Type 0
Finds m f t (Ok v) = Reads m f t (Ok v)
Finds m f t (Err (Dies dead)) = Reads m f t (Err dead)
Finds m f t (Err OutOfMemory) = Unit {0}

-- the bytes of a text, and those of several
abbrev pub text_of : Vec ℕ → List ℕ
text_of text = text.items

abbrev pub texts_of : Vec (Vec ℕ) → List (List ℕ)
texts_of texts = texts_view texts.items
