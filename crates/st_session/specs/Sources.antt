-- The text that a session shows of a method: that of its last definition among those that are kept, or else one that is made of its code.
use Rattle.std.specs.Prelude.{ℕ, Bool, false, ◌&&◌, bytes_eq, List, [], ◌∷◌, Option, Some, None, Result, Ok, Err, if◌then◌else◌}
use Rattle.std.specs.Bool.{beq}
use Rattle.std.specs.Option.{option_or}
use Rattle.st_model.specs.View.{View}
use Rattle.st_scan.specs.declared.fault.Fault.{Fault}
use Rattle.st_scan.specs.Views.{MethodView}
use Rattle.st_chunk.specs.Definitions.{Definition}
use Rattle.st_chunk.specs.Asks.{Side, Ask, Source}
use Rattle.st_grammar.specs.Syntax.{syntax}
use Rattle.st_session.specs.Decompiled.{made_text}

-- a text means a tree of this selector
abbrev pub is_named : List ℕ → Result MethodView Fault → Bool
is_named selector (Ok tree) = bytes_eq tree.selector selector
is_named selector (Err fault) = false

-- a definition of this class, this side of it and this selector
abbrev pub is_of : Side → List ℕ → Definition → Bool
is_of side selector d = bytes_eq d.class side.class && (beq d.meta side.meta && is_named selector (syntax d.text))

-- the text of the last of these definitions that is of this class, this side of it and this selector
abbrev pub last_text : List Definition → Side → List ℕ → Option (List ℕ)
last_text [] side selector = None
last_text (d ∷ ds) side selector = option_or (last_text ds side selector) (if is_of side selector d then Some d.text else None)

-- the text that is kept, or else one that is made
abbrev pub shown_text : View → List Definition → Side → List ℕ → Option (List ℕ)
shown_text v ds side selector = option_or (last_text ds side selector) (made_text v side selector)

-- where a source is asked for, and such texts are shown
abbrev pub text_for : (Side → List ℕ → Option (List ℕ)) → Ask → Option (List ℕ)
text_for source (Source side selector) = source side selector
text_for source ask = None
