-- Names that are kept in a map.
use Rattle.std.specs.Prelude.{◌≡◌, ℕ, Bool, true, false, List, [], Option, Some, None, option_map, bytes_eq}
use Rattle.std.specs.List.{find}
use Rattle.std.specs.Global.{Vec}
use Rattle.st_model.specs.declared.oop.Oop.{Oop}
use Rattle.st_model.specs.Values.{Value}
use Rattle.st_model.specs.Table.{Table}
use Rattle.st_emit.specs.Names.{NamesView, SharedName}
use Rattle.st_emit.specs.inside.NameViews.{pointer_of}
use Rattle.st_scope.specs.inside.Sought.{shared_at, NotesShared}
use Rattle.st_parts.specs.Keys.{named_among}

-- one more
abbrev pub Keeps : Option (List ℕ) → Oop → (old new : List (Vec ℕ × Oop)) → Type 0
Keeps None v old new = new ≡ old
Keeps (Some text) v old new = NotesShared text (Some v) old new

-- where it is named
abbrev pub KeepsIf : Bool → Option (List ℕ) → Oop → (old new : List (Vec ℕ × Oop)) → Type 0
KeepsIf true key v old new = Keeps key v old new
KeepsIf false key v old new = new ≡ old

-- the association of a text among shared names
abbrev pub named_as : List SharedName → List ℕ → Option ℕ
named_as ss text = option_map (λ s. s.association) (find (λ s. bytes_eq s.text text) ss)

-- of each text the map says what the list says
abbrev pub Says : List SharedName → List (Vec ℕ × Oop) → Type 0
Says ss entries = (text : List ℕ) → option_map pointer_of (shared_at entries text) ≡ named_as ss text

-- those of these values that are named by their keys
abbrev pub AreKept : NamesView → Table → List Value → List (Vec ℕ × Oop) → Type 0
AreKept names t vs entries = Says (named_among names t [] vs) entries
