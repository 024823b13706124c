-- Names as they are sought in tables that share variables.
use Rattle.std.specs.Prelude.{◌≡◌, ℕ, List, [], ◌∷◌, ◌++◌, Option, Some, None, Bool, true, false, ◌||◌, Ok, bytes_eq, if◌then◌else◌}
use Rattle.std.specs.Global.{Vec}
use Rattle.std.specs.List.{list_any}
use Rattle.std.specs.Map.{lookup}
use Rattle.st_model.specs.declared.oop.Oop.{Oop}
use Rattle.st_model.specs.Values.{value}
use Rattle.st_model.specs.Table.{Table, table}
use Rattle.st_model.specs.inside.Calls.{Reads}
use Rattle.st_model.specs.View.{is_live}
use Rattle.st_emit.specs.Names.{or_else}
use Rattle.st_scope.specs.declared.sought.Search.{Search}
use Rattle.st_scope.specs.Variables.{association_in}
use Rattle.st_scope.specs.inside.Meanings.{values}
use Rattle.st_scope.specs.Texts.{found}

-- a text is among these
abbrev pub is_among : List (List ℕ) → List ℕ → Bool
is_among texts text = list_any (λ t. bytes_eq t text) texts

-- the association that is noted of a text
abbrev pub shared_at : List (Vec ℕ × Oop) → List ℕ → Option Oop
shared_at entries text = lookup (λ k. bytes_eq text k.items) entries

-- a text was sought
abbrev pub was_sought : List (Vec ℕ) → List ℕ → Bool
was_sought keys text = list_any (λ k. bytes_eq text k.items) keys

-- NOTES

-- an association is noted of a text, if one was found, and of others what was noted
abbrev pub NotesShared : List ℕ → Option Oop → (old new : List (Vec ℕ × Oop)) → Type 0
NotesShared text association old new = (t : List ℕ) → shared_at new t ≡ (if bytes_eq text t then or_else association (shared_at old t) else shared_at old t)

-- no text was sought but this one and those that were
abbrev pub NotesSought : List ℕ → (old new : List (Vec ℕ)) → Type 0
NotesSought text old new = (t : List ℕ) → was_sought new t ≡ true → (bytes_eq text t || was_sought old t) ≡ true

-- both
pub record Notes (text : List ℕ) (association : Option Oop) (old new : Search) : Type 0 where
  pub shared : NotesShared text association old.shared.entries new.shared.entries
  pub sought : NotesSought text old.names.keys new.names.keys

-- WHAT IS SHARED

module _ (t : Table) (tables : List Oop) where
  -- of each of these texts what the tables share is noted, and of others nothing
  pub record AreShared (texts : List (List ℕ)) (entries : List (Vec ℕ × Oop)) : Type 0 where
    pub each : (text : List ℕ) → is_among texts text ≡ true → Reads (association_in table (values tables) text) found t (Ok (shared_at entries text))
    pub none : (text : List ℕ) → is_among texts text ≡ false → shared_at entries text ≡ None
    pub live : (text : List ℕ) (association : Oop) → shared_at entries text ≡ Some association → is_live t (value association) ≡ true

  -- these texts were sought, or some of them
  pub record AreSought (texts : List (List ℕ)) (search : Search) : Type 0 where
    pub shared : AreShared texts search.shared.entries
    pub names : (text : List ℕ) → was_sought search.names.keys text ≡ true → is_among texts text ≡ true

  -- a text is sought behind others
  abbrev pub Seeks : List ℕ → (old new : Search) → Type 0
  Seeks text old new = (texts : List (List ℕ)) → AreSought texts old → AreSought (texts ++ text ∷ []) new
