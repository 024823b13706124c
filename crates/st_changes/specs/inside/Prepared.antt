-- A definition that is prepared for the index: its selector is found, and the index has room for it.
use Rattle.std.specs.Prelude.{◌≡◌, ℕ, ◌≤◌, List, Option}
use Rattle.std.specs.Option.{ForSome}
use Rattle.st_chunk.specs.Definitions.{Definition, IsDefinition, entry}
use Rattle.st_changes.specs.inside.IndexStates.{IndexState, HasName}
use Rattle.st_changes.specs.Last.{FindsSelector}

-- the index has room for this class and selector
pub record HasPlace (index : IndexState) (class selector : List ℕ) : Type 0 where
  pub class_named : HasName index class
  pub selector_named : HasName index selector
  pub room : 1 ≤ index.room

-- this is the definition's selector, or it has none, and the index has room for it
pub record IsPrepared (index : IndexState) (d : Definition) (selector : Option (List ℕ)) : Type 0 where
  pub finds : FindsSelector d.text selector
  pub place : ForSome selector (HasPlace index d.class)

-- what was prepared, for the definition whose entry these bytes are
abbrev pub IsReady : IndexState → List ℕ → Option (List ℕ) → Type 0
IsReady index bytes selector = (d : Definition) → IsDefinition d → bytes ≡ entry d → IsPrepared index d selector
