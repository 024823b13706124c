-- The entry of a definition, as it is found at the beginning of a text.
use Rattle.std.specs.Prelude.{ℕ, ◌≤◌, List, length, drop, Option, Some, None}
use Rattle.st_chunk.specs.Definitions.{Definition}
use Rattle.st_changes.specs.inside.Views.{definition_of}
use Rattle.st_changes.specs.declared.entry.Found.{Found}
use Rattle.st_changes.specs.Entries.{BeginsWith}

pub record IsFound (text : List ℕ) (found : Found) : Type 0 where
  pub is : BeginsWith (definition_of found.definition) text (drop found.length text)
  pub within : found.length ≤ length text

-- the definition whose entry the text begins with was found, or it begins with none
abbrev pub FindsEntry : List ℕ → Option Found → Type 0
FindsEntry text None = (d : Definition) (behind : List ℕ) → BeginsWith d text behind → ⊥
FindsEntry text (Some found) = IsFound text found
