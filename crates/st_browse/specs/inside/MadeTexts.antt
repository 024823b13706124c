-- The text that is shown of a method: that of its last definition where one is kept, else one that is made of its code. Such a text
-- means a tree that has this code under the names that the method sees. There is none where its class hasn't the form that an
-- installation asks, where a literal isn't what its place asks, or where no text has this code.
use Rattle.std.specs.Prelude.{◌≡◌, ℕ, List, Option, Some, None}
use Rattle.st_model.specs.View.{View}
use Rattle.st_scan.specs.Views.{MethodView}
use Rattle.st_emit.specs.Names.{NamesView}
use Rattle.st_code.specs.Methods.{PartsView}
use Rattle.st_scope.specs.Calls.{names}
use Rattle.st_parts.specs.Parts.{Place, parts_at}
use Rattle.st_decompile.specs.inside.Answers.{IsSource, IsSourceOf, IsPrintedRead}
use Rattle.st_chunk.specs.Asks.{Side, Source}
use Rattle.st_chunk.specs.Definitions.{Definition}
use Rattle.st_browse.specs.Asked.{IsTextFor}
use Rattle.st_browse.specs.Decompiling.{method_place, names_at}

-- It means a tree that has this code, and it is the one that is written of the tree that is read; or no text has this code.
abbrev pub IsTextOf : NamesView → PartsView → Option (List ℕ) → Type 0
IsTextOf names p None = (t : MethodView) → IsSource names p t → ⊥
IsTextOf names p (Some text) = ((t : MethodView) × IsSourceOf names p text t) × IsPrintedRead names p text

abbrev pub IsTextOfParts : NamesView → Option PartsView → Option (List ℕ) → Type 0
IsTextOfParts names None text = text ≡ None
IsTextOfParts names (Some p) text = IsTextOf names p text

abbrev pub IsTextUnder : View → Place → Option NamesView → Option (List ℕ) → Type 0
IsTextUnder v at None text = text ≡ None
IsTextUnder v at (Some names) text = IsTextOfParts names (parts_at names v at) text

abbrev pub IsTextAt : View → Option Place → Option (List ℕ) → Type 0
IsTextAt v None text = text ≡ None
IsTextAt v (Some at) text = IsTextUnder v at (names_at v at) text

-- the text of a method, made of its code
abbrev pub IsMade : View → Side → List ℕ → Option (List ℕ) → Type 0
IsMade v side selector text = IsTextAt v (method_place v side selector) text

-- the text that is kept, or else such a one
abbrev pub IsKeptOrMade : View → Side → List ℕ → (kept text : Option (List ℕ)) → Type 0
IsKeptOrMade v side selector (Some kept) text = text ≡ Some kept
IsKeptOrMade v side selector None text = IsMade v side selector text

-- the text that is shown, where these definitions are kept
pub record IsShown (v : View) (ds : List Definition) (side : Side) (selector : List ℕ) (text : Option (List ℕ)) : Type 0 where
  pub kept : Option (List ℕ)
  pub is_kept : IsTextFor ds (Source side selector) kept
  pub is_shown : IsKeptOrMade v side selector kept text
