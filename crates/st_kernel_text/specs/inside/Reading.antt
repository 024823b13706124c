-- A kernel text as far as it is read.
use Rattle.std.specs.Prelude.{◌≡◌, ℕ, ◌&&◌, List, [], ◌++◌, length, Option, Some, None, Result, Ok, Err, if◌then◌else◌}
use Rattle.st_chunk.specs.Texts.{Cut, cut_behind, behind_mark, is_empty}
use Rattle.st_chunk.specs.declared.cutting.Phase.{Phase}
use Rattle.st_chunk.specs.declared.cutting.Phase.TheVariants.{Marked}
use Rattle.st_kernel_text.specs.declared.place.ChunkPlace.{ChunkPlace}
use Rattle.st_kernel_text.specs.declared.place.ChunkPlace.TheVariants.{Declarations}
use Rattle.st_kernel_text.specs.declared.cause.Cause.{Cause}
use Rattle.st_kernel_text.specs.declared.cause.Cause.TheVariants.{Form}
use Rattle.st_kernel_text.specs.declared.cause.Stop.{Stop}
use Rattle.st_kernel_text.specs.declared.cause.Stop.TheVariants.{At, OutOfMemory}
use Rattle.st_kernel_text.specs.Parts.{Part}
use Rattle.st_kernel_text.specs.Known.{Known, nothing}
use Rattle.st_kernel_text.specs.Texts.{Account, account_from, is_end}

-- what was to come of it stands now, unless there was no memory
abbrev pub Leaves : {A B : Type 0} → Result A Cause → A → Result B Stop → Type 0
Leaves expected now (Ok done) = expected ≡ Ok now
Leaves expected now (Err (At cause)) = expected ≡ Err cause
Leaves expected now (Err OutOfMemory) = Unit {0}

-- what was to come of it is known now, or the declared names stay, unless there was no memory
abbrev pub Declares : Result Known Cause → (old now : Known) → Result (Unit {0}) Stop → Type 0
Declares expected old now (Ok done) = expected ≡ Ok now
Declares expected old now (Err (At cause)) = (expected ≡ Err cause) × (now.names ≡ old.names)
Declares expected old now (Err OutOfMemory) = Unit {0}

-- the parts so far, and where the next chunk stands
pub record State : Type 0 where
  pub place : ChunkPlace
  pub known : Known
  pub parts : List Part

abbrev pub begun : State
begun = record { place = Declarations; known = nothing; parts = [] }

abbrev pub with_parts : List Part → Account → Account
with_parts parts a = record a { parts = parts ++ a.parts }

-- the account of the whole text, of which these chunks and this rest are left
abbrev pub account_behind : State → List (List ℕ) → (rest : List ℕ) → Account
account_behind s chunks rest = with_parts s.parts (account_from s.place s.known (length s.parts) chunks rest)

abbrev pub stopped : State → Option Cause → Account
stopped s cause = record { parts = s.parts; names = s.known.names; cause = cause }

-- the account of a text that is right
abbrev pub complete : State → Account
complete s = stopped s None

-- the account is that of what is done now, or of the parts so far and this cause
abbrev pub Tells : Account → (State → Account) → State → Result Unit Stop → Type 0
Tells whole goes_on now (Ok done) = whole ≡ goes_on now
Tells whole goes_on now (Err (At cause)) = whole ≡ stopped now (Some cause)
Tells whole goes_on now (Err OutOfMemory) = Unit {0}

-- the account where this rest is left, which is no chunk
abbrev pub end_of : State → (rest : List ℕ) → Account
end_of s rest = stopped s (if is_end s.place && is_empty rest then None else Some Form)

-- what a text is cut into where a part of a chunk was fed already
abbrev pub cut_from : Phase → List ℕ → List ℕ → Cut
cut_from Marked bytes text = behind_mark bytes text
cut_from _ bytes text = cut_behind bytes text

abbrev pub account_left : State → Cut → Account
account_left s c = account_behind s c.chunks c.rest
