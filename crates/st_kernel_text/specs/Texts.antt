-- What a whole kernel text says, up to the first chunk at which it is wrong.
use Rattle.std.specs.Prelude.{ℕ, suc, ◌&&◌, Bool, true, false, List, [], ◌∷◌, Option, Some, None, Result, Ok, Err, if◌then◌else◌}
use Rattle.st_chunk.specs.Texts.{cut, is_empty}
use Rattle.st_kernel_text.specs.declared.place.ChunkPlace.{ChunkPlace}
use Rattle.st_kernel_text.specs.declared.place.ChunkPlace.TheVariants.{Declarations, End}
use Rattle.st_kernel_text.specs.declared.cause.Cause.{Cause}
use Rattle.st_kernel_text.specs.declared.cause.Cause.TheVariants.{Form}
use Rattle.st_kernel_text.specs.Parts.{Part}
use Rattle.st_kernel_text.specs.Forms.{formed_at, behind_part}
use Rattle.st_kernel_text.specs.Known.{Names, Known, nothing, and_then, known_behind}

-- The parts of a text, one a chunk, up to the first chunk at which a cause stands; the names that they declare; and the least cause
-- there. The chunk behind the last one counts too: there the text is to be over.
pub record Account : Type 0 where
  pub parts : List Part
  pub names : Names
  pub cause : Option Cause

abbrev pub with_part : Part → Account → Account
with_part p a = record a { parts = p ∷ a.parts }

abbrev pub ended : Names → Option Cause → Account
ended names cause = record { parts = []; names = names; cause = cause }

abbrev pub is_end : ChunkPlace → Bool
is_end End = true
is_end _ = false

-- what the chunk of this number that stands here says, and what is known behind it; or the least cause
abbrev pub read_part : ChunkPlace → Known → (number : ℕ) → Option Part → Result (Part × Known) Cause
read_part place k number None = Err Form
read_part place k number (Some p) = and_then (λ after. Ok (p, after)) (known_behind place k number p)

abbrev pub behind : Names → (ChunkPlace → Known → Account) → Result (Part × Known) Cause → Account
behind names goes_on (Ok read) = with_part read.0 (goes_on (behind_part read.0) read.1)
behind names goes_on (Err cause) = ended names (Some cause)

-- chunks that begin here, of which the first has this number, and blanks behind them
abbrev pub account_from : ChunkPlace → Known → (number : ℕ) → List (List ℕ) → (rest : List ℕ) → Account
account_from place k number [] rest = ended k.names (if is_end place && is_empty rest then None else Some Form)
account_from place k number (c ∷ cs) rest =
    behind k.names (λ next after. account_from next after (suc number) cs rest) (read_part place k number (formed_at place c))

abbrev pub account : List ℕ → Account
account text = account_from Declarations nothing 0 (cut text).chunks (cut text).rest
