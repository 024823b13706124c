-- A text that is read byte by byte: whether a mark ends a chunk is known at the byte behind it, or at the end.
use Rattle.std.specs.Prelude.{ℕ, ◌==◌, nat_lt, nat_le, List, [], ◌∷◌, ◌++◌, length, if◌then◌else◌, Option, Some, None}
use Rattle.st_chunk.specs.declared.cutting.Phase.{Phase}
use Rattle.st_chunk.specs.declared.cutting.Phase.TheVariants.{Within, Marked, Told, Long, Ended}
use Rattle.st_chunk.specs.declared.cutting.Fed.{Fed}
use Rattle.st_chunk.specs.declared.cutting.Fed.TheVariants as answers
use Rattle.st_chunk.specs.Texts.{mark, most, Cut}

-- a chunk as far as it is read, and how far that is
pub record State : Type 0 where
  pub bytes : List ℕ
  pub phase : Phase

-- nothing is read yet
abbrev pub start : State
start = record { bytes = []; phase = Within }

-- one byte more, which the chunk has room for, or it is too long
abbrev pub with_byte : List ℕ → ℕ → State
with_byte bytes b = if nat_lt (length bytes) most then record { bytes = bytes ++ b ∷ []; phase = Within } else record { bytes = bytes; phase = Long }

abbrev pub fed_in : Phase → List ℕ → ℕ → State
fed_in Within bytes b = if b == mark then record { bytes = bytes; phase = Marked } else with_byte bytes b
fed_in Marked bytes b = if b == mark then with_byte bytes b else record { bytes = bytes; phase = Told b }
fed_in (Told c) bytes b = record { bytes = bytes; phase = Told c }
fed_in Long bytes b = record { bytes = bytes; phase = Long }
fed_in Ended bytes b = record { bytes = bytes; phase = Ended }

-- behind one byte more of the text
abbrev pub fed : State → ℕ → State
fed s b = fed_in s.phase s.bytes b

abbrev pub finished_phase : Phase → Phase
finished_phase Long = Long
finished_phase _ = Ended

-- at the text's end
abbrev pub finished : State → State
finished s = record { bytes = s.bytes; phase = finished_phase s.phase }

-- the chunk that begins with the byte that told the end of the one before it
abbrev pub carried_from : Phase → State
carried_from (Told b) = record { bytes = b ∷ []; phase = Within }
carried_from _ = start

-- what is answered behind a byte: the end of a chunk is told, or one is too long
abbrev pub answer : Phase → Fed
answer (Told b) = answers.Chunk
answer Long = answers.Long
answer _ = answers.More

-- and at the text's end, where no byte can tell
abbrev pub last_answer : Phase → Fed
last_answer Marked = answers.Chunk
last_answer Long = answers.Long
last_answer _ = answers.More

-- another byte may come, or the end
abbrev pub MayGoOn : Phase → Type 0
MayGoOn (Told b) = ⊥
MayGoOn Ended = ⊥
MayGoOn _ = Unit {0}

-- the end of a chunk is told
abbrev pub IsTold : Phase → Type 0
IsTold (Told b) = Unit {0}
IsTold _ = ⊥

-- WHOLE TEXTS

-- What is told of a whole text: its chunks and what is behind them, or the chunks up to the first that is too long.
pub data Account : Type 0 where
  whole : Cut → Account
  too_long : (before : List (List ℕ)) → Account

abbrev pub with_one : List ℕ → Account → Account
with_one chunk (whole c) = whole (record { chunks = chunk ∷ c.chunks; rest = c.rest })
with_one chunk (too_long before) = too_long (chunk ∷ before)

-- the end of a text
abbrev pub account_at_end : List ℕ → Phase → Account
account_at_end bytes Marked = whole (record { chunks = bytes ∷ []; rest = [] })
account_at_end bytes Long = too_long []
account_at_end bytes _ = whole (record { chunks = []; rest = bytes })

-- one byte: where it told the end of a chunk, the next chunk begins with it
abbrev pub account_behind : (State → Account) → State → Fed → Account
account_behind goes_on s answers.More = goes_on s
account_behind goes_on s answers.Chunk = with_one s.bytes (goes_on (carried_from s.phase))
account_behind goes_on s answers.Long = too_long []

-- what the answers tell of a text that is fed byte by byte
abbrev pub account : State → List ℕ → Account
account s [] = account_at_end s.bytes s.phase
account s (b ∷ text) = account_behind (λ t. account t text) (fed s b) (answer (fed s b).phase)

abbrev pub first_of : List (List ℕ) → Option (List ℕ)
first_of [] = None
first_of (c ∷ cs) = Some c

-- the first chunk that is told, if one is told before one is too long
abbrev pub first_told : Account → Option (List ℕ)
first_told (whole c) = first_of c.chunks
first_told (too_long before) = first_of before

-- What the definition tells of it: the first chunk with more bytes than a chunk may have is too long, and so is what
-- stands behind the last one.
abbrev pub limited : List (List ℕ) → List ℕ → Account
limited [] rest = if nat_le (length rest) most then whole (record { chunks = []; rest = rest }) else too_long []
limited (c ∷ cs) rest = if nat_le (length c) most then with_one c (limited cs rest) else too_long []
