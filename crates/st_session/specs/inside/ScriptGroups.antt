-- A group of a script as a whole: what it asks for, and where the script goes on.
use Rattle.std.specs.Prelude.{◌≡◌, ℕ, ◌≤◌, ◌==◌, not, List, [], ◌∷◌, ◌++◌, length, map, All, Some, IsTrue, IsFalse}
use Rattle.st_chunk.specs.Texts.{mark, most, is_empty, chunk_text}
use Rattle.st_chunk.specs.Groups.{begins, header_of, trimmed, Group}
use Rattle.st_chunk.specs.Definitions.{group_definitions}
use Rattle.st_chunk.specs.Reading.{line_from, line_behind}
use Rattle.st_chunk.specs.Scripts.{Defines, asked_from}

-- a chunk of at most 65,536 bytes, of which the first is no mark
pub record IsChunk (chunk : List ℕ) : Type 0 where
  pub first : IsTrue (begins (λ b. not (b == mark)) chunk)
  pub short : length chunk ≤ most

-- a chunk that isn't of blanks alone
pub record IsMethod (chunk : List ℕ) : Type 0 where
  pub whole : IsChunk chunk
  pub there : IsFalse (is_empty chunk)

-- The chunks are those of a group behind its first mark: its header, its methods, and a chunk of blanks that closes it.
pub record IsGroup (g : Group) (header : List ℕ) (methods : List (List ℕ)) (close : List ℕ) : Type 0 where
  pub heads : IsChunk header
  pub names : header_of header ≡ Some g.header
  pub each : All IsMethod methods
  pub texts : g.methods ≡ map trimmed methods
  pub closes : IsChunk close
  pub blank : IsTrue (is_empty close)

-- its text: an empty chunk and these, a mark behind each, where each mark within one stands twice
abbrev pub group_text : List ℕ → List (List ℕ) → List ℕ → List ℕ
group_text header methods close = chunk_text ([] ∷ header ∷ (methods ++ close ∷ [])) []

-- the line behind a text that begins in this one
abbrev pub line_after : ℕ → List ℕ → ℕ
line_after n [] = n
line_after n (b ∷ text) = line_after (line_behind b n) text

-- A group at the beginning of a line asks for its definitions, in order, and behind it a line begins.
abbrev pub GroupsByBytes : Type 0
GroupsByBytes = (n : ℕ) (g : Group) (header : List ℕ) (methods : List (List ℕ)) (close : List ℕ) (b : ℕ) (rest : List ℕ)
    → IsGroup g header methods close → IsFalse (b == mark)
    → asked_from (line_from n) (group_text header methods close ++ b ∷ rest)
    ≡ map Defines (group_definitions g) ++ asked_from (line_from (line_after n (group_text header methods close))) (b ∷ rest)
