-- Chunk text: it is cut by exclamation marks, where a doubled one stands for one.
use Rattle.std.specs.Prelude.{ℕ, ◌==◌, ◌||◌, Bool, List, [], ◌∷◌, ◌++◌, if◌then◌else◌}
use Rattle.std.specs.List.{list_all}
use Rattle.std.specs.Str.{byte}

-- the mark that ends a chunk
abbrev pub mark : ℕ
mark = byte "!"

-- the most bytes of a chunk
abbrev pub most : ℕ
most = 65536

-- What a text is cut into: its chunks, and what stands behind the last of them, which is no chunk.
pub record Cut : Type 0 where
  pub chunks : List (List ℕ)
  pub rest : List ℕ

abbrev pub with_chunk : List ℕ → Cut → Cut
with_chunk chunk c = record { chunks = chunk ∷ c.chunks; rest = c.rest }

abbrev mutual
  -- where these bytes of a chunk stand before the text
  pub cut_behind : (before : List ℕ) → List ℕ → Cut
  cut_behind before [] = record { chunks = []; rest = before }
  cut_behind before (b ∷ text) = if b == mark then behind_mark before text else cut_behind (before ++ b ∷ []) text

  -- where one mark more stands between: with another one it is a byte of the chunk, and else it ends the chunk
  pub behind_mark : (before : List ℕ) → List ℕ → Cut
  behind_mark before [] = record { chunks = before ∷ []; rest = [] }
  behind_mark before (b ∷ text) = if b == mark then cut_behind (before ++ b ∷ []) text else with_chunk before (cut_behind (b ∷ []) text)

abbrev pub cut : List ℕ → Cut
cut text = cut_behind [] text

-- the chunks of a text
abbrev pub chunks : List ℕ → List (List ℕ)
chunks text = (cut text).chunks

-- WRITING

-- each mark stands twice
abbrev pub doubled : List ℕ → List ℕ
doubled [] = []
doubled (b ∷ text) = if b == mark then b ∷ b ∷ doubled text else b ∷ doubled text

-- chunks, each with a mark behind it, and then the rest
abbrev pub chunk_text : List (List ℕ) → List ℕ → List ℕ
chunk_text [] rest = doubled rest
chunk_text (c ∷ cs) rest = doubled c ++ mark ∷ chunk_text cs rest

-- the text of what was cut from one
abbrev pub joined : Cut → List ℕ
joined c = chunk_text c.chunks c.rest

-- BLANKS

-- tab, line feed, form feed, carriage return and space
abbrev pub is_blank : ℕ → Bool
is_blank b = b == 9 || b == 10 || b == 12 || b == 13 || b == 32

-- a chunk of blanks alone
abbrev pub is_empty : List ℕ → Bool
is_empty chunk = list_all is_blank chunk
