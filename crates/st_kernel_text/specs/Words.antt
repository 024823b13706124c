-- The words of a chunk are what stands between blanks.
use Rattle.std.specs.Prelude.{ℕ, Bool, not, nat_eq, List, [], ◌∷◌, ◌++◌, Option, Some, None, if◌then◌else◌}
use Rattle.std.specs.Cmp.Lexicographic.{pointwise}
use Rattle.std.specs.List.{list_all}
use Rattle.st_chunk.specs.Texts.{is_blank}
use Rattle.st_chunk.specs.Groups.{is_name}

abbrev mutual
  pub words : List ℕ → List (List ℕ)
  words [] = []
  words (b ∷ text) = if is_blank b then words text else words_from (b ∷ []) text

  -- where a word has begun with these bytes
  pub words_from : (word : List ℕ) → List ℕ → List (List ℕ)
  words_from word [] = word ∷ []
  words_from word (b ∷ text) = if is_blank b then word ∷ words text else words_from (word ++ b ∷ []) text

abbrev pub no_blank : ℕ → Bool
no_blank b = not (is_blank b)

abbrev pub is_word : List ℕ → List ℕ → Bool
is_word word text = pointwise nat_eq word text

-- words that are names
abbrev pub names_in : List (List ℕ) → Option (List (List ℕ))
names_in words = if list_all is_name words then Some words else None
