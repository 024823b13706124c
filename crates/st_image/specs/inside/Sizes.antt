-- What the rows of faults that concern a file's sizes leave to be known of it.
use Rattle.std.specs.Prelude.{◌≡◌, ℕ, ◌+◌, ◌<◌, ◌≤◌, true, List, length, if◌then◌else◌}
use Rattle.st_image.specs.declared.spans.Span.{Span}
use Rattle.st_model.specs.Limits.{most_words}
use Rattle.st_model.specs.declared.head.ImageHead.{ImageHead}
use Rattle.st_model.specs.Image.{table_end, entries_of, is_used, place, size}

-- the file holds its table, and the lengths in its head are within their limits
pub record IsSized (h : ImageHead) (bytes : List ℕ) : Type 0 where
  pub few : entries_of h ≤ 32768
  pub space : h.space ≤ most_words
  pub file : table_end h ≤ length bytes

-- the object of entry k has a size word and a class word, and lies in the object space
pub record IsInside (h : ImageHead) (bytes : List ℕ) (k : ℕ) : Type 0 where
  pub least : 2 ≤ size h bytes k
  pub space : place h bytes k + size h bytes k ≤ h.space

-- so does each object of an entry in use
abbrev pub AreInside : ImageHead → List ℕ → Type 0
AreInside h bytes = (k : ℕ) → k < entries_of h → is_used h bytes k ≡ true → IsInside h bytes k

-- the words of the object of entry k; a free entry has none
unfoldable pub span_of : ImageHead → List ℕ → ℕ → Span
span_of h bytes k = if is_used h bytes k
    then record { from = place h bytes k; to = place h bytes k + size h bytes k }
    else record { from = 0; to = 0 }
