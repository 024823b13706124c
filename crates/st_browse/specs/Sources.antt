-- The text of a method, line by line.
use Rattle.std.specs.Prelude.{codes, ℕ, ◌==◌, List, ◌++◌, length, if◌then◌else◌}
use Rattle.std.specs.List.{flat_map, slice_split}
use Rattle.st_model.specs.Text.{escaped, escaped_byte}
use Rattle.st_chunk.specs.Definitions.{line_feed}
use Rattle.st_browse.specs.Replies.{count_text}

-- the lines of a text, between which line feeds stand
abbrev pub lines_of : List ℕ → List (List ℕ)
lines_of text = slice_split (λ b. b == line_feed) text

abbrev pub source_line : List ℕ → List ℕ
source_line line = codes "| " ++ (escaped line ++ codes "\n")

-- how many lines there are, and each of them
abbrev pub source_text : List ℕ → List ℕ
source_text text = count_text (codes "source") (length (lines_of text)) ++ flat_map source_line (lines_of text)

-- a byte between the first line's beginning and the last one's end
abbrev pub source_byte : ℕ → List ℕ
source_byte b = if b == line_feed then codes "\n| " else escaped_byte b
