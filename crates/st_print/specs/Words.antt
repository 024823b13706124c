-- The words of a printed text: its tokens, and how each is spelled.
use Rattle.std.specs.Prelude.{ℕ, ◌+◌, Bool, true, false, not, ◌==◌, List, [], ◌∷◌, ◌++◌, take, drop, codes}
use Rattle.std.specs.Fmt.{decimal}
use Rattle.std.specs.List.{prefix_len}
use Rattle.std.specs.Str.{byte}
use Rattle.st_scan.specs.declared.token.Signed.{Signed}
use Rattle.st_scan.specs.Pieces.{sign_text, doubled}

-- a keyword has its colon
pub data Word : Type 0 where
  name : (text : List ℕ) → Word
  keyword : (text : List ℕ) → Word
  operator : (text : List ℕ) → Word
  number : Signed → Word
  character : (byte : ℕ) → Word
  string : (text : List ℕ) → Word
  symbol : (text : List ℕ) → Word
  opening : Word
  mark : (byte : ℕ) → Word

-- a number in decimal
abbrev pub number_text : Signed → List ℕ
number_text n = sign_text n.minus ++ decimal n.size

-- a string with each quote doubled
abbrev pub string_text : List ℕ → List ℕ
string_text text = byte "'" ∷ (doubled text ++ byte "'" ∷ [])

abbrev pub word_text : Word → List ℕ
word_text (name text) = text
word_text (keyword text) = text
word_text (operator text) = text
word_text (number n) = number_text n
word_text (character b) = byte "$" ∷ b ∷ []
word_text (string text) = string_text text
word_text (symbol text) = byte "#" ∷ text
word_text opening = codes "#("
word_text (mark b) = b ∷ []

-- words with a space before each
abbrev pub spaced : List Word → List ℕ
spaced [] = []
spaced (w ∷ ws) = byte " " ∷ (word_text w ++ spaced ws)

-- with one space between two of them
abbrev pub text_of : List Word → List ℕ
text_of [] = []
text_of (w ∷ ws) = word_text w ++ spaced ws

abbrev pub bar : Word
bar = operator (codes "|")

-- in parentheses
abbrev pub grouped : List Word → List Word
grouped ws = mark (byte "(") ∷ (ws ++ mark (byte ")") ∷ [])

abbrev pub wrapped : Bool → List Word → List Word
wrapped true ws = grouped ws
wrapped false ws = ws

-- KEYWORDS

-- where the first keyword of a selector ends, its colon included
abbrev pub keyword_end : List ℕ → ℕ
keyword_end selector = prefix_len (λ b. not (b == byte ":")) selector + 1

abbrev pub first_keyword : List ℕ → List ℕ
first_keyword selector = take (keyword_end selector) selector

abbrev pub other_keywords : List ℕ → List ℕ
other_keywords selector = drop (keyword_end selector) selector
