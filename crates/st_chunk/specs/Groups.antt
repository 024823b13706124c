-- Groups of method chunks, each behind a header that names a class, a side of it and a category.
use Rattle.std.specs.Prelude.{ℕ, ◌==◌, ◌&&◌, Bool, true, false, List, [], ◌∷◌, ◌++◌, reverse, if◌then◌else◌, Option, Some, None, codes}
use Rattle.std.specs.List.{list_all}
use Rattle.std.specs.Option.{option_map, option_and_then}
use Rattle.std.specs.Str.{byte}
use Rattle.std.specs.Char.{is_ascii_alphabetic, is_ascii_alphanumeric}
use Rattle.st_chunk.specs.Texts.{is_blank, is_empty}

-- PARTS OF A TEXT

-- the first byte, if there is one, passes
abbrev pub begins : (ℕ → Bool) → List ℕ → Bool
begins p [] = false
begins p (b ∷ text) = p b

-- letters and digits, a letter first
abbrev pub is_name : List ℕ → Bool
is_name text = begins is_ascii_alphabetic text && list_all is_ascii_alphanumeric text

-- without the blanks at its front
abbrev pub after_blanks : List ℕ → List ℕ
after_blanks [] = []
after_blanks (b ∷ text) = if is_blank b then after_blanks text else b ∷ text

-- without the blanks at both ends
abbrev pub trimmed : List ℕ → List ℕ
trimmed text = reverse (after_blanks (reverse (after_blanks text)))

-- the letters and digits at its front
abbrev pub word_of : List ℕ → List ℕ
word_of [] = []
word_of (b ∷ text) = if is_ascii_alphanumeric b then b ∷ word_of text else []

-- what stands behind them
abbrev pub behind_word : List ℕ → List ℕ
behind_word [] = []
behind_word (b ∷ text) = if is_ascii_alphanumeric b then behind_word text else b ∷ text

-- what stands behind these bytes, if they stand at its front
abbrev pub behind : List ℕ → List ℕ → Option (List ℕ)
behind [] text = Some text
behind (b ∷ front) [] = None
behind (b ∷ front) (c ∷ text) = if c == b then behind front text else None

-- what stands behind a blank or more
abbrev pub behind_blanks : List ℕ → Option (List ℕ)
behind_blanks text = if begins is_blank text then Some (after_blanks text) else None

-- STRINGS

-- in a string each quote stands twice
abbrev pub quotes_doubled : List ℕ → List ℕ
quotes_doubled [] = []
quotes_doubled (b ∷ text) = if b == byte "'" then b ∷ b ∷ quotes_doubled text else b ∷ quotes_doubled text

abbrev pub quoted : List ℕ → List ℕ
quoted text = byte "'" ∷ (quotes_doubled text ++ byte "'" ∷ [])

abbrev mutual
  -- what the bytes up to the closing quote of a string mean, if nothing stands behind it
  pub inside_quotes : List ℕ → Option (List ℕ)
  inside_quotes [] = None
  inside_quotes (b ∷ text) = if b == byte "'" then behind_quote text else option_map (λ t. b ∷ t) (inside_quotes text)

  -- a quote that was met is a byte of the string with another one, and else its end
  pub behind_quote : List ℕ → Option (List ℕ)
  behind_quote [] = Some []
  behind_quote (b ∷ text) = if b == byte "'" then option_map (λ t. b ∷ t) (inside_quotes text) else None

abbrev pub unquoted : List ℕ → Option (List ℕ)
unquoted text = option_and_then inside_quotes (behind (codes "'") text)

-- HEADERS

-- of a group: a class's name, whether its methods are those of the class side, and their category
pub record GroupHeader : Type 0 where
  pub class : List ℕ
  pub meta : Bool
  pub category : List ℕ

abbrev pub side_text : (meta : Bool) → List ℕ
side_text true = codes " class"
side_text false = []

-- with single spaces
abbrev pub header_text : GroupHeader → List ℕ
header_text h = h.class ++ (side_text h.meta ++ (codes " methodsFor: " ++ quoted h.category))

-- methodsFor:, blanks and a string
abbrev pub with_category : List ℕ → Bool → List ℕ → Option GroupHeader
with_category class meta text =
    option_map (λ category. record { class = class; meta = meta; category = category })
    (option_and_then unquoted (option_and_then behind_blanks (behind (codes "methodsFor:") text)))

-- what stands behind `class` and blanks, if they are there
abbrev pub with_side : List ℕ → List ℕ → Option (List ℕ) → Option GroupHeader
with_side class text (Some others) = with_category class true others
with_side class text None = with_category class false text

-- a name, blanks, maybe `class` and blanks, methodsFor:, blanks and a string
abbrev pub header_in : List ℕ → Option GroupHeader
header_in text =
    if is_name (word_of text)
    then option_and_then (λ others. with_side (word_of text) others (option_and_then behind_blanks (behind (codes "class") others))) (behind_blanks (behind_word text))
    else None

-- the header that a chunk is, without the blanks round it
abbrev pub header_of : List ℕ → Option GroupHeader
header_of chunk = header_in (trimmed chunk)

-- GROUPS

-- a header, and the texts of its methods
pub record Group : Type 0 where
  pub header : GroupHeader
  pub methods : List (List ℕ)

-- the texts of methods, and the groups behind them
pub record Opened : Type 0 where
  pub methods : List (List ℕ)
  pub groups : List Group

abbrev pub closed : List Group → Opened
closed gs = record { methods = []; groups = gs }

abbrev pub with_method : List ℕ → Opened → Opened
with_method text o = record { methods = text ∷ o.methods; groups = o.groups }

abbrev pub with_header : Opened → GroupHeader → List Group
with_header o h = record { header = h; methods = o.methods } ∷ o.groups

abbrev mutual
  -- the groups that chunks are: each an empty chunk, a header, methods, and an empty chunk that closes it
  pub groups : List (List ℕ) → Option (List Group)
  groups [] = Some []
  groups (c ∷ cs) = if is_empty c then opened cs else None

  pub opened : List (List ℕ) → Option (List Group)
  opened [] = None
  opened (c ∷ cs) = option_and_then (λ o. option_map (with_header o) (header_of c)) (methods cs)

  pub methods : List (List ℕ) → Option Opened
  methods [] = None
  methods (c ∷ cs) = if is_empty c then option_map closed (groups cs) else option_map (with_method (trimmed c)) (methods cs)
