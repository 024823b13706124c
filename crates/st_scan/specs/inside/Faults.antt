-- What is wrong at a place of a text where no blank, comment or token stands.
use Rattle.std.specs.Prelude.{◌≡◌, ℕ, Bool, false, not, ◌&&◌, ◌||◌, ◌==◌, IsTrue, IsFalse, ◌⊎◌, List, [], ◌∷◌, ◌++◌, codes}
use Rattle.std.specs.List.{list_all}
use Rattle.std.specs.Str.{byte}
use Rattle.std.specs.Char.{is_ascii_alphabetic, is_ascii_alphanumeric}
use Rattle.st_scan.specs.declared.fault.Cause.{Cause}
use Rattle.st_scan.specs.declared.fault.Cause.TheVariants as causes
use Rattle.st_scan.specs.Bytes.{is_among, is_blank, begins_operator, is_mark}
use Rattle.st_scan.specs.Pieces.{Digits, number, doubled, spelling, is_allowed, makes_float, IsNumber}

-- a blank, a comment or a token may begin with this byte
abbrev pub begins_piece : ℕ → Bool
begins_piece b = is_blank b || is_ascii_alphanumeric b || begins_operator b || is_mark b || is_among (codes "\"'$#") b

-- a name, a keyword, an operator or a ( may begin with this byte
abbrev pub goes_with_hash : ℕ → Bool
goes_with_hash b = is_ascii_alphabetic b || begins_operator b || b == byte "("

-- a byte that begins no token, a $ at the end, or a # without a name, keywords, an operator or ( next
abbrev pub begins_nothing : List ℕ → Bool
begins_nothing [] = false
begins_nothing (b ∷ []) = not (begins_piece b) || b == byte "$" || b == byte "#"
begins_nothing (b ∷ c ∷ bs) = not (begins_piece b) || (b == byte "#" && not (goes_with_hash c))

-- a comment without a second quote, or a string in which each further quote stands twice, up to the end
abbrev pub IsUnclosed : List ℕ → Type 0
IsUnclosed text =
    ((inside : List ℕ) × (text ≡ byte "\"" ∷ inside) × IsTrue (list_all (λ b. not (b == byte "\"")) inside)) ⊎ ((inside : List ℕ) × (text ≡ byte "'" ∷ doubled inside))

-- a number stands before the rest of a text
pub record StartsWithNumber (signs : Bool) (text : List ℕ) (ds : Digits) (rest : List ℕ) : Type 0 where
  pub minus : Bool
  pub parts : text ≡ spelling (number minus ds) ++ rest
  pub stands : IsNumber signs minus ds rest

-- This cause is the scanner's first at the front of a text. `signs` says whether a - may be a sign there.
abbrev pub IsFaulty : (signs : Bool) → Cause → List ℕ → Type 0
IsFaulty signs causes.Character text = IsTrue (begins_nothing text)
IsFaulty signs causes.Unclosed text = IsUnclosed text
IsFaulty signs causes.Number text = (ds : Digits) × (rest : List ℕ) × StartsWithNumber signs text ds rest × IsFalse (is_allowed ds)
IsFaulty signs causes.Float text = (ds : Digits) × (rest : List ℕ) × StartsWithNumber signs text ds rest × IsTrue (is_allowed ds) × IsTrue (makes_float rest)
IsFaulty signs _ text = ⊥
