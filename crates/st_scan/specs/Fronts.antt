-- What the code finds at the front of a text: the piece that stands there, or the cause why none does. The rules are in
-- Pieces and Faults; a piece or a cause is found here exactly where it stands by them.
use Rattle.std.specs.Prelude.{ℕ, zero, suc, ◌+◌, ◌<◌, ◌≤◌, Bool, true, false, ◌&&◌, ◌==◌, if◌then◌else◌, List, [], ◌∷◌, length, take, drop, position, Option, Some, None}
use Rattle.std.specs.List.{prefix_len}
use Rattle.std.specs.Option.{option_map}
use Rattle.std.specs.Str.{byte}
use Rattle.std.specs.Char.{is_ascii_digit, is_ascii_alphabetic, is_ascii_alphanumeric}
use Rattle.st_scan.specs.declared.token.Sort.{Sort}
use Rattle.st_scan.specs.declared.fault.Cause.{Cause}
use Rattle.st_scan.specs.declared.fault.Cause.TheVariants as causes
use Rattle.st_scan.specs.declared.front.Front.{Front}
use Rattle.st_scan.specs.declared.front.Front.TheVariants as fronts
use Rattle.st_scan.specs.Bytes.{is_blank, is_radix_digit, is_operator_byte, begins_operator, is_second_operator_byte, is_mark}
use Rattle.st_scan.specs.Pieces.{Digits, decimal, radix, Symbol, unary, keywords, binary, Piece, blank, comment, name, keyword, operator, number, character, string, symbol, opening, mark, spelling, begins, begins_keyword, is_allowed, makes_keyword, makes_radix, makes_float}
use Rattle.st_scan.specs.Scans.{sort_of}

-- a piece, or why there is none
pub data Found : Type 0 where
  piece : Piece → Found
  fault : Cause → Found

-- the same by its length and sort
abbrev pub shown_piece : Option Sort → ℕ → Front
shown_piece None n = fronts.Gap n
shown_piece (Some sort) n = fronts.Token n sort

abbrev pub shown : Found → Front
shown (piece p) = shown_piece (sort_of p) (length (spelling p))
shown (fault cause) = fronts.Fault cause

-- a front has a byte or more, and no more than there are
abbrev pub IsWithin : ℕ → Front → Type 0
IsWithin most (fronts.Gap n) = (0 < n) × (n ≤ most)
IsWithin most (fronts.Token n sort) = (0 < n) × (n ≤ most)
IsWithin most (fronts.Fault cause) = Unit {0}

-- the comment whose second quote, if it has one, stands at this place behind the first
abbrev pub comment_to : Option ℕ → List ℕ → Found
comment_to None bs = fault causes.Unclosed
comment_to (Some n) bs = piece (comment (take n bs))

-- from a letter on
unfoldable pub word_at : List ℕ → Found
word_at bs =
    let n = prefix_len is_ascii_alphanumeric bs in
    if makes_keyword (drop n bs) then piece (keyword (take n bs)) else piece (name (take n bs))

-- digits before the rest of a text
abbrev pub number_before : Bool → Digits → List ℕ → Found
number_before minus ds rest = if is_allowed ds then (if makes_float rest then fault causes.Float else piece (number minus ds)) else fault causes.Number

-- from a digit on
unfoldable pub number_at : Bool → List ℕ → Found
number_at minus bs =
    let n = prefix_len is_ascii_digit bs in
    let rest = drop n bs in
    let behind = drop 1 rest in
    let m = prefix_len is_radix_digit behind in
    if makes_radix rest then number_before minus (radix (take n bs) (take m behind)) (drop m behind) else number_before minus (decimal (take n bs)) rest

-- the bytes of an operator, from its first one on
abbrev pub operator_of : List ℕ → List ℕ
operator_of (b ∷ c ∷ bs) = if is_operator_byte b && is_second_operator_byte c then b ∷ c ∷ [] else b ∷ []
operator_of bs = take 1 bs

-- the bytes of a string, behind its first quote, up to the quote that closes it
unfoldable pub inside_of : List ℕ → Option (List ℕ)
inside_of [] = None
inside_of (b ∷ []) = if b == byte "'" then Some [] else None
inside_of (b ∷ c ∷ bs) =
    if b == byte "'" then (if c == byte "'" then option_map (λ cs. b ∷ cs) (inside_of bs) else Some []) else option_map (λ cs. b ∷ cs) (inside_of (c ∷ bs))

-- the string with these bytes, if it is closed
abbrev pub string_of : Option (List ℕ) → Found
string_of None = fault causes.Unclosed
string_of (Some inside) = piece (string inside)

-- the keywords directly behind one another, n at most
unfoldable pub keywords_of : ℕ → List ℕ → List (List ℕ)
keywords_of zero bs = []
keywords_of (suc n) bs =
    let k = prefix_len is_ascii_alphanumeric bs in
    if begins_keyword bs then take k bs ∷ keywords_of n (drop (k + 1) bs) else []

-- from a letter on, behind #
unfoldable pub selector_at : List ℕ → Symbol
selector_at bs =
    let k = prefix_len is_ascii_alphanumeric bs in
    let rest = drop (k + 1) bs in
    if begins_keyword bs then keywords (take k bs) (keywords_of (length rest) rest) else unary (take k bs)

-- behind #
unfoldable pub hash_at : List ℕ → Found
hash_at [] = fault causes.Character
hash_at (b ∷ bs) =
    if is_ascii_alphabetic b then piece (symbol (selector_at (b ∷ bs)))
    else (if begins_operator b then piece (symbol (binary (operator_of (b ∷ bs))))
    else (if b == byte "(" then piece opening else fault causes.Character))

-- behind $
unfoldable pub character_at : List ℕ → Found
character_at [] = fault causes.Character
character_at (b ∷ bs) = piece (character b)

-- from a mark's first byte on
unfoldable pub mark_at : ℕ → List ℕ → Found
mark_at b bs = if b == byte ":" && begins (λ c. c == byte "=") bs then piece (mark (b ∷ byte "=" ∷ [])) else piece (mark (b ∷ []))

-- at the front of a text; `signs` says whether a - may be a sign there
unfoldable pub front_of : Bool → List ℕ → Found
front_of signs [] = fault causes.Character
front_of signs (b ∷ bs) =
    if is_blank b then piece (blank b)
    else (if b == byte "\"" then comment_to (position (λ c. c == byte "\"") bs) bs
    else (if is_ascii_alphabetic b then word_at (b ∷ bs)
    else (if is_ascii_digit b then number_at false (b ∷ bs)
    else (if b == byte "-" && begins is_ascii_digit bs && signs then number_at true bs
    else (if begins_operator b then piece (operator (operator_of (b ∷ bs)))
    else (if is_mark b then mark_at b bs
    else (if b == byte "$" then character_at bs
    else (if b == byte "'" then string_of (inside_of bs)
    else (if b == byte "#" then hash_at bs
    else fault causes.Character)))))))))
