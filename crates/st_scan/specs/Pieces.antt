-- What a method's text is made of: blanks, comments and tokens. Row by row, how each is spelled and where it ends.
use Rattle.std.specs.Prelude.{ℕ, Bool, true, false, not, ◌&&◌, ◌||◌, ◌==◌, nat_lt, nat_le, if◌then◌else◌, IsTrue, IsFalse, ⊤, List, [], ◌∷◌, ◌++◌, length, drop, codes}
use Rattle.std.specs.List.{list_all, prefix_len}
use Rattle.std.specs.Str.{byte}
use Rattle.std.specs.Str.Parse.{digits_value}
use Rattle.std.specs.Char.{is_ascii_digit, is_ascii_alphabetic, is_ascii_alphanumeric, digit_value}
use Rattle.st_scan.specs.Bytes.{is_blank, is_radix_digit, is_operator_byte, begins_operator, is_second_operator_byte, is_mark}

-- the digits of a number: decimal ones, or those behind a radix and an r
pub data Digits : Type 0 where
  decimal : (digits : List ℕ) → Digits
  radix : (radix digits : List ℕ) → Digits

-- what stands behind the # of a symbol: a name, keywords directly behind one another, or an operator
pub data Symbol : Type 0 where
  unary : (name : List ℕ) → Symbol
  keywords : (first : List ℕ) → (others : List (List ℕ)) → Symbol
  binary : (operator : List ℕ) → Symbol

-- a blank, a comment or a token, by the bytes that its row leaves free; a keyword goes without its colon
pub data Piece : Type 0 where
  blank : (byte : ℕ) → Piece
  comment : (inside : List ℕ) → Piece
  name : (text : List ℕ) → Piece
  keyword : (name : List ℕ) → Piece
  operator : (text : List ℕ) → Piece
  number : (minus : Bool) → Digits → Piece
  character : (byte : ℕ) → Piece
  string : (inside : List ℕ) → Piece
  symbol : Symbol → Piece
  opening : Piece
  mark : (text : List ℕ) → Piece

-- SPELLING

abbrev pub digits_text : Digits → List ℕ
digits_text (decimal ds) = ds
digits_text (radix rs ds) = rs ++ byte "r" ∷ ds

abbrev pub sign_text : Bool → List ℕ
sign_text true = byte "-" ∷ []
sign_text false = []

abbrev pub keywords_text : List (List ℕ) → List ℕ
keywords_text [] = []
keywords_text (n ∷ ns) = n ++ byte ":" ∷ keywords_text ns

abbrev pub symbol_text : Symbol → List ℕ
symbol_text (unary n) = n
symbol_text (keywords n ns) = keywords_text (n ∷ ns)
symbol_text (binary o) = o

-- in a string each quote stands twice
abbrev pub doubled : List ℕ → List ℕ
doubled [] = []
doubled (b ∷ bs) = if b == byte "'" then b ∷ b ∷ doubled bs else b ∷ doubled bs

abbrev pub spelling : Piece → List ℕ
spelling (blank b) = b ∷ []
spelling (comment inside) = byte "\"" ∷ (inside ++ byte "\"" ∷ [])
spelling (name n) = n
spelling (keyword n) = n ++ byte ":" ∷ []
spelling (operator o) = o
spelling (number minus ds) = sign_text minus ++ digits_text ds
spelling (character b) = byte "$" ∷ b ∷ []
spelling (string inside) = byte "'" ∷ (doubled inside ++ byte "'" ∷ [])
spelling (symbol s) = byte "#" ∷ symbol_text s
spelling opening = codes "#("
spelling (mark m) = m

-- FORMS

-- the first byte, if there is one, passes
abbrev pub begins : (ℕ → Bool) → List ℕ → Bool
begins p [] = false
begins p (b ∷ bs) = p b

-- letters and digits, a letter first
abbrev pub is_name : List ℕ → Bool
is_name bs = begins is_ascii_alphabetic bs && list_all is_ascii_alphanumeric bs

-- one or two operator bytes, the second no -, or | alone
abbrev pub is_operator : List ℕ → Bool
is_operator (b ∷ []) = begins_operator b
is_operator (b ∷ c ∷ []) = is_operator_byte b && is_second_operator_byte c
is_operator _ = false

-- a mark, or := together
abbrev pub is_mark_text : List ℕ → Bool
is_mark_text (b ∷ []) = is_mark b
is_mark_text (b ∷ c ∷ []) = b == byte ":" && c == byte "="
is_mark_text _ = false

-- a byte or more, and each passes
abbrev pub some_pass : (ℕ → Bool) → List ℕ → Bool
some_pass p bs = nat_lt 0 (length bs) && list_all p bs

-- digits; or a radix of digits, and digits and capitals
abbrev pub are_digits : Digits → Bool
are_digits (decimal ds) = some_pass is_ascii_digit ds
are_digits (radix rs ds) = some_pass is_ascii_digit rs && some_pass is_radix_digit ds

-- the number that the digits write
abbrev pub size : Digits → ℕ
size (decimal ds) = digits_value 10 ds
size (radix rs ds) = digits_value (digits_value 10 rs) ds

-- the greatest size of a number
abbrev pub greatest : ℕ
greatest = 340282366920938463463374607431768211455

-- digits below a base, and at most the greatest size
abbrev pub fits : ℕ → List ℕ → Bool
fits base ds = list_all (λ d. nat_lt (digit_value d) base) ds && nat_le (digits_value base ds) greatest

-- a number that is allowed; so is its radix, from 2 to 36
abbrev pub is_allowed : Digits → Bool
is_allowed (decimal ds) = fits 10 ds
is_allowed (radix rs ds) = fits 10 rs && nat_le 2 (digits_value 10 rs) && nat_le (digits_value 10 rs) 36 && fits (digits_value 10 rs) ds

-- ENDS

-- a name with a colon directly behind it, and no = next, is a keyword
abbrev pub makes_keyword : List ℕ → Bool
makes_keyword [] = false
makes_keyword (b ∷ bs) = b == byte ":" && not (begins (λ c. c == byte "=") bs)

-- letters and digits stand first, the first a letter, and what is behind them makes them a keyword
abbrev pub begins_keyword : List ℕ → Bool
begins_keyword bs = begins is_ascii_alphabetic bs && makes_keyword (drop (prefix_len is_ascii_alphanumeric bs) bs)

-- digits with an r directly behind them, and a digit or capital next, are a radix
abbrev pub makes_radix : List ℕ → Bool
makes_radix [] = false
makes_radix (b ∷ bs) = b == byte "r" && begins is_radix_digit bs

-- a fraction or an exponent: a point and a digit, an e and a digit, or an e, a - and a digit
abbrev pub makes_float : List ℕ → Bool
makes_float (b ∷ c ∷ bs) = ((b == byte "." || b == byte "e") && is_ascii_digit c) || (b == byte "e" && c == byte "-" && begins is_ascii_digit bs)
makes_float _ = false

-- All digits that follow belong to the number, behind a radix all capitals too.
abbrev pub digits_end : Digits → List ℕ → Bool
digits_end (decimal ds) rest = not (begins is_ascii_digit rest) && not (makes_radix rest)
digits_end (radix rs ds) rest = not (begins is_radix_digit rest)

-- an operator of one byte goes on with a second one, but | stands alone
abbrev pub operator_ends : List ℕ → List ℕ → Bool
operator_ends (b ∷ []) rest = b == byte "|" || not (begins is_second_operator_byte rest)
operator_ends _ rest = true

-- where a sign may stand, a - directly before a digit is one
abbrev pub is_sign : Bool → List ℕ → List ℕ → Bool
is_sign signs (b ∷ []) rest = b == byte "-" && begins is_ascii_digit rest && signs
is_sign signs _ rest = false

-- a colon goes on with =
abbrev pub mark_ends : List ℕ → List ℕ → Bool
mark_ends (b ∷ []) rest = not (b == byte ":" && begins (λ c. c == byte "=") rest)
mark_ends _ rest = true

-- ROWS

-- digits stand before the rest of a text, with a sign only where one may stand
abbrev pub IsNumber : Bool → Bool → Digits → List ℕ → Type 0
IsNumber signs minus ds rest = IsTrue (are_digits ds) × IsTrue (digits_end ds rest) × (IsTrue minus → IsTrue signs)

abbrev pub SymbolStands : Symbol → List ℕ → Type 0
SymbolStands (unary n) rest = IsTrue (is_name n) × IsFalse (begins is_ascii_alphanumeric rest) × IsFalse (makes_keyword rest)
SymbolStands (keywords n ns) rest = IsTrue (list_all is_name (n ∷ ns)) × IsFalse (begins (λ c. c == byte "=") rest) × IsFalse (begins_keyword rest)
SymbolStands (binary o) rest = IsTrue (is_operator o) × IsTrue (operator_ends o rest)

-- A piece stands in a text before the rest of it. `signs` says whether a - may be a sign there.
abbrev pub Stands : (signs : Bool) → Piece → (rest : List ℕ) → Type 0
Stands signs (blank b) rest = IsTrue (is_blank b)
Stands signs (comment inside) rest = IsTrue (list_all (λ b. not (b == byte "\"")) inside)
Stands signs (name n) rest = IsTrue (is_name n) × IsFalse (begins is_ascii_alphanumeric rest) × IsFalse (makes_keyword rest)
Stands signs (keyword n) rest = IsTrue (is_name n) × IsFalse (begins (λ c. c == byte "=") rest)
Stands signs (operator o) rest = IsTrue (is_operator o) × IsTrue (operator_ends o rest) × IsFalse (is_sign signs o rest)
Stands signs (number minus ds) rest = IsNumber signs minus ds rest × IsTrue (is_allowed ds) × IsFalse (makes_float rest)
Stands signs (character b) rest = ⊤
Stands signs (string inside) rest = IsFalse (begins (λ b. b == byte "'") rest)
Stands signs (symbol s) rest = SymbolStands s rest
Stands signs opening rest = ⊤
Stands signs (mark m) rest = IsTrue (is_mark_text m) × IsTrue (mark_ends m rest)

-- the bytes of a piece have the form of its row
abbrev pub IsFormed : (signs : Bool) → Piece → Type 0
IsFormed signs (blank b) = IsTrue (is_blank b)
IsFormed signs (comment inside) = IsTrue (list_all (λ b. not (b == byte "\"")) inside)
IsFormed signs (name n) = IsTrue (is_name n)
IsFormed signs (keyword n) = IsTrue (is_name n)
IsFormed signs (operator o) = IsTrue (is_operator o)
IsFormed signs (number minus ds) = IsTrue (are_digits ds) × (IsTrue minus → IsTrue signs) × IsTrue (is_allowed ds)
IsFormed signs (character b) = ⊤
IsFormed signs (string inside) = ⊤
IsFormed signs (symbol (unary n)) = IsTrue (is_name n)
IsFormed signs (symbol (keywords n ns)) = IsTrue (list_all is_name (n ∷ ns))
IsFormed signs (symbol (binary o)) = IsTrue (is_operator o)
IsFormed signs opening = ⊤
IsFormed signs (mark m) = IsTrue (is_mark_text m)
