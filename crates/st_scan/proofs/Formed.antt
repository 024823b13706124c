-- A piece in its form stands before a blank, and at the end of a text.
use Rattle.std.proofs.Common.{◌≡◌, ℕ, Bool, true, false, not, eqb, List, [], ◌∷◌, refl, ap}
use Rattle.std.specs.Str.{byte}
use Rattle.std.specs.Char.{is_ascii_digit, is_ascii_alphanumeric}
use Rattle.std.proofs.lemmas.Bool.{and_left, and_right, and_from}
use Rattle.st_scan.specs.Bytes.{is_radix_digit, is_second_operator_byte}
use Rattle.st_scan.specs.Pieces.{begins, begins_keyword, makes_keyword, makes_radix, makes_float, Digits, decimal, radix, unary, keywords, binary, Piece, blank, comment, name, keyword, operator, number, character, string, symbol, opening, mark, digits_end, operator_ends, is_operator, is_sign, mark_ends, IsFormed, Stands}
use Rattle.st_scan.proofs.Classes.{or_second}

-- nothing goes on with what stands here
record Parts (rest : List ℕ) : Type 0 where
  alphanumeric : begins is_ascii_alphanumeric rest ≡ false
  digit : begins is_ascii_digit rest ≡ false
  radix_digit : begins is_radix_digit rest ≡ false
  second : begins is_second_operator_byte rest ≡ false
  equals : begins (λ c. eqb c (byte "=")) rest ≡ false
  quote : begins (λ c. eqb c (byte "'")) rest ≡ false
  keyword : makes_keyword rest ≡ false
  another : begins_keyword rest ≡ false
  radix : makes_radix rest ≡ false
  float : makes_float rest ≡ false

end_parts : Parts []
end_parts = record { alphanumeric = refl; digit = refl; radix_digit = refl; second = refl; equals = refl; quote = refl; keyword = refl; another = refl; radix = refl; float = refl }

no_float : (rest : List ℕ) → makes_float (byte " " ∷ rest) ≡ false
no_float [] = refl
no_float (c ∷ rest) = refl

blank_parts : (rest : List ℕ) → Parts (byte " " ∷ rest)
blank_parts rest = record {
  alphanumeric = refl;
  digit = refl;
  radix_digit = refl;
  second = refl;
  equals = refl;
  quote = refl;
  keyword = refl;
  another = refl;
  radix = refl;
  float = no_float rest;
}

module _ (rest : List ℕ) (parts : Parts rest) where
  operator_stops : (o : List ℕ) → is_operator o ≡ true → operator_ends o rest ≡ true
  operator_stops [] e = absurd cc
  operator_stops (b ∷ []) e = or_second (eqb b (byte "|")) _ (ap not parts.second)
  operator_stops (b ∷ c ∷ o) e = refl

  no_sign : (signs : Bool) (o : List ℕ) → is_sign signs o rest ≡ false
  no_sign signs [] = refl
  no_sign signs (b ∷ []) = and_left _ signs (and_right (eqb b (byte "-")) _ parts.digit)
  no_sign signs (b ∷ c ∷ o) = refl

  mark_stops : (m : List ℕ) → mark_ends m rest ≡ true
  mark_stops [] = refl
  mark_stops (b ∷ []) = ap not (and_right (eqb b (byte ":")) _ parts.equals)
  mark_stops (b ∷ c ∷ m) = refl

  digits_stop : (ds : Digits) → digits_end ds rest ≡ true
  digits_stop (decimal ds) = and_from _ _ (ap not parts.digit) (ap not parts.radix)
  digits_stop (radix rs ds) = ap not parts.radix_digit

  formed : (signs : Bool) (p : Piece) → IsFormed signs p → Stands signs p rest
  formed signs (blank b) f = f
  formed signs (comment inside) f = f
  formed signs (name n) f = (f, parts.alphanumeric, parts.keyword)
  formed signs (keyword n) f = (f, parts.equals)
  formed signs (operator o) f = (f, operator_stops o f, no_sign signs o)
  formed signs (number minus ds) f = ((f.0, digits_stop ds, f.1), f.2, parts.float)
  formed signs (character b) f = tt
  formed signs (string inside) f = parts.quote
  formed signs (symbol (unary n)) f = (f, parts.alphanumeric, parts.keyword)
  formed signs (symbol (keywords n ns)) f = (f, parts.equals, parts.another)
  formed signs (symbol (binary o)) f = (f, operator_stops o f)
  formed signs opening f = tt
  formed signs (mark m) f = (f, mark_stops m)

pub before_end : (signs : Bool) (p : Piece) → IsFormed signs p → Stands signs p []
before_end = formed [] end_parts

pub before_blank : (signs : Bool) (p : Piece) (rest : List ℕ) → IsFormed signs p → Stands signs p (byte " " ∷ rest)
before_blank signs p rest f = formed (byte " " ∷ rest) (blank_parts rest) signs p f
