-- Words in their form are pieces of a text.
use Rattle.std.proofs.Common.{◌≡◌, ℕ, zero, suc, ◌<◌, ◌≤◌, Bool, true, List, [], ◌∷◌, length, inl, inr, Some, refl, ap, arith}
use Rattle.std.specs.Prelude.{nat_lt}
use Rattle.std.specs.List.{list_all}
use Rattle.std.specs.Fmt.{decimal}
use Rattle.std.specs.Str.{byte}
use Rattle.std.specs.Str.Parse.{AllDigits, digits_value}
use Rattle.std.specs.Char.{is_ascii_digit, digit_value}
use Rattle.std.proofs.lemmas.Bool.{and_from, lt-ltb, le-leb}
use Rattle.std.proofs.lemmas.Fmt.{decimal_is_IsNumeral_wide}
use Rattle.std.proofs.lemmas.Str.Parse.{digit_from_value}
use Rattle.st_scan.specs.declared.token.Signed.{Signed}
use Rattle.st_scan.specs.declared.token.Sort.TheVariants as sorts
use Rattle.st_scan.specs.Pieces.{Piece, IsFormed, spelling, is_name, keywords_text, size, are_digits, is_allowed, greatest}
use Rattle.st_scan.specs.Pieces as pieces
use Rattle.st_scan.specs.Scans.{Context, after, sort_of}
use Rattle.st_grammar.specs.inside.Formed.{IsSelector}
use Rattle.st_print.specs.Words.{Word, name, keyword, operator, number, character, string, symbol, opening, mark, word_text}
use Rattle.st_print.proofs.Going.{word_sort, WordFormed, after_word}

-- a piece that a word is
pub record IsPiece (s : Bool) (w : Word) : Type 0 where
  pub piece : Piece
  pub formed : IsFormed s piece
  pub spelled : spelling piece ≡ word_text w
  pub sort_is : sort_of piece ≡ Some (word_sort w)
  pub context : (c : Context) → after c piece ≡ after_word c w

digit_is : (c : ℕ) → digit_value c < 10 → is_ascii_digit c ≡ true
digit_is c lt = let r = digit_from_value c lt in and_from _ _ (le-leb 48 c r.0) (le-leb c 57 r.1)

all_digits : (ds : List ℕ) → AllDigits 10 ds → list_all is_ascii_digit ds ≡ true
all_digits [] d = refl
all_digits (c ∷ ds) d = and_from _ _ (digit_is c d.0) (all_digits ds d.1)

all_below : (ds : List ℕ) → AllDigits 10 ds → list_all (λ d. nat_lt (digit_value d) 10) ds ≡ true
all_below [] d = refl
all_below (c ∷ ds) d = and_from _ _ (lt-ltb (digit_value c) 10 d.0) (all_below ds d.1)

number_piece : (s : Bool) (n : Signed) → WordFormed s (number n) → IsPiece s (number n)
number_piece s n f =
    let numeral = decimal_is_IsNumeral_wide n.size (omega arith) in
    let ds = decimal n.size in
    let below : digits_value 10 ds ≤ greatest = omega (arith, numeral.1, f.0) in
    record {
      piece = pieces.number n.minus (pieces.decimal ds);
      formed = (and_from _ _ (lt-ltb 0 (length ds) numeral.0.0) (all_digits ds numeral.0.1), f.1, and_from _ _ (all_below ds numeral.0.1) (le-leb (digits_value 10 ds) greatest below));
      spelled = refl;
      sort_is = ap (λ (k : ℕ). Some (sorts.Number (record { minus = n.minus; size = k }))) numeral.1;
      context = λ c. refl;
    }

keywords_piece : (s : Bool) (text : List ℕ) (n : ℕ) (ns : List (List ℕ)) → list_all is_name ns ≡ true → keywords_text ns ≡ text → length ns ≡ suc n → IsPiece s (symbol text)
keywords_piece s text n [] are joined counted = absurd (omega arith)
keywords_piece s text n (k ∷ ks) are joined counted = record { piece = pieces.symbol (pieces.keywords k ks); formed = are; spelled = ap (λ (l : List ℕ). byte "#" ∷ l) joined; sort_is = refl; context = λ c. refl }

symbol_piece : (s : Bool) (text : List ℕ) (n : ℕ) → IsSelector text n → IsPiece s (symbol text)
symbol_piece s text zero f = record { piece = pieces.symbol (pieces.unary text); formed = f; spelled = refl; sort_is = refl; context = λ c. refl }
symbol_piece s text (suc n) (inl f) = record { piece = pieces.symbol (pieces.binary text); formed = f.0; spelled = refl; sort_is = refl; context = λ c. refl }
symbol_piece s text (suc n) (inr f) = keywords_piece s text n f.names f.are_names f.is_joined f.counted

pub word_piece : (s : Bool) (w : Word) → WordFormed s w → IsPiece s w
word_piece s (name text) f = record { piece = pieces.name text; formed = f; spelled = refl; sort_is = refl; context = λ c. refl }
word_piece s (keyword text) f = record { piece = pieces.keyword f.0; formed = f.1; spelled = f.2; sort_is = refl; context = λ c. refl }
word_piece s (operator text) f = record { piece = pieces.operator text; formed = f; spelled = refl; sort_is = refl; context = λ c. refl }
word_piece s (number n) f = number_piece s n f
word_piece s (character b) f = record { piece = pieces.character b; formed = tt; spelled = refl; sort_is = refl; context = λ c. refl }
word_piece s (string text) f = record { piece = pieces.string text; formed = tt; spelled = refl; sort_is = refl; context = λ c. refl }
word_piece s (symbol text) f = symbol_piece s text f.0 f.1
word_piece s opening f = record { piece = pieces.opening; formed = tt; spelled = refl; sort_is = refl; context = λ c. refl }
word_piece s (mark b) f = record { piece = pieces.mark (b ∷ []); formed = f; spelled = refl; sort_is = refl; context = λ c. refl }
