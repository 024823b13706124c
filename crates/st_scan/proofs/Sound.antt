-- What is found at the front of a text stands there.
use Rattle.std.proofs.Common.{◌≡◌, ℕ, zero, suc, ◌+◌, ◌<◌, ◌≤◌, Bool, true, false, cond, eqb, ltb, ◌||◌, ◌&&◌, not, List, [], ◌∷◌, ◌++◌, length, take, drop, Option, Some, None, refl, sym, ap, ◌∙◌, subst, arith, inl, inr, append_assoc, length-append}
use Rattle.std.specs.Prelude.{position}
use Rattle.std.specs.List.{list_all, prefix_len}
use Rattle.std.specs.Option.{option_map}
use Rattle.std.specs.Str.{byte}
use Rattle.std.specs.Char.{is_ascii_digit, is_ascii_alphabetic, is_ascii_alphanumeric}
use Rattle.std.proofs.lemmas.Bool.{false≢true, cases_Bool, and_parts, and_cases, and_from, or_cases, not-true, eqb-true, ltb-true, ltb-false, lt-ltb, both_ways}
use Rattle.std.proofs.lemmas.List.{take-append-drop, drop-drop, length-take-le}
use Rattle.std.proofs.lemmas.List.Sums.{split_at_first, passes_at_first, prefix_len-le-length}
use Rattle.std.proofs.Math.Seq.{take-length}
use Rattle.st_scan.specs.declared.fault.Cause.{Cause}
use Rattle.st_scan.specs.declared.fault.Cause.TheVariants as causes
use Rattle.st_scan.specs.Bytes.{is_blank, is_radix_digit, is_operator_byte, is_second_operator_byte, begins_operator, is_mark}
use Rattle.st_scan.specs.Pieces.{Digits, decimal, radix, unary, keywords, binary, Piece, blank, comment, name, keyword, operator, number, character, string, symbol, opening, mark, digits_text, sign_text, keywords_text, doubled, spelling, is_name, is_operator, operator_ends, is_sign, begins, begins_keyword, makes_keyword, makes_radix, makes_float, is_allowed, some_pass, are_digits, digits_end, IsNumber, Stands}
use Rattle.st_scan.specs.inside.Faults.{IsFaulty, StartsWithNumber, begins_nothing, begins_piece}
use Rattle.st_scan.specs.Fronts.{Found, piece, fault, front_of, comment_to, word_at, number_before, number_at, operator_of, inside_of, string_of, keywords_of, selector_at, hash_at, character_at, mark_at}
use Rattle.st_scan.proofs.Prefixes.{all-prefix, stops-prefix, some-prefix, begins-take}
use Rattle.st_scan.proofs.Classes.{letter-alphanumeric, or_second, no_piece}

-- a piece stands at the front of a text
pub record StandsFirst (signs : Bool) (text : List ℕ) (p : Piece) : Type 0 where
  pub rest : List ℕ
  pub parts : spelling p ++ rest ≡ text
  pub stands : Stands signs p rest

abbrev pub IsFront : Bool → List ℕ → Found → Type 0
IsFront signs text (piece p) = StandsFirst signs text p
IsFront signs text (fault cause) = IsFaulty signs cause text

-- the same as a record, so that its arguments are found
pub record Sound (signs : Bool) (text : List ℕ) (f : Found) : Type 0 where
  pub holds : IsFront signs text f

not_second : (x y : Bool) → x ≡ true → (x && y) ≡ false → y ≡ false
not_second true y e f = f
not_second false y e f = absurd cc

-- either side of a choice
chosen : {signs : Bool} {text : List ℕ} (t : Bool) (x y : Found) → (t ≡ true → Sound signs text x) → (t ≡ false → Sound signs text y) → Sound signs text (cond t x y)
chosen true x y f g = f refl
chosen false x y f g = g refl

found : {signs : Bool} {text : List ℕ} (p : Piece) (rest : List ℕ) → spelling p ++ rest ≡ text → Stands signs p rest → Sound signs text (piece p)
found p rest parts stands = record { holds = record { rest = rest; parts = parts; stands = stands } }

faulty : {signs : Bool} {text : List ℕ} (cause : Cause) → IsFaulty signs cause text → Sound signs text (fault cause)
faulty cause f = record { holds = f }

-- NAMES AND KEYWORDS

pub begins_colon : (rest : List ℕ) → makes_keyword rest ≡ true → (rest ≡ byte ":" ∷ drop 1 rest) × (begins (λ c. eqb c (byte "=")) (drop 1 rest) ≡ false)
begins_colon [] e = absurd cc
begins_colon (b ∷ rest) e =
    let parts = and_parts (eqb b (byte ":")) (not (begins (λ c. eqb c (byte "=")) rest)) e in
    (ap (λ (c : ℕ). c ∷ rest) (eqb-true b _ parts.0), not-true _ parts.1)

pub first-alphanumeric : (text : List ℕ) → begins is_ascii_alphabetic text ≡ true → begins is_ascii_alphanumeric text ≡ true
first-alphanumeric [] e = absurd cc
first-alphanumeric (b ∷ bs) e = letter-alphanumeric b e

-- the letters and digits from a letter on
module _ (text : List ℕ) (letter : begins is_ascii_alphabetic text ≡ true) where
  pub word-name : is_name (take (prefix_len is_ascii_alphanumeric text) text) ≡ true
  word-name =
      let n = prefix_len is_ascii_alphanumeric text in
      let some = some-prefix is_ascii_alphanumeric text (first-alphanumeric text letter) in
      and_from (begins is_ascii_alphabetic (take n text)) _ (begins-take is_ascii_alphabetic n text some letter) (all-prefix is_ascii_alphanumeric text)

  -- a keyword with its colon, and what stands behind it
  pub keyword-parts : makes_keyword (drop (prefix_len is_ascii_alphanumeric text) text) ≡ true → (take (prefix_len is_ascii_alphanumeric text) text ++ byte ":" ∷ []) ++ drop (prefix_len is_ascii_alphanumeric text + 1) text ≡ text
  keyword-parts e =
      let n = prefix_len is_ascii_alphanumeric text in
      let rest = drop n text in
      let colon = (begins_colon rest e).0 in
      append_assoc (take n text) (byte ":" ∷ []) (drop (n + 1) text)
      ∙ ap (λ (l : List ℕ). take n text ++ (byte ":" ∷ l)) (sym (drop-drop 1 n text))
      ∙ ap (λ (l : List ℕ). take n text ++ l) (sym colon)
      ∙ take-append-drop n text

  word-sound : (signs : Bool) → Sound signs text (word_at text)
  unfolding word_at
  word-sound signs =
      let n = prefix_len is_ascii_alphanumeric text in
      let rest = drop n text in
      chosen (makes_keyword rest) _ _
      (λ t. found (keyword (take n text)) (drop (n + 1) text) (keyword-parts t) (word-name, ap (begins (λ c. eqb c (byte "="))) (sym (drop-drop 1 n text)) ∙ (begins_colon rest t).1))
      (λ f. found (name (take n text)) rest (take-append-drop n text) (word-name, stops-prefix is_ascii_alphanumeric text, f))

-- COMMENTS

comment-sound : (signs : Bool) (bs : List ℕ) → Sound signs (byte "\"" ∷ bs) (comment_to (position (λ c. eqb c (byte "\"")) bs) bs)
comment-sound signs bs =
    let quote : ℕ → Bool = λ c. eqb c (byte "\"") in
    let n = prefix_len (λ c. not (eqb c (byte "\""))) bs in
    let plain = all-prefix (λ c. not (eqb c (byte "\""))) bs in
    elim (cases_Bool (ltb n (length bs))) [
      | inl t ↦
          let lt = ltb-true n (length bs) t in
          let closed = eqb-true _ _ (passes_at_first quote bs 0 lt) in
          let parts : (take n bs ++ byte "\"" ∷ []) ++ drop (n + 1) bs ≡ bs =
          append_assoc (take n bs) (byte "\"" ∷ []) (drop (n + 1) bs) ∙ ap (λ (c : ℕ). take n bs ++ (c ∷ drop (n + 1) bs)) (sym closed) ∙ sym (split_at_first quote bs 0 lt) in
          rw t (found (comment (take n bs)) (drop (n + 1) bs) (ap (λ (l : List ℕ). byte "\"" ∷ l) parts) plain)
      | inr f ↦
          let whole : n ≡ length bs = omega (arith, ltb-false n (length bs) f, prefix_len-le-length (λ c. not (eqb c (byte "\""))) bs) in
          let same : take n bs ≡ bs = ap (λ (k : ℕ). take k bs) whole ∙ take-length bs in
          rw f (faulty causes.Unclosed (inl (bs, refl, ap (list_all (λ c. not (eqb c (byte "\"")))) (sym same) ∙ plain)))
    ]

-- NUMBERS

before-sound : (signs minus : Bool) (ds : Digits) (rest : List ℕ) → IsNumber signs minus ds rest → Sound signs (spelling (number minus ds) ++ rest) (number_before minus ds rest)
before-sound signs minus ds rest n =
    let starts : StartsWithNumber signs (spelling (number minus ds) ++ rest) ds rest = record { minus = minus; parts = refl; stands = n } in
    chosen (is_allowed ds) _ _
    (λ good. chosen (makes_float rest) _ _ (λ float. faulty causes.Float (ds, rest, starts, good, float)) (λ plain. found (number minus ds) rest refl (n, good, plain)))
    (λ bad. faulty causes.Number (ds, rest, starts, bad))

pub begins_r : (rest : List ℕ) → makes_radix rest ≡ true → (rest ≡ byte "r" ∷ drop 1 rest) × (begins is_radix_digit (drop 1 rest) ≡ true)
begins_r [] e = absurd cc
begins_r (b ∷ rest) e =
    let parts = and_parts (eqb b (byte "r")) (begins is_radix_digit rest) e in
    (ap (λ (c : ℕ). c ∷ rest) (eqb-true b _ parts.0), parts.1)

some-digits : (p : ℕ → Bool) (text : List ℕ) → begins p text ≡ true → some_pass p (take (prefix_len p text) text) ≡ true
some-digits p text e =
    let some = some-prefix p text e in
    let le = prefix_len-le-length p text in
    and_from (ltb 0 (length (take (prefix_len p text) text))) _ (lt-ltb 0 _ (omega (arith, length-take-le (prefix_len p text) text le))) (all-prefix p text)

module _ (signs minus : Bool) (text : List ℕ) (digit : begins is_ascii_digit text ≡ true) (allowed : minus ≡ true → signs ≡ true) where
  behind : (ds : Digits) (rest : List ℕ) → are_digits ds ≡ true → digits_end ds rest ≡ true → digits_text ds ++ rest ≡ text → Sound signs (sign_text minus ++ text) (number_before minus ds rest)
  behind ds rest form ends parts =
      let whole : spelling (number minus ds) ++ rest ≡ sign_text minus ++ text = append_assoc (sign_text minus) (digits_text ds) rest ∙ ap (λ (l : List ℕ). sign_text minus ++ l) parts in
      subst (λ (l : List ℕ). Sound signs l (number_before minus ds rest)) whole (before-sound signs minus ds rest (form, ends, allowed))

  number-sound : Sound signs (sign_text minus ++ text) (number_at minus text)
  unfolding number_at
  number-sound =
      let n = prefix_len is_ascii_digit text in
      let rest = drop n text in
      let more = drop 1 rest in
      let m = prefix_len is_radix_digit more in
      let first = some-digits is_ascii_digit text digit in
      chosen (makes_radix rest) _ _
      (λ t.
      let r = begins_r rest t in
      let parts : (take n text ++ byte "r" ∷ take m more) ++ drop m more ≡ text =
      append_assoc (take n text) (byte "r" ∷ take m more) (drop m more)
      ∙ ap (λ (l : List ℕ). take n text ++ (byte "r" ∷ l)) (take-append-drop m more)
      ∙ ap (λ (l : List ℕ). take n text ++ l) (sym r.0)
      ∙ take-append-drop n text in
      behind (radix (take n text) (take m more)) (drop m more) (and_from _ _ first (some-digits is_radix_digit more r.1)) (ap not (stops-prefix is_radix_digit more)) parts)
      (λ f.
      behind (decimal (take n text)) rest first (and_from _ _ (ap not (stops-prefix is_ascii_digit text)) (ap not f)) (take-append-drop n text))

-- OPERATORS

-- the bytes of an operator, what stands behind it, and that it ends there
pub record OperatorParts (b : ℕ) (bs : List ℕ) : Type 0 where
  pub rest : List ℕ
  pub parts : operator_of (b ∷ bs) ++ rest ≡ b ∷ bs
  pub form : is_operator (operator_of (b ∷ bs)) ≡ true
  pub ends : operator_ends (operator_of (b ∷ bs)) rest ≡ true
  pub no_sign : (signs : Bool) → (eqb b (byte "-") && begins is_ascii_digit bs && signs) ≡ false → is_sign signs (operator_of (b ∷ bs)) rest ≡ false

-- an operator's first byte alone, where no second one follows
alone-ends : (b c : ℕ) → begins_operator b ≡ true → (is_operator_byte b && is_second_operator_byte c) ≡ false → (eqb b (byte "|") || not (is_second_operator_byte c)) ≡ true
alone-ends b c o no_pair = elim (or_cases (eqb b (byte "|")) (is_operator_byte b) o) [
  | inl bar ↦ rw bar refl
  | inr first ↦ elim (and_cases (is_operator_byte b) (is_second_operator_byte c) no_pair) [
    | inl not_first ↦ absurd (both_ways (is_operator_byte b) not_first first)
    | inr not_second ↦ or_second (eqb b (byte "|")) _ (ap not not_second)
  ]
]

pub operator-parts : (b : ℕ) (bs : List ℕ) → begins_operator b ≡ true → OperatorParts b bs
operator-parts b [] o = record { rest = []; parts = refl; form = o; ends = or_second (eqb b (byte "|")) true refl; no_sign = λ signs e. e }
operator-parts b (c ∷ bs) o = elim (cases_Bool (is_operator_byte b && is_second_operator_byte c)) [
  | inl pair ↦
      let is : operator_of (b ∷ c ∷ bs) ≡ b ∷ c ∷ [] = rw pair refl in
      record {
        rest = bs;
        parts = ap (λ (l : List ℕ). l ++ bs) is;
        form = ap is_operator is ∙ pair;
        ends = ap (λ (l : List ℕ). operator_ends l bs) is;
        no_sign = λ signs e. ap (λ (l : List ℕ). is_sign signs l bs) is;
      }
  | inr single ↦
      let is : operator_of (b ∷ c ∷ bs) ≡ b ∷ [] = rw single refl in
      record {
        rest = c ∷ bs;
        parts = ap (λ (l : List ℕ). l ++ (c ∷ bs)) is;
        form = ap is_operator is ∙ o;
        ends = ap (λ (l : List ℕ). operator_ends l (c ∷ bs)) is ∙ alone-ends b c o single;
        no_sign = λ signs e. ap (λ (l : List ℕ). is_sign signs l (c ∷ bs)) is ∙ e;
      }
]

operator-sound : (signs : Bool) (b : ℕ) (bs : List ℕ) → begins_operator b ≡ true → (eqb b (byte "-") && begins is_ascii_digit bs && signs) ≡ false → Sound signs (b ∷ bs) (piece (operator (operator_of (b ∷ bs))))
operator-sound signs b bs o no_sign =
    let p = operator-parts b bs o in
    found (operator (operator_of (b ∷ bs))) p.rest p.parts (p.form, p.ends, p.no_sign signs no_sign)

-- MARKS AND CHARACTERS

begins-byte : (c : ℕ) (bs : List ℕ) → begins (λ b. eqb b c) bs ≡ true → bs ≡ c ∷ drop 1 bs
begins-byte c [] e = absurd cc
begins-byte c (b ∷ bs) e = ap (λ (d : ℕ). d ∷ bs) (eqb-true b c e)

mark-sound : (signs : Bool) (b : ℕ) (bs : List ℕ) → is_mark b ≡ true → Sound signs (b ∷ bs) (mark_at b bs)
unfolding mark_at
mark-sound signs b bs m =
    chosen (eqb b (byte ":") && begins (λ c. eqb c (byte "=")) bs) _ _
    (λ t.
    let parts = and_parts (eqb b (byte ":")) _ t in
    found (mark (b ∷ byte "=" ∷ [])) (drop 1 bs) (ap (λ (l : List ℕ). b ∷ l) (sym (begins-byte (byte "=") bs parts.1))) (rw parts.0 refl, refl))
    (λ f. found (mark (b ∷ [])) bs refl (m, ap not f))

character-sound : (signs : Bool) (bs : List ℕ) → Sound signs (byte "$" ∷ bs) (character_at bs)
unfolding character_at
character-sound signs [] = faulty causes.Character refl
character-sound signs (b ∷ bs) = found (character b) bs refl tt

-- STRINGS

-- the inside of a string, and what stands behind its last quote; or all of the rest, where there is none
pub record Closed (bs inside : List ℕ) : Type 0 where
  pub rest : List ℕ
  pub parts : doubled inside ++ (byte "'" ∷ rest) ≡ bs
  pub ends : begins (λ b. eqb b (byte "'")) rest ≡ false

abbrev IsInside : List ℕ → Option (List ℕ) → Type 0
IsInside bs None = (inside : List ℕ) × (bs ≡ doubled inside)
IsInside bs (Some inside) = Closed bs inside

abbrev quote : ℕ → Bool
quote b = eqb b (byte "'")

doubled-quote : (b : ℕ) (bs : List ℕ) → quote b ≡ true → doubled (b ∷ bs) ≡ b ∷ b ∷ doubled bs
doubled-quote b bs e = rw e refl

doubled-other : (b : ℕ) (bs : List ℕ) → quote b ≡ false → doubled (b ∷ bs) ≡ b ∷ doubled bs
doubled-other b bs e = rw e refl

-- one byte more, as it is spelled
more-inside : (b : ℕ) (front bs : List ℕ) (o : Option (List ℕ)) → ((inside : List ℕ) → doubled (b ∷ inside) ≡ front ++ doubled inside) → IsInside bs o → IsInside (front ++ bs) (option_map (λ cs. b ∷ cs) o)
more-inside b front bs None e h = (b ∷ h.0, ap (λ (l : List ℕ). front ++ l) h.1 ∙ sym (e h.0))
more-inside b front bs (Some inside) e h = record {
  rest = h.rest;
  parts = ap (λ (l : List ℕ). l ++ (byte "'" ∷ h.rest)) (e inside) ∙ append_assoc front (doubled inside) (byte "'" ∷ h.rest) ∙ ap (λ (l : List ℕ). front ++ l) h.parts;
  ends = h.ends;
}

pub is-inside : (bs : List ℕ) → IsInside bs (inside_of bs)
unfolding inside_of
is-inside [] = ([], refl)
is-inside (b ∷ []) = elim (cases_Bool (quote b)) [
  | inl t ↦ rw t (record { rest = []; parts = ap (λ (c : ℕ). c ∷ []) (sym (eqb-true b _ t)); ends = refl })
  | inr f ↦ rw f (b ∷ [], sym (doubled-other b [] f))
]
is-inside (b ∷ c ∷ bs) = elim (cases_Bool (quote b)) [
  | inl t ↦ elim (cases_Bool (quote c)) [
    | inl u ↦
        let same : b ≡ c = eqb-true b _ t ∙ sym (eqb-true c _ u) in
        let more = more-inside b (b ∷ b ∷ []) bs (inside_of bs) (λ inside. doubled-quote b inside t) (is-inside bs) in
        rw (t, u) (subst (λ (d : ℕ). IsInside (b ∷ d ∷ bs) (option_map (λ cs. b ∷ cs) (inside_of bs))) same more)
    | inr v ↦ rw (t, v) (record { rest = c ∷ bs; parts = ap (λ (d : ℕ). d ∷ c ∷ bs) (sym (eqb-true b _ t)); ends = v })
  ]
  | inr f ↦ rw f (more-inside b (b ∷ []) (c ∷ bs) (inside_of (c ∷ bs)) (λ inside. doubled-other b inside f) (is-inside (c ∷ bs)))
]

string-sound : (signs : Bool) (bs : List ℕ) (o : Option (List ℕ)) → IsInside bs o → Sound signs (byte "'" ∷ bs) (string_of o)
string-sound signs bs None h = faulty causes.Unclosed (inr (h.0, ap (λ (l : List ℕ). byte "'" ∷ l) h.1))
string-sound signs bs (Some inside) h =
    let parts : (doubled inside ++ byte "'" ∷ []) ++ h.rest ≡ bs = append_assoc (doubled inside) (byte "'" ∷ []) h.rest ∙ h.parts in
    found (string inside) h.rest (ap (λ (l : List ℕ). byte "'" ∷ l) parts) h.ends

-- SYMBOLS

-- a keyword's name, and what stands behind its colon
keyword-first : (bs : List ℕ) → begins_keyword bs ≡ true
    → (is_name (take (prefix_len is_ascii_alphanumeric bs) bs) ≡ true)
    × ((take (prefix_len is_ascii_alphanumeric bs) bs ++ byte ":" ∷ []) ++ drop (prefix_len is_ascii_alphanumeric bs + 1) bs ≡ bs)
    × (begins (λ c. eqb c (byte "=")) (drop (prefix_len is_ascii_alphanumeric bs + 1) bs) ≡ false)
keyword-first bs e =
    let n = prefix_len is_ascii_alphanumeric bs in
    let parts = and_parts (begins is_ascii_alphabetic bs) (makes_keyword (drop n bs)) e in (
      word-name bs parts.0,
      keyword-parts bs parts.0 parts.1,
      ap (begins (λ c. eqb c (byte "="))) (sym (drop-drop 1 n bs)) ∙ (begins_colon (drop n bs) parts.1).1,
    )

-- keywords at the front, and what stands behind the last one
record KeywordsParts (ks : List (List ℕ)) (bs : List ℕ) : Type 0 where
  rest : List ℕ
  parts : keywords_text ks ++ rest ≡ bs
  names : list_all is_name ks ≡ true
  ends : begins (λ c. eqb c (byte "=")) rest ≡ false
  last : begins_keyword rest ≡ false

keywords-parts : (n : ℕ) (bs : List ℕ) → length bs ≤ n → begins (λ c. eqb c (byte "=")) bs ≡ false → KeywordsParts (keywords_of n bs) bs
unfolding keywords_of
keywords-parts zero [] le e = record { rest = []; parts = refl; names = refl; ends = refl; last = refl }
keywords-parts zero (b ∷ bs) le e = absurd (omega arith)
keywords-parts (suc n) bs le e = elim (cases_Bool (begins_keyword bs)) [
  | inl t ↦
      let k = prefix_len is_ascii_alphanumeric bs in
      let first = keyword-first bs t in
      let behind = drop (k + 1) bs in
      let shorter : length behind ≤ n = omega (arith, ap length first.1, length-append (take k bs ++ byte ":" ∷ []) behind, length-append (take k bs) (byte ":" ∷ [])) in
      let more = keywords-parts n behind shorter first.2 in
      rw t (
      record {
        rest = more.rest;
        parts = append_assoc (take k bs) (byte ":" ∷ keywords_text (keywords_of n behind)) more.rest ∙ ap (λ (l : List ℕ). take k bs ++ (byte ":" ∷ l)) more.parts ∙ sym (append_assoc (take k bs) (byte ":" ∷ []) behind) ∙ first.1;
        names = and_from _ _ first.0 more.names;
        ends = more.ends;
        last = more.last;
      }
      )
  | inr f ↦ rw f (record { rest = bs; parts = refl; names = refl; ends = e; last = f })
]

selector-sound : (signs : Bool) (bs : List ℕ) → begins is_ascii_alphabetic bs ≡ true → Sound signs (byte "#" ∷ bs) (piece (symbol (selector_at bs)))
unfolding selector_at
selector-sound signs bs letter =
    let n = prefix_len is_ascii_alphanumeric bs in
    let behind = drop (n + 1) bs in
    elim (cases_Bool (begins_keyword bs)) [
      | inl t ↦
          let first = keyword-first bs t in
          let more = keywords-parts (length behind) behind (omega arith) first.2 in
          let ks = keywords_of (length behind) behind in
          let parts : keywords_text (take n bs ∷ ks) ++ more.rest ≡ bs =
          append_assoc (take n bs) (byte ":" ∷ keywords_text ks) more.rest ∙ ap (λ (l : List ℕ). take n bs ++ (byte ":" ∷ l)) more.parts ∙ sym (append_assoc (take n bs) (byte ":" ∷ []) behind) ∙ first.1 in
          rw t (found (symbol (keywords (take n bs) ks)) more.rest (ap (λ (l : List ℕ). byte "#" ∷ l) parts) (and_from _ _ first.0 more.names, more.ends, more.last))
      | inr f ↦
          let no_keyword : makes_keyword (drop n bs) ≡ false = not_second (begins is_ascii_alphabetic bs) _ letter f in
          rw f (found (symbol (unary (take n bs))) (drop n bs) (ap (λ (l : List ℕ). byte "#" ∷ l) (take-append-drop n bs)) (word-name bs letter, stops-prefix is_ascii_alphanumeric bs, no_keyword))
    ]

hash-sound : (signs : Bool) (bs : List ℕ) → Sound signs (byte "#" ∷ bs) (hash_at bs)
unfolding hash_at
hash-sound signs [] = faulty causes.Character refl
hash-sound signs (b ∷ bs) =
    chosen (is_ascii_alphabetic b) _ _
    (λ letter. selector-sound signs (b ∷ bs) letter)
    (λ no_letter.
    chosen (begins_operator b) _ _
    (λ o. let p = operator-parts b bs o in found (symbol (binary (operator_of (b ∷ bs)))) p.rest (ap (λ (l : List ℕ). byte "#" ∷ l) p.parts) (p.form, p.ends))
    (λ no_operator.
    chosen (eqb b (byte "(")) _ _
    (λ bracket. found opening bs (ap (λ (c : ℕ). byte "#" ∷ c ∷ bs) (sym (eqb-true b _ bracket))) tt)
    (λ no_bracket. faulty causes.Character (rw (no_letter, no_operator, no_bracket) refl))))

-- THE FRONT

-- a byte that no row begins with
nothing-begins : (b : ℕ) (bs : List ℕ) → begins_piece b ≡ false → begins_nothing (b ∷ bs) ≡ true
nothing-begins b [] e = rw e refl
nothing-begins b (c ∷ bs) e = rw e refl

-- a first byte in place of another that it is
at_byte : {signs : Bool} {f : Found} (b c : ℕ) (bs : List ℕ) → eqb b c ≡ true → Sound signs (c ∷ bs) f → Sound signs (b ∷ bs) f
at_byte {signs = signs} {f = f} b c bs e s = subst (λ (d : ℕ). Sound signs (d ∷ bs) f) (sym (eqb-true b c e)) s

sound-first : (signs : Bool) (b : ℕ) (bs : List ℕ) → Sound signs (b ∷ bs) (front_of signs (b ∷ bs))
unfolding front_of
sound-first signs b bs =
    chosen (is_blank b) _ _ (λ blank_byte. found (blank b) bs refl blank_byte)
    (λ one.
    chosen (eqb b (byte "\"")) _ _ (λ quote_byte. at_byte b (byte "\"") bs quote_byte (comment-sound signs bs))
    (λ two.
    chosen (is_ascii_alphabetic b) _ _ (λ letter. word-sound (b ∷ bs) letter signs)
    (λ three.
    chosen (is_ascii_digit b) _ _ (λ digit. number-sound signs false (b ∷ bs) digit (λ minus. absurd (false≢true minus)))
    (λ four.
    chosen (eqb b (byte "-") && begins is_ascii_digit bs && signs) _ _
    (λ sign.
    let parts = and_parts (eqb b (byte "-") && begins is_ascii_digit bs) signs sign in
    let digits = and_parts (eqb b (byte "-")) (begins is_ascii_digit bs) parts.0 in
    at_byte b (byte "-") bs digits.0 (number-sound signs true bs digits.1 (λ _. parts.1)))
    (λ no_sign.
    chosen (begins_operator b) _ _ (λ o. operator-sound signs b bs o no_sign)
    (λ five.
    chosen (is_mark b) _ _ (λ m. mark-sound signs b bs m)
    (λ six.
    chosen (eqb b (byte "$")) _ _ (λ dollar. at_byte b (byte "$") bs dollar (character-sound signs bs))
    (λ seven.
    chosen (eqb b (byte "'")) _ _ (λ quote_byte. at_byte b (byte "'") bs quote_byte (string-sound signs bs (inside_of bs) (is-inside bs)))
    (λ eight.
    chosen (eqb b (byte "#")) _ _ (λ hash. at_byte b (byte "#") bs hash (hash-sound signs bs))
    (λ nine. faulty causes.Character (nothing-begins b bs (no_piece b one two three four five six seven eight nine))))))))))))

pub sound : (signs : Bool) (text : List ℕ) → 0 < length text → IsFront signs text (front_of signs text)
sound signs [] some = absurd (omega arith)
sound signs (b ∷ bs) some = (sound-first signs b bs).holds
