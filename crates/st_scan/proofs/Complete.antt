-- What stands at the front of a text is found there.
use Rattle.std.proofs.Common.{◌≡◌, ℕ, zero, suc, ◌+◌, ◌≤◌, Bool, true, false, eqb, ltb, ◌||◌, ◌&&◌, not, List, [], ◌∷◌, ◌++◌, length, drop, Some, None, refl, sym, ap, ◌∙◌, arith, inl, inr, append_assoc, length-append}
use Rattle.std.specs.Prelude.{position}
use Rattle.std.specs.List.{list_all, prefix_len}
use Rattle.std.specs.Option.{option_map}
use Rattle.std.specs.Str.{byte}
use Rattle.std.specs.Char.{is_ascii_digit, is_ascii_alphabetic, is_ascii_alphanumeric}
use Rattle.std.proofs.lemmas.Bool.{cases_Bool, and_parts, and_from, and_left, and_right, or_cases, not-true, eqb-true, lt-ltb, le-ltb}
use Rattle.std.proofs.lemmas.List.{append-nil, drop-drop}
use Rattle.std.proofs.Math.Seq.{take-append_seam, drop-append_seam}
use Rattle.st_scan.specs.declared.fault.Cause.{Cause}
use Rattle.st_scan.specs.declared.fault.Cause.TheVariants as causes
use Rattle.st_scan.specs.Bytes.{is_radix_digit, is_operator_byte, is_second_operator_byte, begins_operator}
use Rattle.st_scan.specs.Pieces.{Digits, decimal, radix, Symbol, unary, keywords, binary, Piece, blank, comment, name, keyword, operator, number, character, string, symbol, opening, mark, digits_text, keywords_text, symbol_text, doubled, spelling, is_name, is_operator, operator_ends, is_sign, is_mark_text, mark_ends, begins, begins_keyword, makes_keyword, makes_radix, some_pass, are_digits, digits_end, IsNumber, SymbolStands, Stands}
use Rattle.st_scan.specs.inside.Faults.{IsFaulty, begins_nothing, begins_piece, goes_with_hash}
use Rattle.st_scan.specs.Fronts.{piece, fault, front_of, comment_to, word_at, number_before, number_at, operator_of, inside_of, string_of, keywords_of, selector_at, hash_at, character_at, mark_at}
use Rattle.st_scan.proofs.Prefixes.{prefix-all, begins-append}
use Rattle.st_scan.proofs.Keywords.{keywords-more, keywords-none}
use Rattle.st_scan.proofs.Strings.{inside-other, inside-pair, inside-end}
use Rattle.st_scan.proofs.Classes.{letter-no_equals, or_second, neither, operator-sign}
use Rattle.st_scan.proofs.Choices.{front-blank, front-comment, front-word, front-number, front-minus, front-operator, front-mark, front-character, front-string, front-hash, front-nothing}

-- COMMENTS

comment-found : (inside rest : List ℕ) → list_all (λ c. not (eqb c (byte "\""))) inside ≡ true
    → comment_to (position (λ c. eqb c (byte "\"")) (inside ++ (byte "\"" ∷ rest))) (inside ++ (byte "\"" ∷ rest)) ≡ piece (comment inside)
comment-found inside rest plain =
    let bs = inside ++ (byte "\"" ∷ rest) in
    let n : prefix_len (λ c. not (eqb c (byte "\""))) bs ≡ length inside = prefix-all (λ c. not (eqb c (byte "\""))) inside (byte "\"" ∷ rest) plain refl in
    let lt : ltb (length inside) (length bs) ≡ true = lt-ltb _ _ (omega (arith, length-append inside (byte "\"" ∷ rest))) in
    rw (n, lt) (ap (λ (l : List ℕ). piece (comment l)) (take-append_seam inside (byte "\"" ∷ rest)))

comment-unclosed : (bs : List ℕ) → list_all (λ c. not (eqb c (byte "\""))) bs ≡ true → comment_to (position (λ c. eqb c (byte "\"")) bs) bs ≡ fault causes.Unclosed
comment-unclosed bs plain =
    let p : ℕ → Bool = λ c. not (eqb c (byte "\"")) in
    let n : prefix_len (λ c. not (eqb c (byte "\""))) bs ≡ length bs = ap (prefix_len p) (sym (append-nil bs)) ∙ prefix-all p bs [] plain refl in
    let no : ltb (length bs) (length bs) ≡ false = le-ltb _ _ (omega arith) in
    rw (n, no) refl

-- NAMES AND KEYWORDS

front-name : (signs : Bool) (text : List ℕ) → begins is_ascii_alphabetic text ≡ true → front_of signs text ≡ word_at text
front-name signs [] e = absurd cc
front-name signs (b ∷ bs) e = front-word signs bs b e

word-found : (n rest : List ℕ) → is_name n ≡ true → begins is_ascii_alphanumeric rest ≡ false → makes_keyword rest ≡ false → word_at (n ++ rest) ≡ piece (name n)
unfolding word_at
word-found n rest form ends no_keyword =
    let k : prefix_len is_ascii_alphanumeric (n ++ rest) ≡ length n = prefix-all is_ascii_alphanumeric n rest (and_parts (begins is_ascii_alphabetic n) _ form).1 ends in
    rw (k, drop-append_seam n rest, take-append_seam n rest, no_keyword) refl

keyword-found : (n rest : List ℕ) → is_name n ≡ true → begins (λ c. eqb c (byte "=")) rest ≡ false → word_at (n ++ (byte ":" ∷ rest)) ≡ piece (keyword n)
unfolding word_at
keyword-found n rest form ends =
    let k : prefix_len is_ascii_alphanumeric (n ++ (byte ":" ∷ rest)) ≡ length n = prefix-all is_ascii_alphanumeric n (byte ":" ∷ rest) (and_parts (begins is_ascii_alphabetic n) _ form).1 refl in
    rw (k, drop-append_seam n (byte ":" ∷ rest), take-append_seam n (byte ":" ∷ rest), ends) refl

-- NUMBERS

begins-some : (p : ℕ → Bool) (bs rest : List ℕ) → some_pass p bs ≡ true → begins p (bs ++ rest) ≡ true
begins-some p [] rest e = absurd cc
begins-some p (b ∷ bs) rest e = (and_parts (p b) (list_all p bs) (and_parts (ltb 0 (length (b ∷ bs))) _ e).1).0

number-found : (minus : Bool) (ds : Digits) (rest : List ℕ) → are_digits ds ≡ true → digits_end ds rest ≡ true → number_at minus (digits_text ds ++ rest) ≡ number_before minus ds rest
unfolding number_at
number-found minus (decimal ds) rest form ends =
    let stop = and_parts (not (begins is_ascii_digit rest)) (not (makes_radix rest)) ends in
    let n : prefix_len is_ascii_digit (ds ++ rest) ≡ length ds = prefix-all is_ascii_digit ds rest (and_parts (ltb 0 (length ds)) _ form).1 (not-true _ stop.0) in
    rw (n, drop-append_seam ds rest, take-append_seam ds rest, not-true _ stop.1) refl
number-found minus (radix rs ds) rest form ends =
    let forms = and_parts (some_pass is_ascii_digit rs) (some_pass is_radix_digit ds) form in
    let more = ds ++ rest in
    let n : prefix_len is_ascii_digit (rs ++ (byte "r" ∷ more)) ≡ length rs = prefix-all is_ascii_digit rs (byte "r" ∷ more) (and_parts (ltb 0 (length rs)) _ forms.0).1 refl in
    let m : prefix_len is_radix_digit more ≡ length ds = prefix-all is_radix_digit ds rest (and_parts (ltb 0 (length ds)) _ forms.1).1 (not-true _ ends) in
    rw append_assoc (
    rw (n, drop-append_seam rs (byte "r" ∷ more), take-append_seam rs (byte "r" ∷ more), begins-some is_radix_digit ds rest forms.1, m, drop-append_seam ds rest, take-append_seam ds rest) refl
    )

digits-begin : (ds : Digits) (rest : List ℕ) → are_digits ds ≡ true → begins is_ascii_digit (digits_text ds ++ rest) ≡ true
digits-begin (decimal ds) rest form = begins-some is_ascii_digit ds rest form
digits-begin (radix rs ds) rest form = rw append_assoc (begins-some is_ascii_digit rs (byte "r" ∷ (ds ++ rest)) (and_parts (some_pass is_ascii_digit rs) _ form).0)

front-digit : (signs : Bool) (text : List ℕ) → begins is_ascii_digit text ≡ true → front_of signs text ≡ number_at false text
front-digit signs [] e = absurd cc
front-digit signs (b ∷ bs) e = front-number signs bs b e

front-digits : (signs minus : Bool) (ds : Digits) (rest : List ℕ) → IsNumber signs minus ds rest → front_of signs (spelling (number minus ds) ++ rest) ≡ number_before minus ds rest
front-digits signs false ds rest n = front-digit signs (digits_text ds ++ rest) (digits-begin ds rest n.0) ∙ number-found false ds rest n.0 n.1
front-digits signs true ds rest n = front-minus signs (digits_text ds ++ rest) (digits-begin ds rest n.0) (n.2 refl) ∙ number-found true ds rest n.0 n.1

-- OPERATORS

operator-alone : (b : ℕ) (rest : List ℕ) → (eqb b (byte "|") || not (begins is_second_operator_byte rest)) ≡ true → operator_of (b ∷ rest) ≡ b ∷ []
operator-alone b [] e = refl
operator-alone b (c ∷ rest) e = elim (or_cases (eqb b (byte "|")) (not (is_second_operator_byte c)) e) [
  | inl bar ↦
      let no : is_operator_byte b ≡ false = ap is_operator_byte (eqb-true b _ bar) in
      rw (and_left (is_operator_byte b) (is_second_operator_byte c) no) refl
  | inr second ↦ rw (and_right (is_operator_byte b) (is_second_operator_byte c) (not-true _ second)) refl
]

-- an operator is what begins with it, where it ends there
operator-found : (o rest : List ℕ) → is_operator o ≡ true → operator_ends o rest ≡ true → operator_of (o ++ rest) ≡ o
operator-found [] rest form ends = absurd cc
operator-found (b ∷ []) rest form ends = operator-alone b rest ends
operator-found (b ∷ c ∷ []) rest form ends = rw form refl
operator-found (b ∷ c ∷ d ∷ o) rest form ends = absurd cc

-- a second byte of an operator is no digit
second-no_digit : (c : ℕ) → is_second_operator_byte c ≡ true → is_ascii_digit c ≡ false
second-no_digit c e = (operator-sign c (or_second (eqb c (byte "|")) _ (and_parts (is_operator_byte c) _ e).0)).digit

front-operators : (signs : Bool) (o rest : List ℕ) → is_operator o ≡ true → operator_ends o rest ≡ true → is_sign signs o rest ≡ false → front_of signs (o ++ rest) ≡ piece (operator o)
front-operators signs [] rest form ends no_sign = absurd cc
front-operators signs (b ∷ []) rest form ends no_sign = front-operator signs rest b form no_sign ∙ ap (λ (l : List ℕ). piece (operator l)) (operator-alone b rest ends)
front-operators signs (b ∷ c ∷ []) rest form ends no_sign =
    let parts = and_parts (is_operator_byte b) (is_second_operator_byte c) form in
    let no : (eqb b (byte "-") && is_ascii_digit c && signs) ≡ false = and_left _ signs (and_right (eqb b (byte "-")) (is_ascii_digit c) (second-no_digit c parts.1)) in
    front-operator signs (c ∷ rest) b (or_second (eqb b (byte "|")) _ parts.0) no ∙ ap (λ (l : List ℕ). piece (operator l)) (operator-found (b ∷ c ∷ []) rest form ends)
front-operators signs (b ∷ c ∷ d ∷ o) rest form ends no_sign = absurd cc

-- MARKS

front-marks : (signs : Bool) (m rest : List ℕ) → is_mark_text m ≡ true → mark_ends m rest ≡ true → front_of signs (m ++ rest) ≡ piece (mark m)
unfolding mark_at
front-marks signs [] rest form ends = absurd cc
front-marks signs (b ∷ []) rest form ends = front-mark signs rest b form ∙ rw (not-true _ ends) refl
front-marks signs (b ∷ c ∷ []) rest form ends =
    let parts = and_parts (eqb b (byte ":")) (eqb c (byte "=")) form in
    rw (eqb-true b _ parts.0, eqb-true c _ parts.1) (front-mark signs (byte "=" ∷ rest) (byte ":") refl)
front-marks signs (b ∷ c ∷ d ∷ m) rest form ends = absurd cc

-- STRINGS

inside-found : (inside rest : List ℕ) → begins (λ b. eqb b (byte "'")) rest ≡ false → inside_of (doubled inside ++ (byte "'" ∷ rest)) ≡ Some inside
inside-found [] rest ends = inside-end (byte "'") rest refl ends
inside-found (b ∷ inside) rest ends = elim (cases_Bool (eqb b (byte "'"))) [
  | inl t ↦ rw t (inside-pair b b (doubled inside ++ (byte "'" ∷ rest)) t t ∙ ap (option_map (λ cs. b ∷ cs)) (inside-found inside rest ends))
  | inr f ↦ rw f (inside-other b (doubled inside ++ (byte "'" ∷ rest)) f ∙ ap (option_map (λ cs. b ∷ cs)) (inside-found inside rest ends))
]

inside-unclosed : (inside : List ℕ) → inside_of (doubled inside) ≡ None
unfolding inside_of
inside-unclosed [] = refl
inside-unclosed (b ∷ inside) = elim (cases_Bool (eqb b (byte "'"))) [
  | inl t ↦ rw t (inside-pair b b (doubled inside) t t ∙ ap (option_map (λ cs. b ∷ cs)) (inside-unclosed inside))
  | inr f ↦ rw f (inside-other b (doubled inside) f ∙ ap (option_map (λ cs. b ∷ cs)) (inside-unclosed inside))
]

-- SYMBOLS

-- a name, before what does not go on with it
name-letters : (n rest : List ℕ) → is_name n ≡ true → begins is_ascii_alphanumeric rest ≡ false → prefix_len is_ascii_alphanumeric (n ++ rest) ≡ length n
name-letters n rest form ends = prefix-all is_ascii_alphanumeric n rest (and_parts (begins is_ascii_alphabetic n) _ form).1 ends

name-begins : (n rest : List ℕ) → is_name n ≡ true → begins is_ascii_alphabetic (n ++ rest) ≡ true
name-begins n rest form = begins-append is_ascii_alphabetic n rest (and_parts (begins is_ascii_alphabetic n) _ form).0

unary-found : (n rest : List ℕ) → is_name n ≡ true → begins is_ascii_alphanumeric rest ≡ false → makes_keyword rest ≡ false → selector_at (n ++ rest) ≡ unary n
unfolding selector_at
unary-found n rest form ends no_keyword =
    rw (name-letters n rest form ends, drop-append_seam n rest, no_keyword, and_right (begins is_ascii_alphabetic (n ++ rest)) false refl, take-append_seam n rest) refl

-- a keyword stands first, and what stands behind its colon
keyword-begins : (n rest : List ℕ) → is_name n ≡ true → begins (λ c. eqb c (byte "=")) rest ≡ false → begins_keyword (n ++ (byte ":" ∷ rest)) ≡ true
keyword-begins n rest form ends =
    and_from _ _ (name-begins n (byte ":" ∷ rest) form) (rw (name-letters n (byte ":" ∷ rest) form refl, drop-append_seam n (byte ":" ∷ rest), ends) refl)

behind-keyword : (n rest : List ℕ) → drop (length n + 1) (n ++ (byte ":" ∷ rest)) ≡ rest
behind-keyword n rest = sym (drop-drop 1 (length n) (n ++ (byte ":" ∷ rest))) ∙ ap (drop 1) (drop-append_seam n (byte ":" ∷ rest))

-- no letter is =
keywords-no_equals : (ns : List (List ℕ)) (rest : List ℕ) → list_all is_name ns ≡ true → begins (λ c. eqb c (byte "=")) rest ≡ false → begins (λ c. eqb c (byte "=")) (keywords_text ns ++ rest) ≡ false
keywords-no_equals [] rest names ends = ends
keywords-no_equals ([] ∷ ns) rest names ends = absurd cc
keywords-no_equals ((b ∷ n) ∷ ns) rest names ends =
    letter-no_equals b (and_parts (is_ascii_alphabetic b) (list_all is_ascii_alphanumeric (b ∷ n)) (and_parts (is_name (b ∷ n)) (list_all is_name ns) names).0).0

keywords-found : (n : ℕ) (ns : List (List ℕ)) (rest : List ℕ) → length (keywords_text ns ++ rest) ≤ n → list_all is_name ns ≡ true → begins (λ c. eqb c (byte "=")) rest ≡ false → begins_keyword rest ≡ false
    → keywords_of n (keywords_text ns ++ rest) ≡ ns
keywords-found n [] rest le names ends last = keywords-none n rest last
keywords-found zero (k ∷ ns) rest le names ends last = absurd (omega (arith, length-append (keywords_text (k ∷ ns)) rest, length-append k (byte ":" ∷ keywords_text ns)))
keywords-found (suc n) (k ∷ ns) rest le names ends last =
    let parts = and_parts (is_name k) (list_all is_name ns) names in
    let more = keywords_text ns ++ rest in
    let no_equals = keywords-no_equals ns rest parts.1 ends in
    let shorter : length more ≤ n = omega (arith, ap length (append_assoc k (byte ":" ∷ keywords_text ns) rest), length-append k (byte ":" ∷ more)) in
    rw append_assoc (
    keywords-more n (k ++ (byte ":" ∷ more)) (keyword-begins k more parts.0 no_equals)
    ∙ rw (name-letters k (byte ":" ∷ more) parts.0 refl, take-append_seam k (byte ":" ∷ more), behind-keyword k more) (ap (λ ks. k ∷ ks) (keywords-found n ns rest shorter parts.1 ends last))
    )

keywords-selector : (n rest : List ℕ) (ns : List (List ℕ)) → list_all is_name (n ∷ ns) ≡ true → begins (λ c. eqb c (byte "=")) rest ≡ false → begins_keyword rest ≡ false → selector_at (keywords_text (n ∷ ns) ++ rest) ≡ keywords n ns
unfolding selector_at
keywords-selector n rest ns names ends last =
    let parts = and_parts (is_name n) (list_all is_name ns) names in
    let more = keywords_text ns ++ rest in
    let no_equals = keywords-no_equals ns rest parts.1 ends in
    rw append_assoc (
    rw (keyword-begins n more parts.0 no_equals, name-letters n (byte ":" ∷ more) parts.0 refl, take-append_seam n (byte ":" ∷ more), behind-keyword n more)
    (ap (λ ks. keywords n ks) (keywords-found (length more) ns rest (omega arith) parts.1 ends last))
    )

hash-letter : (bs : List ℕ) → begins is_ascii_alphabetic bs ≡ true → hash_at bs ≡ piece (symbol (selector_at bs))
unfolding hash_at
hash-letter [] e = absurd cc
hash-letter (b ∷ bs) e = rw e refl

hash-operator : (o rest : List ℕ) → is_operator o ≡ true → operator_ends o rest ≡ true → hash_at (o ++ rest) ≡ piece (symbol (binary (operator_of (o ++ rest))))
unfolding hash_at
hash-operator [] rest form ends = absurd cc
hash-operator (b ∷ []) rest form ends = rw ((operator-sign b form).letter, form) refl
hash-operator (b ∷ c ∷ []) rest form ends =
    let first = or_second (eqb b (byte "|")) _ (and_parts (is_operator_byte b) (is_second_operator_byte c) form).0 in
    rw ((operator-sign b first).letter, first) refl
hash-operator (b ∷ c ∷ d ∷ o) rest form ends = absurd cc

hash-found : (s : Symbol) (rest : List ℕ) → SymbolStands s rest → hash_at (symbol_text s ++ rest) ≡ piece (symbol s)
hash-found (unary n) rest stands = hash-letter (n ++ rest) (name-begins n rest stands.0) ∙ ap (λ s. piece (symbol s)) (unary-found n rest stands.0 stands.1 stands.2)
hash-found (keywords n ns) rest stands =
    let letter : begins is_ascii_alphabetic (keywords_text (n ∷ ns) ++ rest) ≡ true = rw append_assoc (name-begins n (byte ":" ∷ (keywords_text ns ++ rest)) (and_parts (is_name n) _ stands.0).0) in
    hash-letter (keywords_text (n ∷ ns) ++ rest) letter ∙ ap (λ s. piece (symbol s)) (keywords-selector n rest ns stands.0 stands.1 stands.2)
hash-found (binary o) rest stands = hash-operator o rest stands.0 stands.1 ∙ ap (λ (l : List ℕ). piece (symbol (binary l))) (operator-found o rest stands.0 stands.1)

hash-opening : (rest : List ℕ) → hash_at (byte "(" ∷ rest) ≡ piece opening
unfolding hash_at
hash-opening rest = refl

character-found : (b : ℕ) (bs : List ℕ) → character_at (b ∷ bs) ≡ piece (character b)
unfolding character_at
character-found b bs = refl

-- THE FRONT

pub complete : (signs : Bool) (p : Piece) (rest : List ℕ) → Stands signs p rest → front_of signs (spelling p ++ rest) ≡ piece p
complete signs (blank b) rest stands = front-blank signs rest b stands
complete signs (comment inside) rest stands = front-comment signs ((inside ++ byte "\"" ∷ []) ++ rest) ∙ rw append_assoc (comment-found inside rest stands)
complete signs (name n) rest stands = front-name signs (n ++ rest) (name-begins n rest stands.0) ∙ word-found n rest stands.0 stands.1 stands.2
complete signs (keyword n) rest stands = rw append_assoc (front-name signs (n ++ (byte ":" ∷ rest)) (name-begins n (byte ":" ∷ rest) stands.0) ∙ keyword-found n rest stands.0 stands.1)
complete signs (operator o) rest stands = front-operators signs o rest stands.0 stands.1 stands.2
complete signs (number minus ds) rest stands = front-digits signs minus ds rest stands.0 ∙ rw (stands.1, stands.2) refl
complete signs (character b) rest stands = front-character signs (b ∷ rest) ∙ character-found b rest
complete signs (string inside) rest stands = front-string signs ((doubled inside ++ byte "'" ∷ []) ++ rest) ∙ rw append_assoc (ap string_of (inside-found inside rest stands))
complete signs (symbol s) rest stands = front-hash signs (symbol_text s ++ rest) ∙ hash-found s rest stands
complete signs opening rest stands = front-hash signs (byte "(" ∷ rest) ∙ hash-opening rest
complete signs (mark m) rest stands = front-marks signs m rest stands.0 stands.1

-- a # with nothing behind it that makes a symbol or an array
hash-nothing : (c : ℕ) (bs : List ℕ) → goes_with_hash c ≡ false → hash_at (c ∷ bs) ≡ fault causes.Character
unfolding hash_at
hash-nothing c bs e =
    let one = neither (is_ascii_alphabetic c || begins_operator c) (eqb c (byte "(")) e in
    let two = neither (is_ascii_alphabetic c) (begins_operator c) one.0 in
    rw (two.0, two.1, one.1) refl

hash-end : hash_at [] ≡ fault causes.Character
unfolding hash_at
hash-end = refl

character-end : character_at [] ≡ fault causes.Character
unfolding character_at
character-end = refl

nothing-found : (signs : Bool) (text : List ℕ) → begins_nothing text ≡ true → front_of signs text ≡ fault causes.Character
nothing-found signs [] e = absurd cc
nothing-found signs (b ∷ []) e = elim (or_cases (not (begins_piece b) || eqb b (byte "$")) (eqb b (byte "#")) e) [
  | inl other ↦ elim (or_cases (not (begins_piece b)) (eqb b (byte "$")) other) [
    | inl nothing ↦ front-nothing signs [] b (not-true _ nothing)
    | inr dollar ↦ ap (λ (c : ℕ). front_of signs (c ∷ [])) (eqb-true b _ dollar) ∙ front-character signs [] ∙ character-end
  ]
  | inr hash ↦ ap (λ (c : ℕ). front_of signs (c ∷ [])) (eqb-true b _ hash) ∙ front-hash signs [] ∙ hash-end
]
nothing-found signs (b ∷ c ∷ bs) e = elim (or_cases (not (begins_piece b)) (eqb b (byte "#") && not (goes_with_hash c)) e) [
  | inl nothing ↦ front-nothing signs (c ∷ bs) b (not-true _ nothing)
  | inr hash ↦
      let parts = and_parts (eqb b (byte "#")) (not (goes_with_hash c)) hash in
      ap (λ (d : ℕ). front_of signs (d ∷ c ∷ bs)) (eqb-true b _ parts.0) ∙ front-hash signs (c ∷ bs) ∙ hash-nothing c bs (not-true _ parts.1)
]

pub complete_fault : (signs : Bool) (cause : Cause) (text : List ℕ) → IsFaulty signs cause text → front_of signs text ≡ fault cause
complete_fault signs causes.Character text f = nothing-found signs text f
complete_fault signs causes.Unclosed text f = elim f [
  | inl c ↦ ap (front_of signs) c.1 ∙ front-comment signs c.0 ∙ comment-unclosed c.0 c.2
  | inr s ↦ ap (front_of signs) s.1 ∙ front-string signs (doubled s.0) ∙ ap string_of (inside-unclosed s.0)
]
complete_fault signs causes.Number text f = ap (front_of signs) f.2.parts ∙ front-digits signs f.2.minus f.0 f.1 f.2.stands ∙ rw f.3 refl
complete_fault signs causes.Float text f = ap (front_of signs) f.2.parts ∙ front-digits signs f.2.minus f.0 f.1 f.2.stands ∙ rw (f.3, f.4) refl
complete_fault signs _ text f = absurd f
