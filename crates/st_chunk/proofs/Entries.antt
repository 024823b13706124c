-- The entries of definitions are read back.
use Rattle.std.proofs.Common.{◌≡◌, ℕ, suc, leb, inl, inr, ◌≤◌, Bool, true, false, List, [], ◌∷◌, ◌++◌, length, refl, sym, ap, ◌∙◌, append_assoc, subst, arith}
use Rattle.std.specs.Prelude.{◌==◌, if◌then◌else◌, reverse, IsTrue, Option, Some, None, All, codes}
use Rattle.std.specs.Option.{option_map, option_and_then}
use Rattle.std.specs.List.{list_all}
use Rattle.std.specs.Int.{is_in_range}
use Rattle.std.specs.Str.{byte}
use Rattle.std.specs.Char.{is_ascii_alphabetic, is_ascii_alphanumeric}
use Rattle.std.proofs.lemmas.List.{append-nil, reverse-append, reverse-reverse}
use Rattle.std.proofs.lemmas.Bool.{eqb-true, ne_eqb, leb-true, le-leb, and_parts, or_cases}
use Rattle.st_chunk.proofs.Cases.{by_test}
use Rattle.st_chunk.proofs.Reading.{by_bytes}
use Rattle.st_chunk.specs.Texts.{mark, most, Cut, with_chunk, cut_behind, behind_mark, cut, doubled, is_blank, is_empty}
use Rattle.st_chunk.specs.Groups.{begins, is_name, after_blanks, trimmed, word_of, behind_word, behind, behind_blanks, quotes_doubled, quoted, inside_quotes, GroupHeader, side_text, header_text, with_side, header_in, header_of, Group, Opened, closed, with_method, with_header, groups, methods}
use Rattle.st_chunk.specs.Definitions.{Definition, header_for, IsDefinition, line_feed, entry, method_part, entries, definitions, definitions_in}
use Rattle.st_chunk.specs.Feeding.{start, Account, whole, too_long, with_one, account, limited, first_told}

-- CUTTING

pair_kept : (before : List ℕ) (b : ℕ) (text : List ℕ) → (b == mark) ≡ true → cut_behind before (b ∷ b ∷ text) ≡ cut_behind (before ++ b ∷ []) text
pair_kept before b text e = rw e refl

one_kept : (before : List ℕ) (b : ℕ) (text : List ℕ) → (b == mark) ≡ false → cut_behind before (b ∷ text) ≡ cut_behind (before ++ b ∷ []) text
one_kept before b text e = rw e refl

doubled-mark : (b : ℕ) (text : List ℕ) → (b == mark) ≡ true → doubled (b ∷ text) ≡ b ∷ b ∷ doubled text
doubled-mark b text e = rw e refl

doubled-other : (b : ℕ) (text : List ℕ) → (b == mark) ≡ false → doubled (b ∷ text) ≡ b ∷ doubled text
doubled-other b text e = rw e refl

-- a text with each mark doubled, and a mark behind it, is a chunk where no mark comes next
cut_doubled : (before text : List ℕ) (c : ℕ) (rest : List ℕ) → (c == mark) ≡ false
    → cut_behind before (doubled text ++ mark ∷ c ∷ rest) ≡ with_chunk (before ++ text) (cut_behind (c ∷ []) rest)
cut_doubled before [] c rest e = rw e (ap (λ (x : List ℕ). with_chunk x (cut_behind (c ∷ []) rest)) (sym (append-nil before)))
cut_doubled before (b ∷ text) c rest e =
    let more = cut_doubled (before ++ b ∷ []) text c rest e ∙ ap (λ (x : List ℕ). with_chunk x (cut_behind (c ∷ []) rest)) (append_assoc before (b ∷ []) text) in
    by_test (b == mark)
    (λ f. ap (λ (x : List ℕ). cut_behind before (x ++ mark ∷ c ∷ rest)) (doubled-mark b text f) ∙ pair_kept before b (doubled text ++ mark ∷ c ∷ rest) f ∙ more)
    (λ f. ap (λ (x : List ℕ). cut_behind before (x ++ mark ∷ c ∷ rest)) (doubled-other b text f) ∙ one_kept before b (doubled text ++ mark ∷ c ∷ rest) f ∙ more)

-- where a text is not empty and begins with no mark, a mark before it ends a chunk
cut_marked : (before : List ℕ) (b : ℕ) (text rest : List ℕ) (c : ℕ) → (b == mark) ≡ false → (c == mark) ≡ false
    → cut_behind before (mark ∷ (doubled (b ∷ text) ++ mark ∷ c ∷ rest)) ≡ with_chunk before (with_chunk (b ∷ text) (cut_behind (c ∷ []) rest))
cut_marked before b text rest c e f =
    ap (λ (x : List ℕ). behind_mark before (x ++ mark ∷ c ∷ rest)) (doubled-other b text e)
    ∙ rw e (ap (with_chunk before) (cut_doubled (b ∷ []) text c rest f))

entry_shape : (h t rest : List ℕ) → mark ∷ (h ++ (mark ∷ line_feed ∷ (t ++ (codes "! !" ++ line_feed ∷ [])))) ++ rest ≡ mark ∷ (h ++ mark ∷ line_feed ∷ (t ++ mark ∷ 32 ∷ mark ∷ line_feed ∷ rest))
entry_shape h t rest =
    ap (λ (x : List ℕ). mark ∷ x)
    (append_assoc h (mark ∷ line_feed ∷ (t ++ (codes "! !" ++ line_feed ∷ []))) rest
    ∙ ap (λ (x : List ℕ). h ++ mark ∷ line_feed ∷ x) (append_assoc t (codes "! !" ++ line_feed ∷ []) rest))

-- the chunks of an entry, and what stands behind it
cut_entry : (d : Definition) (before : List ℕ) (b : ℕ) (header rest : List ℕ) → header_text (header_for d) ≡ b ∷ header → (b == mark) ≡ false
    → cut_behind before (entry d ++ rest) ≡ with_chunk before (with_chunk (header_text (header_for d)) (with_chunk (line_feed ∷ d.text) (with_chunk (32 ∷ []) (cut_behind (line_feed ∷ []) rest))))
cut_entry d before b header rest is e =
    let behind : List ℕ = doubled d.text ++ mark ∷ 32 ∷ mark ∷ line_feed ∷ rest in
    ap (cut_behind before) (entry_shape (doubled (header_text (header_for d))) (doubled d.text) rest)
    ∙ ap (λ (x : List ℕ). cut_behind before (mark ∷ (doubled x ++ mark ∷ line_feed ∷ behind))) is
    ∙ cut_marked before b header behind line_feed e refl
    ∙ ap (λ (x : List ℕ). with_chunk before (with_chunk x (cut_behind (line_feed ∷ []) behind))) (sym is)
    ∙ ap (λ (x : Cut). with_chunk before (with_chunk (header_text (header_for d)) x)) (cut_doubled (line_feed ∷ []) d.text 32 (mark ∷ line_feed ∷ rest) refl)

-- BLANKS

after_same : (text : List ℕ) → begins is_blank text ≡ false → after_blanks text ≡ text
after_same [] e = refl
after_same (b ∷ text) e = rw e refl

trimmed_same : (text : List ℕ) → begins is_blank text ≡ false → begins is_blank (reverse text) ≡ false → trimmed text ≡ text
trimmed_same text front back =
    ap (λ (x : List ℕ). reverse (after_blanks (reverse x))) (after_same text front)
    ∙ ap reverse (after_same (reverse text) back)
    ∙ reverse-reverse text

-- HEADERS

name_first : (class more : List ℕ) → IsTrue (is_name class) → (b : ℕ) × (tail : List ℕ) × (class ++ more ≡ b ∷ tail) × (is_ascii_alphabetic b ≡ true)
name_first [] more h = absurd cc
name_first (b ∷ class) more h = (b, class ++ more, refl, (and_parts (is_ascii_alphabetic b) (list_all is_ascii_alphanumeric (b ∷ class)) h).0)

not_mark : (b : ℕ) → is_ascii_alphabetic b ≡ true → (b == mark) ≡ false
not_mark b letter = by_test (b == mark) (λ e. let wrong : is_ascii_alphabetic mark ≡ true = subst (λ n. is_ascii_alphabetic n ≡ true) (eqb-true b mark e) letter in absurd cc) (λ e. e)

letter_high : (b : ℕ) → is_ascii_alphabetic b ≡ true → 65 ≤ b
letter_high b e = elim (or_cases (is_in_range 65 90 b) (is_in_range 97 122 b) e) [
  | inl capital ↦ leb-true 65 b (and_parts (leb 65 b) (leb b 90) capital).0
  | inr small ↦ let low = leb-true 97 b (and_parts (leb 97 b) (leb b 122) small).0 in omega arith
]

not_blank : (b : ℕ) → is_ascii_alphabetic b ≡ true → is_blank b ≡ false
not_blank b letter =
    let high = letter_high b letter in
    rw (ne_eqb b 9 (λ s. omega arith), ne_eqb b 10 (λ s. omega arith), ne_eqb b 12 (λ s. omega arith), ne_eqb b 13 (λ s. omega arith), ne_eqb b 32 (λ s. omega arith)) refl

word_back : (class : List ℕ) (rest : List ℕ) → list_all is_ascii_alphanumeric class ≡ true → begins is_ascii_alphanumeric rest ≡ false → word_of (class ++ rest) ≡ class
word_back [] [] h e = refl
word_back [] (b ∷ rest) h e = rw e refl
word_back (b ∷ class) rest h e =
    rw (and_parts (is_ascii_alphanumeric b) (list_all is_ascii_alphanumeric class) h).0
    (ap (λ (x : List ℕ). b ∷ x) (word_back class rest (and_parts (is_ascii_alphanumeric b) (list_all is_ascii_alphanumeric class) h).1 e))

behind_back : (class : List ℕ) (rest : List ℕ) → list_all is_ascii_alphanumeric class ≡ true → begins is_ascii_alphanumeric rest ≡ false → behind_word (class ++ rest) ≡ rest
behind_back [] [] h e = refl
behind_back [] (b ∷ rest) h e = rw e refl
behind_back (b ∷ class) rest h e =
    rw (and_parts (is_ascii_alphanumeric b) (list_all is_ascii_alphanumeric class) h).0
    (behind_back class rest (and_parts (is_ascii_alphanumeric b) (list_all is_ascii_alphanumeric class) h).1 e)

abbrev quote : ℕ → Bool
quote b = b == byte "'"

quotes-pair : (b : ℕ) (text rest : List ℕ) → quote b ≡ true → inside_quotes (quotes_doubled (b ∷ text) ++ rest) ≡ option_map (λ t. b ∷ t) (inside_quotes (quotes_doubled text ++ rest))
quotes-pair b text rest e = ap (λ (x : List ℕ). inside_quotes (x ++ rest)) (two b text e) ∙ pair b (quotes_doubled text ++ rest) e
  where
    two : (b : ℕ) (text : List ℕ) → quote b ≡ true → quotes_doubled (b ∷ text) ≡ b ∷ b ∷ quotes_doubled text
    two b text e = rw e refl

    pair : (b : ℕ) (text : List ℕ) → quote b ≡ true → inside_quotes (b ∷ b ∷ text) ≡ option_map (λ t. b ∷ t) (inside_quotes text)
    pair b text e = rw e refl

quotes-other : (b : ℕ) (text rest : List ℕ) → quote b ≡ false → inside_quotes (quotes_doubled (b ∷ text) ++ rest) ≡ option_map (λ t. b ∷ t) (inside_quotes (quotes_doubled text ++ rest))
quotes-other b text rest e = ap (λ (x : List ℕ). inside_quotes (x ++ rest)) (one b text e) ∙ other b (quotes_doubled text ++ rest) e
  where
    one : (b : ℕ) (text : List ℕ) → quote b ≡ false → quotes_doubled (b ∷ text) ≡ b ∷ quotes_doubled text
    one b text e = rw e refl

    other : (b : ℕ) (text : List ℕ) → quote b ≡ false → inside_quotes (b ∷ text) ≡ option_map (λ t. b ∷ t) (inside_quotes text)
    other b text e = rw e refl

inside_back : (text : List ℕ) → inside_quotes (quotes_doubled text ++ byte "'" ∷ []) ≡ Some text
inside_back [] = refl
inside_back (b ∷ text) =
    let more = ap (λ (o : Option (List ℕ)). option_map (λ t. b ∷ t) o) (inside_back text) in
    by_test (quote b) (λ e. quotes-pair b text (byte "'" ∷ []) e ∙ more) (λ e. quotes-other b text (byte "'" ∷ []) e ∙ more)

-- a header, by its first word and what stands behind it
abbrev by_word : List ℕ → List ℕ → Option GroupHeader
by_word word rest =
    if is_name word
    then option_and_then (λ others. with_side word others (option_and_then behind_blanks (behind (codes "class") others))) (behind_blanks rest)
    else None

header_back : (class : List ℕ) (meta : Bool) (category : List ℕ) → IsTrue (is_name class)
    → header_in (header_text (record { class = class; meta = meta; category = category })) ≡ Some (record { class = class; meta = meta; category = category })
header_back class true category named =
    let letters = (and_parts (begins is_ascii_alphabetic class) (list_all is_ascii_alphanumeric class) named).1 in
    let rest : List ℕ = codes " class methodsFor: " ++ quoted category in
    ap (λ (w : List ℕ). by_word w (behind_word (class ++ rest))) (word_back class rest letters refl)
    ∙ ap (λ (r : List ℕ). by_word class r) (behind_back class rest letters refl)
    ∙ rw named (ap (λ (o : Option (List ℕ)). option_map (λ c. record { class = class; meta = true; category = c }) o) (inside_back category))
header_back class false category named =
    let letters = (and_parts (begins is_ascii_alphabetic class) (list_all is_ascii_alphanumeric class) named).1 in
    let rest : List ℕ = codes " methodsFor: " ++ quoted category in
    ap (λ (w : List ℕ). by_word w (behind_word (class ++ rest))) (word_back class rest letters refl)
    ∙ ap (λ (r : List ℕ). by_word class r) (behind_back class rest letters refl)
    ∙ rw named (ap (λ (o : Option (List ℕ)). option_map (λ c. record { class = class; meta = false; category = c }) o) (inside_back category))

-- its last byte is a quote
last_quote : (xs ys text : List ℕ) → begins is_blank (reverse (xs ++ (ys ++ (byte "'" ∷ (text ++ byte "'" ∷ []))))) ≡ false
last_quote xs ys text =
    ap (λ (x : List ℕ). begins is_blank (reverse x)) (sym (append_assoc xs ys (byte "'" ∷ (text ++ byte "'" ∷ []))) ∙ sym (append_assoc (xs ++ ys) (byte "'" ∷ text) (byte "'" ∷ [])))
    ∙ ap (λ (x : List ℕ). begins is_blank x) (reverse-append ((xs ++ ys) ++ byte "'" ∷ text) (byte "'" ∷ []))

header_read : (h : GroupHeader) → IsTrue (is_name h.class) → header_of (header_text h) ≡ Some h
header_read h named =
    let first = name_first h.class (side_text h.meta ++ (codes " methodsFor: " ++ quoted h.category)) named in
    let front : begins is_blank (header_text h) ≡ false = ap (begins is_blank) first.2 ∙ not_blank first.0 first.3 in
    let back : begins is_blank (reverse (header_text h)) ≡ false =
    ap (λ (x : List ℕ). begins is_blank (reverse (h.class ++ x))) (sym (append_assoc (side_text h.meta) (codes " methodsFor: ") (quoted h.category)))
    ∙ last_quote h.class (side_text h.meta ++ codes " methodsFor: ") (quotes_doubled h.category) in
    ap header_in (trimmed_same (header_text h) front back) ∙ header_back h.class h.meta h.category named

-- GROUPS

abbrev group_for : Definition → Group
group_for d = record { header = header_for d; methods = d.text ∷ [] }

not_empty : (text : List ℕ) → 1 ≤ length text → begins is_blank text ≡ false → is_empty text ≡ false
not_empty [] there e = absurd (omega arith)
not_empty (b ∷ text) there e = rw e refl

-- a definition's four chunks are a group
one_group : (d : Definition) (before : List ℕ) (cs : List (List ℕ)) (gs : List Group) → IsDefinition d → is_empty before ≡ true → groups cs ≡ Some gs
    → groups (before ∷ header_text (header_for d) ∷ (line_feed ∷ d.text) ∷ (32 ∷ []) ∷ cs) ≡ Some (group_for d ∷ gs)
one_group d before cs gs is e more =
    let text : trimmed (line_feed ∷ d.text) ≡ d.text = trimmed_same d.text is.front is.back in
    let inside : methods ((line_feed ∷ d.text) ∷ (32 ∷ []) ∷ cs) ≡ Some (record { methods = d.text ∷ []; groups = gs }) =
    rw (not_empty d.text is.there is.front) (ap (λ (o : Option (List Group)). option_map (with_method (trimmed d.text)) (option_map closed o)) more ∙ ap (λ (x : List ℕ). Some (record { methods = x ∷ []; groups = gs })) text) in
    rw e (ap (λ (o : Option Opened). option_and_then (λ x. option_map (with_header x) (header_of (header_text (header_for d)))) o) inside
    ∙ ap (λ (o : Option GroupHeader). option_map (with_header (record { methods = d.text ∷ []; groups = gs })) o) (header_read (header_for d) is.named))

abbrev groups_for : List Definition → List Group
groups_for [] = []
groups_for (d ∷ ds) = group_for d ∷ groups_for ds

cut_definition : (d : Definition) (before rest : List ℕ) → IsDefinition d
    → cut_behind before (entry d ++ rest) ≡ with_chunk before (with_chunk (header_text (header_for d)) (with_chunk (line_feed ∷ d.text) (with_chunk (32 ∷ []) (cut_behind (line_feed ∷ []) rest))))
cut_definition d before rest is =
    let first = name_first d.class (side_text d.meta ++ (codes " methodsFor: " ++ quoted d.category)) is.named in
    cut_entry d before first.0 first.1 rest first.2 (not_mark first.0 first.3)

pub others : (d : Definition) (ds : List Definition) → All IsDefinition (d ∷ ds) → All IsDefinition ds
others d ds all k x less = all (suc k) x (omega arith)

entries_groups : (ds : List Definition) (before : List ℕ) → All IsDefinition ds → is_empty before ≡ true → groups (cut_behind before (entries ds)).chunks ≡ Some (groups_for ds)
entries_groups [] before all e = refl
entries_groups (d ∷ ds) before all e =
    ap (λ (c : Cut). groups c.chunks) (cut_definition d before (entries ds) (all 0 d (omega arith)))
    ∙ one_group d before (cut_behind (line_feed ∷ []) (entries ds)).chunks (groups_for ds) (all 0 d (omega arith)) e (entries_groups ds (line_feed ∷ []) (others d ds all) refl)

definitions_back : (ds : List Definition) → definitions (groups_for ds) ≡ ds
definitions_back [] = refl
definitions_back (d ∷ ds) = ap (λ (x : List Definition). d ∷ x) (definitions_back ds)

pub read_back : (ds : List Definition) → All IsDefinition ds → definitions_in (entries ds) ≡ Some ds
read_back ds all = ap (λ (o : Option (List Group)). option_map definitions o) (entries_groups ds [] all refl) ∙ ap (λ (x : List Definition). Some x) (definitions_back ds)

rest_blank : (ds : List Definition) (before : List ℕ) → All IsDefinition ds → is_empty before ≡ true → is_empty (cut_behind before (entries ds)).rest ≡ true
rest_blank [] before all e = e
rest_blank (d ∷ ds) before all e =
    ap (λ (c : Cut). is_empty c.rest) (cut_definition d before (entries ds) (all 0 d (omega arith))) ∙ rest_blank ds (line_feed ∷ []) (others d ds all) refl

pub blanks_behind : (ds : List Definition) → All IsDefinition ds → IsTrue (is_empty (cut (entries ds)).rest)
blanks_behind ds all = rest_blank ds [] all refl

-- ONE METHOD

first_with : (text : List ℕ) (a : Account) → first_told (with_one text a) ≡ Some text
first_with text (whole c) = refl
first_with text (too_long before) = refl

first_limited : (text : List ℕ) (c : Cut) → length text ≤ most → first_told (limited (text ∷ c.chunks) c.rest) ≡ Some text
first_limited text c short = rw (le-leb (length text) most short) (first_with text (limited c.chunks c.rest))

-- the chunk that is told first of what stands behind the line feed
pub method_first : (d : Definition) (rest : List ℕ) → IsDefinition d → first_told (account start (method_part d ++ rest)) ≡ Some d.text
method_first d rest is =
    let closing : List ℕ = mark ∷ line_feed ∷ rest in
    ap first_told (by_bytes (method_part d ++ rest))
    ∙ ap (λ (x : List ℕ). first_told (limited (cut x).chunks (cut x).rest)) (append_assoc (doubled d.text) (codes "! !" ++ line_feed ∷ []) rest)
    ∙ ap (λ (c : Cut). first_told (limited c.chunks c.rest)) (cut_doubled [] d.text 32 closing refl)
    ∙ first_limited d.text (cut_behind (32 ∷ []) closing) is.short
