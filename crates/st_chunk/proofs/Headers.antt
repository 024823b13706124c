-- The parts of a header.
use Rattle.std.proofs.Common.{◌≡◌, ℕ, ◌≤◌, Bool, true, false, List, ◌++◌, length, take, drop, refl, ap, ◌∙◌, arith, length-append, length-drop}
use Rattle.std.specs.Prelude.{Option, Some, None, codes}
use Rattle.std.specs.Option.{option_map, option_and_then}
use Rattle.std.proofs.lemmas.List.{take_all, drop_all, take-append-le, drop-append-le, take-append-drop}
use Rattle.st_chunk.specs.Groups.{is_name, word_of, behind_word, behind, behind_blanks, inside_quotes, unquoted, with_category, with_side, header_in}
use Rattle.st_chunk.specs.inside.Headings.{class_side_in, category_in, heading_in}
use Rattle.st_chunk.proofs.Cases.{by_test}

pub no_name : (text : List ℕ) → is_name (word_of text) ≡ false → header_in text ≡ None
no_name text e = rw e refl

pub no_blank : (text : List ℕ) → behind_blanks (behind_word text) ≡ None → header_in text ≡ None
no_blank text e = by_test (is_name (word_of text)) (λ n. rw (n, e) refl) (λ n. rw n refl)

-- a header, by its side and what stands behind that
pub by_side : (text others rest : List ℕ) (meta : Bool) → is_name (word_of text) ≡ true → behind_blanks (behind_word text) ≡ Some others
    → with_side (word_of text) others (class_side_in others) ≡ with_category (word_of text) meta rest → header_in text ≡ with_category (word_of text) meta rest
by_side text others rest meta name blank side = rw (name, blank) side

opening : (o : Option (List ℕ)) → option_and_then unquoted o ≡ option_and_then inside_quotes (option_and_then (behind (codes "'")) o)
opening None = refl
opening (Some t) = refl

pub by_category : (class : List ℕ) (meta : Bool) (text : List ℕ)
    → with_category class meta text ≡ option_map (λ c. record { class = class; meta = meta; category = c }) (option_and_then inside_quotes (category_in text))
by_category class meta text =
    ap (λ (o : Option (List ℕ)). option_map (λ c. record { class = class; meta = meta; category = c }) o) (opening (option_and_then behind_blanks (behind (codes "methodsFor:") text)))

pub no_category : (class : List ℕ) (meta : Bool) (text : List ℕ) → category_in text ≡ None → with_category class meta text ≡ None
no_category class meta text e = by_category class meta text ∙ ap (λ (o : Option (List ℕ)). option_map (λ c. record { class = class; meta = meta; category = c }) (option_and_then inside_quotes o)) e

pub in_quotes : (class : List ℕ) (meta : Bool) (text quoted : List ℕ) (o : Option (List ℕ)) → category_in text ≡ Some quoted → inside_quotes quoted ≡ o
    → with_category class meta text ≡ option_map (λ c. record { class = class; meta = meta; category = c }) o
in_quotes class meta text quoted o e f =
    by_category class meta text
    ∙ ap (λ (p : Option (List ℕ)). option_map (λ c. record { class = class; meta = meta; category = c }) (option_and_then inside_quotes p)) e
    ∙ ap (λ (p : Option (List ℕ)). option_map (λ c. record { class = class; meta = meta; category = c }) p) f

class_taken : (class category : List ℕ) → take (length class) (class ++ category) ≡ class
class_taken class category = take-append-le (length class) class category (omega arith) ∙ take_all (length class) class (omega arith)

category_left : (class category : List ℕ) → drop (length class) (class ++ category) ≡ category
category_left class category = drop-append-le (length class) class category (omega arith) ∙ ap (λ (x : List ℕ). x ++ category) (drop_all (length class) class (omega arith))

-- what is held of a header
pub held_is : (class category held : List ℕ) (meta : Bool) (k : ℕ) → held ≡ class ++ category → k ≡ length class
    → record { class = class; meta = meta; category = category } ≡ heading_in held k meta
held_is class category held meta k e f =
    rw (e, f, class_taken class category, category_left class category) refl

-- so many bytes of a text
pub taken_long : (k : ℕ) (text : List ℕ) → k ≤ length text → length (take k text) ≡ k
taken_long k text within =
    let whole = ap length (take-append-drop k text) in
    omega (arith, whole, length-append (take k text) (drop k text), length-drop k text)
