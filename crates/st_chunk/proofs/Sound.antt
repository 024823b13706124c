-- What the headers and methods of groups meet.
use Rattle.std.proofs.Common.{◌≡◌, ℕ, ◌+◌, ◌≤◌, suc, Bool, true, false, List, [], ◌∷◌, ◌++◌, length, reverse, refl, sym, ap, ◌∙◌, subst, arith, length-append}
use Rattle.std.specs.Prelude.{◌==◌, ◌&&◌, Option, Some, None, IsTrue, codes}
use Rattle.std.specs.Option.{option_map, option_and_then}
use Rattle.std.specs.Char.{is_ascii_alphanumeric}
use Rattle.std.proofs.lemmas.List.{reverse-append, reverse-reverse, length-reverse}
use Rattle.std.proofs.lemmas.List.Folds.{list_all-append}
use Rattle.st_chunk.specs.Texts.{most, is_blank, is_empty}
use Rattle.st_chunk.specs.Feeding.{State}
use Rattle.st_chunk.specs.Groups.{begins, is_name, after_blanks, trimmed, word_of, behind_word, behind, behind_blanks, quotes_doubled, inside_quotes, behind_quote, unquoted, GroupHeader, side_text, header_text, with_category, with_side, header_in, header_of}
use Rattle.st_chunk.specs.Definitions.{IsDefinition}
use Rattle.st_chunk.specs.Scripts.{method_of, IsHeading}
use Rattle.st_chunk.specs.inside.Headings.{class_side_in, category_in}
use Rattle.st_chunk.proofs.Cases.{by_test}

-- PARTS OF A HEADER

mapped : {X Y : Type 0} (f : X → Y) (o : Option X) (y : Y) → option_map f o ≡ Some y → (x : X) × (o ≡ Some x) × (f x ≡ y)
mapped f None y e = absurd cc
mapped f (Some x) y e = (x, refl, cc)

and_then : {X Y : Type 0} (f : X → Option Y) (o : Option X) (y : Y) → option_and_then f o ≡ Some y → (x : X) × (o ≡ Some x) × (f x ≡ Some y)
and_then f None y e = absurd cc
and_then f (Some x) y e = (x, refl, e)

after_short : (t : List ℕ) → length (after_blanks t) ≤ length t
after_short [] = omega arith
after_short (b ∷ t) = let less = after_short t in by_test (is_blank b) (λ e. rw e (omega arith)) (λ e. rw e (omega arith))

pub blanks_short : (t u : List ℕ) → behind_blanks t ≡ Some u → length u + 1 ≤ length t
blanks_short [] u e = absurd cc
blanks_short (b ∷ t) u e =
    let less = after_short t in
    by_test (is_blank b)
    (λ f. let g = rw f at e in let same : after_blanks t ≡ u = cc in let long = ap length same in omega arith)
    (λ f. let g = rw f at e in absurd cc)

behind_long : (front t u : List ℕ) → behind front t ≡ Some u → length front + length u ≡ length t
behind_long [] t u e = let same : t ≡ u = cc in let long = ap length same in omega arith
behind_long (b ∷ front) [] u e = absurd cc
behind_long (b ∷ front) (c ∷ t) u e =
    let more = behind_long front t u in
    by_test (c == b)
    (λ f. let g = rw f at e in let long = more g in omega arith)
    (λ f. let g = rw f at e in absurd cc)

word_long : (t : List ℕ) → length (word_of t) + length (behind_word t) ≡ length t
word_long [] = omega arith
word_long (b ∷ t) = let long = word_long t in by_test (is_ascii_alphanumeric b) (λ e. rw e (omega arith)) (λ e. rw e (omega arith))

mutual
  inside_long : (t c : List ℕ) → inside_quotes t ≡ Some c → length (quotes_doubled c) + 1 ≤ length t
  inside_long [] c e = absurd cc
  inside_long (b ∷ t) c e =
      let closing = behind_long_quote t c in
      let others = inside_long t in
      by_test (b == 39)
      (λ f. let g = rw f at e in let less = closing g in omega arith)
      (λ f. let g = rw f at e in
      let m = mapped (λ (x : List ℕ). b ∷ x) (inside_quotes t) c g in
      let less = others m.0 m.1 in
      subst (λ (x : List ℕ). length (quotes_doubled x) + 1 ≤ suc (length t)) m.2 (rw f (omega arith)))

  behind_long_quote : (t c : List ℕ) → behind_quote t ≡ Some c → length (quotes_doubled c) ≤ length t
  behind_long_quote [] c e = let same : [] ≡ c = cc in subst (λ (x : List ℕ). length (quotes_doubled x) ≤ 0) same (omega arith)
  behind_long_quote (b ∷ t) c e =
      let others = inside_long t in
      by_test (b == 39)
      (λ f. let g = rw f at e in
      let m = mapped (λ (x : List ℕ). b ∷ x) (inside_quotes t) c g in
      let less = others m.0 m.1 in
      subst (λ (x : List ℕ). length (quotes_doubled x) ≤ suc (length t)) m.2 (rw f (omega arith)))
      (λ f. let g = rw f at e in absurd cc)

-- what is said of a header's parts
record IsPart (class t : List ℕ) (h : GroupHeader) (n : ℕ) : Type 0 where
  is : h.class ≡ class
  long : n + length (quotes_doubled h.category) ≤ length t

category_part : (class : List ℕ) (meta : Bool) (t : List ℕ) (h : GroupHeader) → with_category class meta t ≡ Some h → IsPart class t h 14 × (h.meta ≡ meta)
category_part class meta t h e =
    let m = mapped (λ (c : List ℕ). let made : GroupHeader = record { class = class; meta = meta; category = c } in made) (option_and_then unquoted (option_and_then behind_blanks (behind (codes "methodsFor:") t))) h e in
    let v = and_then unquoted (option_and_then behind_blanks (behind (codes "methodsFor:") t)) m.0 m.1 in
    let u = and_then behind_blanks (behind (codes "methodsFor:") t) v.0 v.1 in
    let q = and_then inside_quotes (behind (codes "'") v.0) m.0 v.2 in
    let first = behind_long (codes "methodsFor:") t u.0 u.1 in
    let second = blanks_short u.0 v.0 u.2 in
    let third = behind_long (codes "'") v.0 q.0 q.1 in
    let fourth = inside_long q.0 m.0 q.2 in
    (subst (λ (x : GroupHeader). IsPart class t x 14) m.2 (record { is = refl; long = omega arith }), sym (ap (λ (x : GroupHeader). x.meta) m.2))

side_part : (class others : List ℕ) (o : Option (List ℕ)) (h : GroupHeader) → class_side_in others ≡ o → with_side class others o ≡ Some h → IsPart class others h (length (side_text h.meta) + 14)
side_part class others None h e f =
    let p = category_part class false others h f in
    record { is = p.0.is; long = rw p.1 (omega (arith, p.0.long)) }
side_part class others (Some x) h e f =
    let p = category_part class true x h f in
    let w = and_then behind_blanks (behind (codes "class") others) x e in
    let first = behind_long (codes "class") others w.0 w.1 in
    let second = blanks_short w.0 x w.2 in
    record { is = p.0.is; long = rw p.1 (omega (arith, p.0.long)) }

side_long : (meta : Bool) (class category : List ℕ)
    → length (header_text (record { class = class; meta = meta; category = category })) ≡ length class + (length (side_text meta) + (13 + (2 + length (quotes_doubled category))))
side_long meta class category =
    let q = length-append (quotes_doubled category) (39 ∷ []) in
    let s = length-append (side_text meta) (codes " methodsFor: " ++ (39 ∷ (quotes_doubled category ++ 39 ∷ []))) in
    let c = length-append class (side_text meta ++ (codes " methodsFor: " ++ (39 ∷ (quotes_doubled category ++ 39 ∷ [])))) in
    omega (arith, q, s, c)

header_part : (t : List ℕ) (h : GroupHeader) → header_in t ≡ Some h → IsTrue (is_name h.class) × (length (header_text h) ≤ length t)
header_part t h e = by_test (is_name (word_of t))
    (λ n.
    let g = rw n at e in
    let o = and_then (λ (others : List ℕ). with_side (word_of t) others (class_side_in others)) (behind_blanks (behind_word t)) h g in
    let p = side_part (word_of t) o.0 (class_side_in o.0) h refl o.2 in
    let first = blanks_short (behind_word t) o.0 o.1 in
    let second = word_long t in
    let third = ap length p.is in
    (subst (λ (x : List ℕ). is_name x ≡ true) (sym p.is) n, omega (arith, p.long, side_long h.meta h.class h.category)))
    (λ n. let g = rw n at e in absurd cc)

pub trimmed_short : (t : List ℕ) → length (trimmed t) ≤ length t
trimmed_short t =
    let u = after_blanks t in
    omega (arith, length-reverse (after_blanks (reverse u)), after_short (reverse u), length-reverse u, after_short t)

pub heading_sound : (chunk : List ℕ) (h : GroupHeader) → length chunk ≤ most → header_of chunk ≡ Some h → IsHeading h
heading_sound chunk h short e =
    let p = header_part (trimmed chunk) h e in
    record { named = p.0; short = omega (arith, p.1, trimmed_short chunk) }

-- what is found in a text is no longer than it
pub class_side_short : (text x : List ℕ) → Some x ≡ class_side_in text → length x ≤ length text
class_side_short text x e =
    let w = and_then behind_blanks (behind (codes "class") text) x (sym e) in
    omega (arith, behind_long (codes "class") text w.0 w.1, blanks_short w.0 x w.2)

pub category_short : (text x : List ℕ) → Some x ≡ category_in text → length x ≤ length text
category_short text x e =
    let v = and_then (behind (codes "'")) (option_and_then behind_blanks (behind (codes "methodsFor:") text)) x (sym e) in
    let u = and_then behind_blanks (behind (codes "methodsFor:") text) v.0 v.1 in
    omega (arith, behind_long (codes "methodsFor:") text u.0 u.1, blanks_short u.0 v.0 u.2, behind_long (codes "'") v.0 x v.2)

-- TEXTS

after_begins : (t : List ℕ) → begins is_blank (after_blanks t) ≡ false
after_begins [] = refl
after_begins (b ∷ t) = let more = after_begins t in by_test (is_blank b) (λ e. rw e more) (λ e. rw (e, e) refl)

after_there : (t : List ℕ) → is_empty t ≡ false → 1 ≤ length (after_blanks t)
after_there [] e = absurd cc
after_there (b ∷ t) e =
    let more = after_there t in
    by_test (is_blank b)
    (λ f. let g = rw f at e in rw f (more g))
    (λ f. rw f (omega arith))

none_of : (t : Bool) → (t && (false && true)) ≡ false
none_of true = refl
none_of false = refl

-- a text that begins with no blank isn't blank from behind
behind_there : (u : List ℕ) → 1 ≤ length u → begins is_blank u ≡ false → is_empty (reverse u) ≡ false
behind_there [] there e = absurd (omega arith)
behind_there (x ∷ xs) there e =
    ap is_empty (reverse-append (x ∷ []) xs)
    ∙ list_all-append is_blank (reverse xs) (x ∷ [])
    ∙ ap (λ t. is_empty (reverse xs) && (t && true)) e
    ∙ none_of (is_empty (reverse xs))

split : (v : List ℕ) → (w : List ℕ) × (w ++ after_blanks v ≡ v)
split [] = ([], refl)
split (b ∷ v) =
    let more = split v in
    by_test (is_blank b)
    (λ e. (b ∷ more.0, rw e (ap (λ (x : List ℕ). b ∷ x) more.1)))
    (λ e. ([], rw e refl))

first_kept : (a c : List ℕ) → begins is_blank (a ++ c) ≡ false → begins is_blank a ≡ false
first_kept [] c e = refl
first_kept (x ∷ a) c e = e

front_kept : (u : List ℕ) → begins is_blank u ≡ false → begins is_blank (reverse (after_blanks (reverse u))) ≡ false
front_kept u e =
    let s = split (reverse u) in
    let whole : reverse (after_blanks (reverse u)) ++ reverse s.0 ≡ u = sym (reverse-append s.0 (after_blanks (reverse u))) ∙ ap (λ (x : List ℕ). reverse x) s.1 ∙ reverse-reverse u in
    first_kept (reverse (after_blanks (reverse u))) (reverse s.0) (ap (begins is_blank) whole ∙ e)

pub method_sound : (h : GroupHeader) (s : State) → IsHeading h → length s.bytes ≤ most → is_empty s.bytes ≡ false → IsDefinition (method_of h s)
method_sound h s heading short there =
    let u = after_blanks s.bytes in
    let front = after_begins s.bytes in
    let some = after_there (reverse u) (behind_there u (after_there s.bytes there) front) in
    let back : begins is_blank (reverse (trimmed s.bytes)) ≡ false = ap (begins is_blank) (reverse-reverse (after_blanks (reverse u))) ∙ after_begins (reverse u) in
    record {
      named = heading.named;
      there = omega (arith, some, length-reverse (after_blanks (reverse u)));
      short = omega (arith, trimmed_short s.bytes);
      front = front_kept u front;
      back = back;
      header = heading.short;
    }
