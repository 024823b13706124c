-- Two methods that are compared are the same exactly where they are one.
use Rattle.std.proofs.Common.{◌≡◌, ℕ, ◌≤◌, Bool, true, false, not, ◌&&◌, ◌==◌, List, [], ◌∷◌, drop, length, Some, None, refl, sym, ap, ap₂, ◌∙◌, arith}
use Rattle.std.proofs.lemmas.Bool.{and_parts, eqb-true}
use Rattle.std.proofs.lemmas.Bool.Decides.{nat_tests}
use Rattle.std.proofs.lemmas.Slice.Eq.{bytes_eq-Decides}
use Rattle.std.proofs.lemmas.List.{at_drop_all}
use Rattle.std.specs.Global.{Vec}
use Rattle.std.specs.Prelude.{if◌then◌else◌, bytes_eq}
use Rattle.st_scan.specs.declared.token.Signed.{Signed}
use Rattle.st_emit.specs.declared.literal.Literal.{Literal}
use Rattle.st_emit.specs.Literals.{LiteralView, LiteralsView, number, character, bytes, symbol, array, named, owner, no_literals, literal, signed_eq}
use Rattle.st_emit.specs.declared.literal.Literal.TheVariants.{Array}
use Rattle.st_emit.specs.inside.Views.{literal_view, literals_view, members_view}
use Rattle.st_emit.proofs.Members.{array_view}
use Rattle.st_code.specs.Methods.{PartsView}
use Rattle.st_decompile.specs.Comparing.{same_literal, same_members, as_members, same_parts}
use Rattle.st_decompile.specs.inside.Members.{members_of}
use Rattle.st_resolved.proofs.Places.{signed_same as signed_is}

same_bytes : (s t : List ℕ) → bytes_eq s t ≡ true → s ≡ t
same_bytes s t e = (bytes_eq-Decides s t).0 e

bytes_same : (t : List ℕ) → bytes_eq t t ≡ true
bytes_same t = (bytes_eq-Decides t t).1 refl

number_same : (n : ℕ) → (n == n) ≡ true
number_same n = grind (arith, nat_tests)

signed_same : (n : Signed) → signed_eq n n ≡ true
signed_same n = ap₂ (λ (a b : Bool). a && b) (by_sign n.minus) (number_same n.size)
  where
    by_sign : (b : Bool) → (if b then b else not b) ≡ true
    by_sign true = refl
    by_sign false = refl

mutual
  pub literal_is : (a b : LiteralView) → same_literal a b ≡ true → a ≡ b
  literal_is (number m) (number m') e = ap number (signed_is m m' e)
  literal_is (character b) (character b') e = ap character (eqb-true b b' e)
  literal_is (bytes s) (bytes s') e = ap bytes (same_bytes s s' e)
  literal_is (symbol s) (symbol s') e = ap symbol (same_bytes s s' e)
  literal_is (array ls) (array ls') e = ap array (members_are ls ls' e)
  literal_is (named p) (named p') e = ap named (eqb-true p p' e)
  literal_is owner owner e = refl
  literal_is a b e = absurd cc

  members_are : (a b : LiteralsView) → same_members a b ≡ true → a ≡ b
  members_are no_literals no_literals e = refl
  members_are no_literals (literal m ms) e = absurd cc
  members_are (literal l ls) no_literals e = absurd cc
  members_are (literal l ls) (literal m ms) e =
      let parts = and_parts (same_literal l m) (same_members ls ms) e in
      ap₂ literal (literal_is l m parts.0) (members_are ls ms parts.1)

mutual
  pub literal_same : (a : LiteralView) → same_literal a a ≡ true
  literal_same (number m) = signed_same m
  literal_same (character b) = number_same b
  literal_same (bytes s) = bytes_same s
  literal_same (symbol s) = bytes_same s
  literal_same (array ls) = members_same ls
  literal_same (named p) = number_same p
  literal_same owner = refl

  members_same : (a : LiteralsView) → same_members a a ≡ true
  members_same no_literals = refl
  members_same (literal l ls) = ap₂ (λ (a b : Bool). a && b) (literal_same l) (members_same ls)

pub members_as : (ls : List Literal) → members_view ls ≡ as_members (literals_view ls)
members_as [] = refl
members_as (l ∷ ls) = ap (literal (literal_view l)) (members_as ls)

list_of : LiteralsView → List LiteralView
list_of no_literals = []
list_of (literal l ls) = l ∷ list_of ls

list_back : (ls : List LiteralView) → list_of (as_members ls) ≡ ls
unfolding list_of
list_back [] = refl
list_back (l ∷ ls) = ap (λ (x : List LiteralView). l ∷ x) (list_back ls)

make_parts : List ℕ → ℕ → List LiteralView → List ℕ → PartsView
make_parts s h ls bs = record { selector = s; header = h; literals = ls; bytes = bs }

pub parts_are : (a b : PartsView) → same_parts a b ≡ true → a ≡ b
unfolding make_parts
parts_are a b e =
    let first = and_parts (a.header == b.header) (bytes_eq a.selector b.selector && (bytes_eq a.bytes b.bytes && same_members (as_members a.literals) (as_members b.literals))) e in
    let second = and_parts (bytes_eq a.selector b.selector) (bytes_eq a.bytes b.bytes && same_members (as_members a.literals) (as_members b.literals)) first.1 in
    let third = and_parts (bytes_eq a.bytes b.bytes) (same_members (as_members a.literals) (as_members b.literals)) second.1 in
    let literals = sym (list_back a.literals) ∙ ap list_of (members_are (as_members a.literals) (as_members b.literals) third.1) ∙ list_back b.literals in
    ap₂ (λ (s : List ℕ) (h : ℕ). make_parts s h a.literals a.bytes) (same_bytes a.selector b.selector second.0) (eqb-true a.header b.header first.0)
    ∙ ap₂ (λ (ls : List LiteralView) (bs : List ℕ). make_parts b.selector b.header ls bs) literals (same_bytes a.bytes b.bytes third.0)

pub parts_same : (a : PartsView) → same_parts a a ≡ true
parts_same a =
    ap₂ (λ (x y : Bool). x && y) (number_same a.header)
    (ap₂ (λ (x y : Bool). x && y) (bytes_same a.selector) (ap₂ (λ (x y : Bool). x && y) (bytes_same a.bytes) (members_same (as_members a.literals))))

-- ARRAYS

pub array_some : (ls ms : LiteralsView) (v : LiteralView) → members_of v ≡ Some ms → same_members ls ms ≡ same_literal (array ls) v
array_some ls ms (array ks) e = let same : ks ≡ ms = cc in ap (same_members ls) (sym same)
array_some ls ms (number n) e = absurd cc
array_some ls ms (character b) e = absurd cc
array_some ls ms (bytes s) e = absurd cc
array_some ls ms (symbol s) e = absurd cc
array_some ls ms (named p) e = absurd cc
array_some ls ms owner e = absurd cc

pub array_none : (ls : LiteralsView) (v : LiteralView) → members_of v ≡ None → false ≡ same_literal (array ls) v
array_none ls (array ks) e = absurd cc
array_none ls (number n) e = refl
array_none ls (character b) e = refl
array_none ls (bytes s) e = refl
array_none ls (symbol s) e = refl
array_none ls (named p) e = refl
array_none ls owner e = refl

pub array_is : (a : Literal) (x : Vec Literal) (v : LiteralView) → a ≡ Array x → same_literal (array (members_view x.items)) v ≡ same_literal (literal_view a) v
array_is a x v e = sym (ap (λ (u : LiteralView). same_literal u v) (ap literal_view e ∙ array_view x))

pub members_end : (ls rest : List Literal) (i : ℕ) (whole : Bool) → length ls ≤ i → same_members (members_view (drop i ls)) (members_view rest) ≡ whole → (length rest == 0) ≡ whole
members_end ls rest i whole l h = by_rest rest ∙ sym (at_drop_all (λ (xs : List Literal). same_members (members_view xs) (members_view rest)) ls i l) ∙ h
  where
    by_rest : (xs : List Literal) → (length xs == 0) ≡ same_members no_literals (members_view xs)
    by_rest [] = refl
    by_rest (x ∷ xs) = grind (arith, nat_tests)
