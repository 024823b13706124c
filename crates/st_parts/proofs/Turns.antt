-- Turns of the loops over literals.
use Rattle.std.proofs.Common.{◌≡◌, ℕ, zero, suc, ◌+◌, ◌<◌, ◌≤◌, List, [], ◌∷◌, ◌++◌, length, take, drop, Option, Some, None, Bool, true, false, refl, sym, ap, ap₂, ◌∙◌, arith}
use Rattle.std.specs.Prelude.{slice_index_or, slice_get, min, nat_lt, ◌&&◌, option_and_then, option_map, if◌then◌else◌}
use Rattle.std.proofs.lemmas.Bool.{ltb-true, ltb-false}
use Rattle.std.proofs.lemmas.Bool.Decides.{nat_tests}
use Rattle.std.proofs.lemmas.List.{at_drop_more, drop_all, append_assoc, append-nil, map-append}
use Rattle.st_model.specs.declared.oop.Oop.{Oop}
use Rattle.st_model.specs.Values.{Value, Ref, value, value_of}
use Rattle.st_model.specs.Objects.{is_pointers}
use Rattle.st_model.specs.View.{is_live, object_of}
use Rattle.st_model.specs.Steps.{same_value}
use Rattle.st_emit.specs.declared.literal.Literal.{Literal}
use Rattle.st_emit.specs.Literals.{LiteralView, LiteralsView, character, no_literals, literal}
use Rattle.st_emit.specs.inside.Views.{literal_view, literals_view, members_view}
use Rattle.st_scope.specs.inside.Meanings.{values}
use Rattle.st_model.specs.Table.{Table}
use Rattle.st_emit.specs.Names.{NamesView}
use Rattle.st_parts.specs.Contents.{fields_at, number_among, character_by, member_by, members_by}
use Rattle.st_parts.specs.Parts.{literal_read, literals_read}

-- THE FIRST OF A VALUE

dropped : {A : Type 0} (us : List A) (i : ℕ) (x : A) → slice_get us i ≡ Some x → drop i us ≡ x ∷ drop (suc i) us
dropped [] i x e = cc
dropped (u ∷ us) zero x e = let q : u ≡ x = cc in ap (λ y. y ∷ us) q
dropped (u ∷ us) (suc i) x e = dropped us i x e

-- a number past those of characters is none's
no_character : (v : Value) (n : ℕ) (vs : List Value) → 256 ≤ n → character_by (number_among n vs v) ≡ None
no_character v n [] l = refl
no_character v n (x ∷ xs) l = by (same_value x v) (no_character v (n + 1) xs (omega (arith, l)))
  where
    past : nat_lt n 256 ≡ false
    past = grind (arith, nat_tests, l)

    by : (b : Bool) → character_by (number_among (n + 1) xs v) ≡ None → character_by (if b then Some n else number_among (n + 1) xs v) ≡ None
    by true h = ap (λ (c : Bool). if c then Some (character n) else None) past
    by false h = h

module _ (fields : List Value) (v : Value) where
  -- what is left gives what the whole gives
  abbrev pub LeftAmong : ℕ → Type 0
  LeftAmong i = number_among i (drop i fields) v ≡ number_among 0 fields v

  pub none_among : (i : ℕ) → min (length fields) 256 ≤ i → LeftAmong i → None ≡ character_by (number_among 0 fields v)
  none_among i l h = sym (by (nat_lt i 256) refl) ∙ ap character_by h
    where
      by : (b : Bool) → nat_lt i 256 ≡ b → character_by (number_among i (drop i fields) v) ≡ None
      by true e = let below = ltb-true i 256 e in ap (λ xs. character_by (number_among i xs v)) (drop_all i fields (omega (arith, l, below)))
      by false e = no_character v i (drop i fields) (ltb-false i 256 e)

  module _ (i : ℕ) (x : Value) (e : slice_get fields i ≡ Some x) (h : LeftAmong i) where
    turn : (if same_value x v then Some i else number_among (i + 1) (drop (i + 1) fields) v) ≡ number_among 0 fields v
    turn =
        let more : i + 1 ≡ suc i = omega arith in
        ap (λ j. if same_value x v then Some i else number_among (i + 1) (drop j fields) v) more
        ∙ (sym (ap (λ xs. number_among i xs v) (dropped fields i x e)) ∙ h)

    pub here_among : i < 256 → true ≡ same_value x v → Some (character i) ≡ character_by (number_among 0 fields v)
    here_among l q =
        let below : nat_lt i 256 ≡ true = grind (arith, nat_tests, l) in
        ap (λ (b : Bool). if b then Some (character i) else None) (sym below)
        ∙ ap character_by (ap (λ (b : Bool). if b then Some i else number_among (i + 1) (drop (i + 1) fields) v) q ∙ turn)

    pub later_among : false ≡ same_value x v → LeftAmong (i + 1)
    later_among q = ap (λ (b : Bool). if b then Some i else number_among (i + 1) (drop (i + 1) fields) v) q ∙ turn

-- CHARACTERS

pub characters_place : value (record { 0 = 50 }) ≡ Ref 25
unfolding value_of
characters_place = refl

module _ (t : Table) (o : Value) (place : o ≡ Ref 25) where
  placed : fields_at t (Ref 25) ≡ fields_at t o
  placed = ap (fields_at t) (sym place)

  pub characters_gone : is_live t o ≡ false → [] ≡ fields_at t (Ref 25)
  characters_gone l = sym (placed ∙ ap (λ (b : Bool). if b && is_pointers (object_of t o).kind then (object_of t o).fields else []) l)

  pub characters_other : is_live t o ≡ true → is_pointers (object_of t o).kind ≡ false → [] ≡ fields_at t (Ref 25)
  characters_other l k = sym (placed ∙ ap₂ (λ (b c : Bool). if b && c then (object_of t o).fields else []) l k)

  pub characters_are : is_live t o ≡ true → is_pointers (object_of t o).kind ≡ true → (object_of t o).fields ≡ fields_at t (Ref 25)
  characters_are l k = sym (placed ∙ ap₂ (λ (b c : Bool). if b && c then (object_of t o).fields else []) l k)

-- MEMBERS OF AN ARRAY

-- literals before others
abbrev pub members_onto : List Literal → LiteralsView → LiteralsView
members_onto [] ls = ls
members_onto (x ∷ xs) ls = literal (literal_view x) (members_onto xs ls)

onto_more : (xs : List Literal) (x : Literal) (ls : LiteralsView) → members_onto (xs ++ x ∷ []) ls ≡ members_onto xs (literal (literal_view x) ls)
onto_more [] x ls = refl
onto_more (y ∷ ys) x ls = ap (literal (literal_view y)) (onto_more ys x ls)

onto_none : (xs : List Literal) → members_onto xs no_literals ≡ members_view xs
onto_none [] = refl
onto_none (x ∷ xs) = ap (literal (literal_view x)) (onto_none xs)

module _ (f : Value → Option LiteralView) (vs : List Oop) where
  abbrev pub LeftMembers : ℕ → List Literal → Type 0
  LeftMembers i done = option_map (members_onto done) (members_by f (values (drop i vs))) ≡ members_by f (values vs)

  pub members_begin : LeftMembers 0 []
  members_begin = by (members_by f (values vs))
    where
      by : (x : Option LiteralsView) → option_map (members_onto []) x ≡ x
      by None = refl
      by (Some ls) = refl

  pub members_end : (i : ℕ) (done : List Literal) → length vs ≤ i → LeftMembers i done → Some (members_view done) ≡ members_by f (values vs)
  members_end i done l h = sym (ap Some (onto_none done)) ∙ (sym (ap (λ xs. option_map (members_onto done) (members_by f (values xs))) (drop_all i vs l)) ∙ h)

  module _ (i : ℕ) (d : Oop) (l : i < length vs) (done : List Literal) (h : LeftMembers i done) where
    members_turn : option_map (members_onto done) (option_and_then (λ x. option_map (literal x) (members_by f (values (drop (i + 1) vs)))) (member_by f (value (slice_index_or vs i d)))) ≡ members_by f (values vs)
    members_turn = sym (at_drop_more (λ xs. option_map (members_onto done) (members_by f (values xs))) vs i d l) ∙ h

    pub members_fail : None ≡ member_by f (value (slice_index_or vs i d)) → None ≡ members_by f (values vs)
    members_fail e = ap (λ (x : Option LiteralView). option_map (members_onto done) (option_and_then (λ y. option_map (literal y) (members_by f (values (drop (i + 1) vs)))) x)) e ∙ members_turn

    pub members_more : (x : Literal) → Some (literal_view x) ≡ member_by f (value (slice_index_or vs i d)) → LeftMembers (i + 1) (done ++ x ∷ [])
    members_more x e =
        by (members_by f (values (drop (i + 1) vs)))
        ∙ (ap (λ (y : Option LiteralView). option_map (members_onto done) (option_and_then (λ z. option_map (literal z) (members_by f (values (drop (i + 1) vs)))) y)) e ∙ members_turn)
      where
        by : (r : Option LiteralsView) → option_map (members_onto (done ++ x ∷ [])) r ≡ option_map (members_onto done) (option_map (literal (literal_view x)) r)
        by None = refl
        by (Some ls) = ap Some (onto_more done x ls)

-- LITERALS OF A METHOD

module _ (names : NamesView) (t : Table) (vs : List Oop) where
  abbrev before : List Literal → Option (List LiteralView) → Option (List LiteralView)
  before done ls = option_map (λ (xs : List LiteralView). literals_view done ++ xs) ls

  abbrev pub LeftLiterals : ℕ → List Literal → Type 0
  LeftLiterals i done = before done (literals_read names t (values (drop i vs))) ≡ literals_read names t (values vs)

  pub literals_begin : LeftLiterals 0 []
  literals_begin = by (literals_read names t (values vs))
    where
      by : (x : Option (List LiteralView)) → before [] x ≡ x
      by None = refl
      by (Some ls) = refl

  pub literals_end : (i : ℕ) (done : List Literal) → length vs ≤ i → LeftLiterals i done → Some (literals_view done) ≡ literals_read names t (values vs)
  literals_end i done l h = sym (ap Some (append-nil (literals_view done))) ∙ (sym (ap (λ xs. before done (literals_read names t (values xs))) (drop_all i vs l)) ∙ h)

  module _ (i : ℕ) (d : Oop) (l : i < length vs) (done : List Literal) (h : LeftLiterals i done) where
    abbrev with_first : Option LiteralView → Option (List LiteralView)
    with_first x = before done (option_and_then (λ y. option_map (λ ls. y ∷ ls) (literals_read names t (values (drop (i + 1) vs)))) x)

    literals_turn : with_first (literal_read names t (value (slice_index_or vs i d))) ≡ literals_read names t (values vs)
    literals_turn = sym (at_drop_more (λ xs. before done (literals_read names t (values xs))) vs i d l) ∙ h

    pub literals_fail : None ≡ literal_read names t (value (slice_index_or vs i d)) → None ≡ literals_read names t (values vs)
    literals_fail e = ap with_first e ∙ literals_turn

    pub literals_more : (x : Literal) → Some (literal_view x) ≡ literal_read names t (value (slice_index_or vs i d)) → LeftLiterals (i + 1) (done ++ x ∷ [])
    literals_more x e = by (literals_read names t (values (drop (i + 1) vs))) ∙ (ap with_first e ∙ literals_turn)
      where
        by : (r : Option (List LiteralView)) → before (done ++ x ∷ []) r ≡ before done (option_map (λ ls. literal_view x ∷ ls) r)
        by None = refl
        by (Some ls) = ap Some (ap (λ ys. ys ++ ls) (map-append literal_view done (x ∷ [])) ∙ append_assoc (literals_view done) (literal_view x ∷ []) ls)
