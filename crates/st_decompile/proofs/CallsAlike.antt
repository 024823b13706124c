-- Names that tell no text apart call variables alike, where each association has one name.
use Rattle.std.proofs.Common.{◌≡◌, ◌⊎◌, inl, inr, ℕ, Bool, true, false, ◌||◌, List, [], ◌∷◌, map, Option, Some, None, refl, sym, ap, ap₂, ◌∙◌, arith}
use Rattle.std.specs.Prelude.{is_some, option_map, find, bytes_eq, if◌then◌else◌, ◌&&◌}
use Rattle.std.proofs.lemmas.Slice.Eq.{bytes_eq-Decides}
use Rattle.std.proofs.lemmas.Bool.Decides.{nat_tests}
use Rattle.st_emit.specs.Names.{NamesView, SharedName, Variable, shared, field, field_named, shared_named, variable_named, or_else}
use Rattle.st_emit.specs.Literals.{LiteralView, number, character, bytes, symbol, array, named, owner}
use Rattle.st_expression_stack.specs.Names.{usable_or, texts_of, texts_in, is_among, names_value, is_value, is_usable, shared_text, literal_text, unused, calling_of}
use Rattle.st_expression_stack.proofs.Kept.{append_among}
use Rattle.st_expression_stack.proofs.OwnNames.{own_alike}
use Rattle.st_decompile.specs.inside.Alike.{HasOneName, TellAlike}

-- LISTED

-- a text is among these names
abbrev Listed : List SharedName → List ℕ → Type 0
Listed ss text = is_some (find (λ s. bytes_eq s.text text) ss) ≡ true

same_text : (s t : List ℕ) → bytes_eq s t ≡ true → s ≡ t
same_text s t e = (bytes_eq-Decides s t).0 e

eq_self : (s : List ℕ) → bytes_eq s s ≡ true
eq_self s = (bytes_eq-Decides s s).1 refl

first_listed : (s : SharedName) (ss : List SharedName) → Listed (s ∷ ss) s.text
first_listed s ss = ap (λ (b : Bool). is_some (if b then Some s else find (λ x. bytes_eq x.text s.text) ss)) (eq_self s.text)

more_listed : (s : SharedName) (ss : List SharedName) (text : List ℕ) → Listed ss text → Listed (s ∷ ss) text
more_listed s ss text h = by (bytes_eq s.text text)
  where
    by : (b : Bool) → is_some (if b then Some s else find (λ x. bytes_eq x.text text) ss) ≡ true
    by true = refl
    by false = h

-- the first of several, or one of the others
listed_parts : (s : SharedName) (ss : List SharedName) (text : List ℕ) → Listed (s ∷ ss) text → (s.text ≡ text) ⊎ Listed ss text
listed_parts s ss text h = by (bytes_eq s.text text) refl h
  where
    by : (b : Bool) → bytes_eq s.text text ≡ b → is_some (if b then Some s else find (λ x. bytes_eq x.text text) ss) ≡ true → (s.text ≡ text) ⊎ Listed ss text
    by true e h = inl (same_text s.text text e)
    by false e h = inr h

none_listed : (text : List ℕ) → Listed [] text → ⊥
none_listed text h = absurd cc

is_found : (names : NamesView) (text : List ℕ) → is_some (shared_named names text) ≡ is_some (find (λ s. bytes_eq s.text text) names.shared)
is_found names text = by (find (λ s. bytes_eq s.text text) names.shared)
  where
    by : (x : Option SharedName) → is_some (option_map (λ s. s.association) x) ≡ is_some x
    by None = refl
    by (Some s) = refl

among_listed : (ss : List SharedName) (text : List ℕ) → is_among (texts_of ss) text ≡ is_some (find (λ s. bytes_eq s.text text) ss)
among_listed [] text = refl
among_listed (s ∷ ss) text = by (bytes_eq s.text text) (among_listed ss text)
  where
    by : (b : Bool) → is_among (texts_of ss) text ≡ is_some (find (λ x. bytes_eq x.text text) ss) → (b || is_among (texts_of ss) text) ≡ is_some (if b then Some s else find (λ x. bytes_eq x.text text) ss)
    by true h = refl
    by false h = h

-- THE NAME OF AN ASSOCIATION

-- the first text that names it
module _ (is : List ℕ → Bool) where
  abbrev first_of : List (List ℕ) → List ℕ
  first_of [] = unused
  first_of (text ∷ texts) = if is text then text else first_of texts

  -- the one that does, where it is among them
  first_one : (ss : List SharedName) (text : List ℕ) → ((s : List ℕ) → is s ≡ true → s ≡ text) → is text ≡ true → Listed ss text → first_of (texts_of ss) ≡ text
  first_one [] text one e h = absurd (none_listed text h)
  first_one (s ∷ ss) text one e h = by (is s.text) refl (λ k. first_one ss text one e k)
    where
      rest : is s.text ≡ false → (Listed ss text → first_of (texts_of ss) ≡ text) → (s.text ≡ text) ⊎ Listed ss text → first_of (texts_of ss) ≡ text
      rest f others (inl q) = let no : true ≡ false = sym e ∙ (ap is (sym q) ∙ f) in absurd cc
      rest f others (inr k) = others k

      by : (b : Bool) → is s.text ≡ b → (Listed ss text → first_of (texts_of ss) ≡ text) → (if b then s.text else first_of (texts_of ss)) ≡ text
      by true f others = one s.text f
      by false f others = rest f others (listed_parts s ss text h)

  -- none of them does
  first_none : (ss : List SharedName) → ((text : List ℕ) → Listed ss text → is text ≡ false) → first_of (texts_of ss) ≡ unused
  first_none [] h = refl
  first_none (s ∷ ss) h = ap (λ (b : Bool). if b then s.text else first_of (texts_of ss)) (h s.text (first_listed s ss)) ∙ first_none ss (λ text k. h text (more_listed s ss text k))

  -- one of them does, or none
  any_of : (ss : List SharedName) → ((text : List ℕ) × (is text ≡ true) × Listed ss text) ⊎ ((text : List ℕ) → Listed ss text → is text ≡ false)
  any_of [] = inr (λ text h. absurd (none_listed text h))
  any_of (s ∷ ss) = by (is s.text) refl (any_of ss)
    where
      none_of : is s.text ≡ false → ((text : List ℕ) → Listed ss text → is text ≡ false) → (text : List ℕ) → (s.text ≡ text) ⊎ Listed ss text → is text ≡ false
      none_of f h text (inl q) = ap is (sym q) ∙ f
      none_of f h text (inr k) = h text k

      by : (b : Bool) → is s.text ≡ b → ((text : List ℕ) × (is text ≡ true) × Listed ss text) ⊎ ((text : List ℕ) → Listed ss text → is text ≡ false)
          → ((text : List ℕ) × (is text ≡ true) × Listed (s ∷ ss) text) ⊎ ((text : List ℕ) → Listed (s ∷ ss) text → is text ≡ false)
      by true f x = inl (s.text, f, first_listed s ss)
      by false f (inl x) = inl (x.0, x.1, more_listed s ss x.0 x.2)
      by false f (inr h) = inr (λ text k. none_of f h text (listed_parts s ss text k))

-- ALIKE

module _ (a b : NamesView) (alike : TellAlike a b) (one : HasOneName a) where
  there : (text : List ℕ) → Listed a.shared text → Listed b.shared text
  there text h = sym (is_found b text) ∙ (ap is_some (sym (alike.shared text)) ∙ (is_found a text ∙ h))

  back : (text : List ℕ) → Listed b.shared text → Listed a.shared text
  back text h = sym (is_found a text) ∙ (ap is_some (alike.shared text) ∙ (is_found b text ∙ h))

  same_shared : (text : List ℕ) → is_among (texts_of a.shared) text ≡ is_among (texts_of b.shared) text
  same_shared text =
      among_listed a.shared text ∙ sym (is_found a text) ∙ ap is_some (alike.shared text) ∙ is_found b text ∙ sym (among_listed b.shared text)

  same_texts : (text : List ℕ) → is_among (texts_in a) text ≡ is_among (texts_in b) text
  same_texts text =
      append_among a.fields (texts_of a.shared) text
      ∙ ap₂ (λ (fs : List (List ℕ)) (c : Bool). is_among fs text || c) alike.fields (same_shared text)
      ∙ sym (append_among b.fields (texts_of b.shared) text)

  same_field : (text : List ℕ) → field_named a text ≡ field_named b text
  same_field text = ap (λ (fs : List (List ℕ)). field_named (record { fields = fs; shared = []; symbols = true }) text) alike.fields

  same_variable : (text : List ℕ) → variable_named a [] text ≡ variable_named b [] text
  same_variable text = ap₂ (λ (x y : Option ℕ). or_else (option_map field x) (option_map shared y)) (same_field text) (alike.shared text)

  module _ (p : ℕ) where
    abbrev names_it : List ℕ → Bool
    names_it text = names_value a text p

    same_value : (text : List ℕ) → names_value a text p ≡ names_value b text p
    same_value text = ap (λ (x : Option Variable). is_usable text && is_value x p) (same_variable text)

    -- who names it is shared, and is the one who does
    named_so : (x y : Option ℕ) (u : Bool) → (u && is_value (or_else (option_map field x) (option_map shared y)) p) ≡ true → y ≡ Some p
    named_so None None true e = absurd cc
    named_so None (Some q) true e = let same : q ≡ p = grind (arith, nat_tests, e) in ap Some same
    named_so (Some n) y true e = absurd cc
    named_so x y false e = absurd cc

    is_shared : (text : List ℕ) → names_it text ≡ true → shared_named a text ≡ Some p
    is_shared text e = named_so (field_named a text) (shared_named a text) (is_usable text) e

    is_listed : (text : List ℕ) → names_it text ≡ true → Listed a.shared text
    is_listed text e = sym (is_found a text) ∙ ap is_some (is_shared text e)

    only : (text : List ℕ) → names_it text ≡ true → (s : List ℕ) → names_it s ≡ true → s ≡ text
    only text e s f = one s text p (is_shared s f) (is_shared text e)

    first_text : (names : NamesView) (ss : List SharedName) → ((text : List ℕ) → names_value names text p ≡ names_it text) → shared_text names p (texts_of ss) ≡ first_of names_it (texts_of ss)
    first_text names [] h = refl
    first_text names (s ∷ ss) h = ap₂ (λ (c : Bool) (rest : List ℕ). if c then s.text else rest) (h s.text) (first_text names ss h)

    first_same : first_of names_it (texts_of a.shared) ≡ first_of names_it (texts_of b.shared)
    first_same = by (any_of names_it a.shared)
      where
        by : ((text : List ℕ) × (names_it text ≡ true) × Listed a.shared text) ⊎ ((text : List ℕ) → Listed a.shared text → names_it text ≡ false) → first_of names_it (texts_of a.shared) ≡ first_of names_it (texts_of b.shared)
        by (inl x) = first_one names_it a.shared x.0 (only x.0 x.1) x.1 x.2 ∙ sym (first_one names_it b.shared x.0 (only x.0 x.1) x.1 (there x.0 x.2))
        by (inr h) = first_none names_it a.shared h ∙ sym (first_none names_it b.shared (λ text k. h text (back text k)))

    text_same : shared_text a p (texts_of a.shared) ≡ shared_text b p (texts_of b.shared)
    text_same = first_text a a.shared (λ text. refl) ∙ (first_same ∙ sym (first_text b b.shared (λ text. sym (same_value text))))

  literal_same : (l : LiteralView) → literal_text a l ≡ literal_text b l
  literal_same (number n) = refl
  literal_same (character c) = refl
  literal_same (bytes t) = refl
  literal_same (symbol t) = refl
  literal_same (array ls) = refl
  literal_same (named p) = text_same p
  literal_same owner = refl

  literals_same : (ls : List LiteralView) → map (literal_text a) ls ≡ map (literal_text b) ls
  literals_same [] = refl
  literals_same (l ∷ ls) = ap₂ (λ (x : List ℕ) (xs : List (List ℕ)). x ∷ xs) (literal_same l) (literals_same ls)

  pub calls_alike : (literals : List LiteralView) → calling_of a literals ≡ calling_of b literals
  calls_alike literals = λ i. record {
    fields = map usable_or (alike.fields i);
    shared = literals_same literals i;
    own = own_alike (texts_in a) (texts_in b) same_texts i;
  }
