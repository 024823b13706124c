-- What variables are called in the tree that is read serves: the method's own are apart, and whatever a text can use is
-- called so that it is meant.
use Rattle.std.proofs.Common.{◌≡◌, ℕ, zero, suc, ◌+◌, ◌==◌, Bool, true, false, not, ◌&&◌, ◌||◌, cond, List, [], ◌∷◌, ◌++◌, map, length, get_or, Option, Some, None, refl, sym, ap, ap₂, ◌∙◌, subst, arith}
use Rattle.std.proofs.lemmas.Bool.{and_parts, eqb-true}
use Rattle.std.proofs.lemmas.Bool.Decides.{nat_tests}
use Rattle.std.proofs.lemmas.Option.{slice_get-map}
use Rattle.std.proofs.lemmas.Slice.Eq.{bytes_eq-Decides}
use Rattle.std.specs.Char.{is_ascii_digit}
use Rattle.std.specs.Prelude.{if◌then◌else◌, is_some, option_map, nat_lt, find, slice_get, bytes_eq, codes}
use Rattle.st_scan.specs.Pieces.{is_name}
use Rattle.st_emit.specs.declared.instruction.Constant.{Constant}
use Rattle.st_emit.specs.declared.instruction.InstructionOperand.{InstructionOperand}
use Rattle.st_emit.specs.declared.instruction.InstructionOperand.TheVariants.{Field, Temporary, Literal, Shared}
use Rattle.st_emit.specs.Names.{NamesView, SharedName, field, shared, constant_named, field_from, if_named, field_named, shared_named, variable_named, or_else}
use Rattle.st_emit.specs.Literals.{LiteralView, named}
use Rattle.st_decompile.specs.inside.Calling.{IsOutside, IsFieldName, IsSharedName, AreNames}
use Rattle.st_expression_stack.specs.Names.{is_usable, unused, usable_or, usable_shared, usable, numbered, own_number, texts_of, texts_in, is_among, is_value, names_value, shared_text, literal_text, calling_of, or_unused, name_in}
use Rattle.st_expression_stack.proofs.OwnNames.{numeral_digits, own_free, own_apart}
use Rattle.st_decompile.proofs.Words.{Agree}
use Rattle.st_decompile.proofs.ReadTrees.{AreWords}

-- TEXTS

same_bytes : (s t : List ℕ) → bytes_eq s t ≡ true → s ≡ t
same_bytes s t e = (bytes_eq-Decides s t).0 e

bytes_same : (s t : List ℕ) → s ≡ t → bytes_eq s t ≡ true
bytes_same s t e = (bytes_eq-Decides s t).1 e

-- texts that differ in what is made of them are two
differs : {A : Type 0} (f : List ℕ → A) (s t : List ℕ) → (f s ≡ f t → ⊥) → bytes_eq s t ≡ false
differs f s t h = by_test (bytes_eq s t) refl
  where
    by_test : (b : Bool) → bytes_eq s t ≡ b → b ≡ false
    by_test false e = refl
    by_test true e = absurd (h (ap f (same_bytes s t e)))

-- a name, and none of super
pub record IsWord (text : List ℕ) : Type 0 where
  pub name : is_name text ≡ true
  pub other : bytes_eq text (codes "super") ≡ false

word_usable : (text : List ℕ) → is_usable text ≡ true → IsWord text
word_usable text u =
    let parts = and_parts (is_name text) (not (is_some (constant_named text))) u in
    record { name = parts.0; other = differs is_usable text (codes "super") (λ e. let no : true ≡ false = sym u ∙ e in absurd cc) }

word_unused : IsWord unused
word_unused = record { name = refl; other = refl }

word_or : (text : List ℕ) → IsWord (usable_or text)
word_or text = by_test (is_usable text) refl
  where
    by_test : (b : Bool) → is_usable text ≡ b → IsWord (if b then text else unused)
    by_test true e = word_usable text e
    by_test false e = word_unused

word_field : (ts : List (List ℕ)) (n : ℕ) → IsWord (or_unused (slice_get (map usable_or ts) n))
word_field [] n = word_unused
word_field (t ∷ ts) zero = word_or t
word_field (t ∷ ts) (suc n) = word_field ts n

no_constant : (text : List ℕ) → is_usable text ≡ true → constant_named text ≡ None
no_constant text u = by_constant (constant_named text) (and_parts (is_name text) (not (is_some (constant_named text))) u).1
  where
    by_constant : (k : Option Constant) → not (is_some k) ≡ true → k ≡ None
    by_constant None e = refl
    by_constant (Some k) e = absurd cc

-- NAMES AGREE

not_usable : (name text : List ℕ) → is_usable text ≡ true → is_usable name ≡ false → bytes_eq name text ≡ false
not_usable name text u v = differs is_usable name text (λ e. let no : false ≡ true = sym v ∙ (e ∙ u) in absurd cc)

field_usable : (fs : List (List ℕ)) (n : ℕ) (text : List ℕ) → is_usable text ≡ true → field_from n fs text ≡ field_from n (map usable_or fs) text
field_usable [] n text u = refl
field_usable (name ∷ fs) n text u = by_test (field_usable fs (n + 1) text u) (is_usable name) refl
  where
    by_test : field_from (n + 1) fs text ≡ field_from (n + 1) (map usable_or fs) text → (b : Bool) → is_usable name ≡ b → (if bytes_eq name text then Some n else field_from (n + 1) fs text) ≡ (if bytes_eq (if b then name else unused) text then Some n else field_from (n + 1) (map usable_or fs) text)
    by_test later true e = ap (λ (o : Option ℕ). if bytes_eq name text then Some n else o) later
    by_test later false e =
        ap₂ (λ (a : Bool) (o : Option ℕ). if a then Some n else o) (not_usable name text u e) later
        ∙ ap (λ (a : Bool). if a then Some n else field_from (n + 1) (map usable_or fs) text) (sym (not_usable unused text u refl))

shared_usable : (ss : List SharedName) (text : List ℕ) → is_usable text ≡ true → find (λ s. bytes_eq s.text text) ss ≡ find (λ s. bytes_eq s.text text) (usable_shared ss)
shared_usable [] text u = refl
shared_usable (s ∷ ss) text u = by_test (shared_usable ss text u) (is_usable s.text) refl
  where
    by_test : find (λ x. bytes_eq x.text text) ss ≡ find (λ x. bytes_eq x.text text) (usable_shared ss) → (b : Bool) → is_usable s.text ≡ b
        → (if bytes_eq s.text text then Some s else find (λ x. bytes_eq x.text text) ss) ≡ find (λ x. bytes_eq x.text text) (if b then s ∷ usable_shared ss else usable_shared ss)
    by_test later true e = ap (λ (o : Option SharedName). if bytes_eq s.text text then Some s else o) later
    by_test later false e = ap₂ (λ (a : Bool) (o : Option SharedName). if a then Some s else o) (not_usable s.text text u e) later

pub usable_agree : (names : NamesView) → Agree names (usable names)
usable_agree names = record {
  fields = λ text u. ap if_named (field_usable names.fields 0 text u);
  shared = λ text u. ap (λ (o : Option SharedName). option_map (λ s. s.association) o) (shared_usable names.shared text u);
  symbols = refl;
}

-- OWN NAMES

-- t and a digit, which none of super, self and the others has
second_digit : (n : ℕ) → is_ascii_digit (get_or (numbered n) 1 0) ≡ true
second_digit n = let d = numeral_digits n in ap (λ (ds : List ℕ). is_ascii_digit (get_or (116 ∷ ds) 1 0)) d.is ∙ d.digit

numbered_other : (n : ℕ) (other : List ℕ) → is_ascii_digit (get_or other 1 0) ≡ false → bytes_eq (numbered n) other ≡ false
numbered_other n other f = differs (λ (t : List ℕ). is_ascii_digit (get_or t 1 0)) (numbered n) other (λ e. let no : true ≡ false = sym (second_digit n) ∙ (e ∙ f) in absurd cc)

numbered_constant : (n : ℕ) → constant_named (numbered n) ≡ None
numbered_constant n =
    rw (numbered_other n (codes "self") refl) (rw (numbered_other n (codes "super") refl) (rw (numbered_other n (codes "true") refl)
    (rw (numbered_other n (codes "false") refl) (rw (numbered_other n (codes "nil") refl) (rw (numbered_other n (codes "thisContext") refl) refl)))))

numbered_word : (n : ℕ) → IsWord (numbered n)
numbered_word n = record { name = (numeral_digits n).all; other = numbered_other n (codes "super") refl }

-- FIELDS

record IsAt (fs : List (List ℕ)) (i n : ℕ) (text : List ℕ) : Type 0 where
  pub at : ℕ
  pub same : n ≡ i + at
  pub is : slice_get fs at ≡ Some text

field_at : (fs : List (List ℕ)) (i n : ℕ) (text : List ℕ) → field_from i fs text ≡ Some n → IsAt fs i n text
field_at [] i n text e = absurd cc
field_at (f ∷ fs) i n text e = by_test (λ h. field_at fs (i + 1) n text h) (bytes_eq f text) refl e
  where
    by_test : (field_from (i + 1) fs text ≡ Some n → IsAt fs (i + 1) n text) → (b : Bool) → bytes_eq f text ≡ b → (if b then Some i else field_from (i + 1) fs text) ≡ Some n → IsAt (f ∷ fs) i n text
    by_test later true t h =
        let same : i ≡ n = cc in
        record { at = 0; same = omega (arith, same); is = ap (λ (x : List ℕ). Some x) (same_bytes f text t) }
    by_test later false t h = let r = later h in record { at = suc r.at; same = omega (arith, r.same); is = r.is }

named_is : (o : Option ℕ) (n : ℕ) → if_named o ≡ Some n → o ≡ Some n
named_is None n e = absurd cc
named_is (Some k) n e = by_test (nat_lt k 64) refl e
  where
    by_test : (b : Bool) → nat_lt k 64 ≡ b → (if b then Some k else None) ≡ Some n → Some k ≡ Some n
    by_test true t h = h
    by_test false t h = absurd cc

among_self : (text : List ℕ) (ts : List (List ℕ)) → is_among (text ∷ ts) text ≡ true
among_self text ts = ap (λ (b : Bool). b || is_among ts text) (bytes_same text text refl)

among_more : (t text : List ℕ) (ts : List (List ℕ)) → is_among ts text ≡ true → is_among (t ∷ ts) text ≡ true
among_more t text ts h = by_test (bytes_eq t text)
  where
    by_test : (b : Bool) → (b || is_among ts text) ≡ true
    by_test true = refl
    by_test false = h

among_first : (xs ys : List (List ℕ)) (text : List ℕ) → is_among xs text ≡ true → is_among (xs ++ ys) text ≡ true
among_first [] ys text h = absurd cc
among_first (x ∷ xs) ys text h = by_test (bytes_eq x text) h (λ k. among_first xs ys text k)
  where
    by_test : (b : Bool) → (b || is_among xs text) ≡ true → (is_among xs text ≡ true → is_among (xs ++ ys) text ≡ true) → (b || is_among (xs ++ ys) text) ≡ true
    by_test true h k = refl
    by_test false h k = k h

among_second : (xs ys : List (List ℕ)) (text : List ℕ) → is_among ys text ≡ true → is_among (xs ++ ys) text ≡ true
among_second [] ys text h = h
among_second (x ∷ xs) ys text h = among_more x text (xs ++ ys) (among_second xs ys text h)

-- what a field is called is its name, unless no text can use that
field_among : (fs : List (List ℕ)) (j : ℕ) (text : List ℕ) → constant_named text ≡ None → slice_get (map usable_or fs) j ≡ Some text → is_among fs text ≡ true
field_among [] j text c e = absurd cc
field_among (f ∷ fs) zero text c e = by_test (is_usable f) (let is : usable_or f ≡ text = cc in is)
  where
    by_test : (b : Bool) → (if b then f else unused) ≡ text → is_among (f ∷ fs) text ≡ true
    by_test true h = subst (λ (t : List ℕ). is_among (f ∷ fs) t ≡ true) h (among_self f fs)
    by_test false h = let no : constant_named unused ≡ None = ap constant_named h ∙ c in absurd cc
field_among (f ∷ fs) (suc j) text c e = among_more f text fs (field_among fs j text c e)

-- SHARED NAMES

-- what names an association is one of the texts
shared_among : (names : NamesView) (a : ℕ) (ts : List (List ℕ)) → is_usable (shared_text names a ts) ≡ true → is_among ts (shared_text names a ts) ≡ true
shared_among names a [] u = let no : false ≡ true = u in absurd cc
shared_among names a (t ∷ ts) u = by_test (names_value names t a) u (λ k. shared_among names a ts k)
  where
    by_test : (b : Bool) → is_usable (if b then t else shared_text names a ts) ≡ true → (is_usable (shared_text names a ts) ≡ true → is_among ts (shared_text names a ts) ≡ true)
        → is_among (t ∷ ts) (if b then t else shared_text names a ts) ≡ true
    by_test true u later = among_self t ts
    by_test false u later = among_more t (shared_text names a ts) ts (later u)

found_shared : (names : NamesView) (a : ℕ) (ss : List SharedName) (text : List ℕ) (s : SharedName) → names_value names text a ≡ true
    → find (λ x. bytes_eq x.text text) ss ≡ Some s → names_value names (shared_text names a (texts_of ss)) a ≡ true
found_shared names a [] text s v e = absurd cc
found_shared names a (x ∷ ss) text s v e = by_tests (λ i. found_shared names a ss text s v i) (names_value names x.text a) (bytes_eq x.text text) refl refl e
  where
    by_tests : (find (λ y. bytes_eq y.text text) ss ≡ Some s → names_value names (shared_text names a (texts_of ss)) a ≡ true) → (b c : Bool) → names_value names x.text a ≡ b → bytes_eq x.text text ≡ c → (if c then Some x else find (λ y. bytes_eq y.text text) ss) ≡ Some s
        → names_value names (if b then x.text else shared_text names a (texts_of ss)) a ≡ true
    by_tests later true c h t i = h
    by_tests later false true h t i = let no : false ≡ true = sym h ∙ (ap (λ (y : List ℕ). names_value names y a) (same_bytes x.text text t) ∙ v) in absurd cc
    by_tests later false false h t i = later i

found_usable : (ss : List SharedName) (text : List ℕ) (s : SharedName) → find (λ x. bytes_eq x.text text) (usable_shared ss) ≡ Some s → is_usable text ≡ true
found_usable [] text s e = absurd cc
found_usable (x ∷ ss) text s e = by_test (λ h. found_usable ss text s h) (is_usable x.text) refl e
  where
    by_text : (find (λ y. bytes_eq y.text text) (usable_shared ss) ≡ Some s → is_usable text ≡ true) → (c : Bool) → is_usable x.text ≡ true → bytes_eq x.text text ≡ c → cond c (Some x) (find (λ y. bytes_eq y.text text) (usable_shared ss)) ≡ Some s → is_usable text ≡ true
    by_text later true u t h = subst (λ (y : List ℕ). is_usable y ≡ true) (same_bytes x.text text t) u
    by_text later false u t h = later h

    by_test : (find (λ y. bytes_eq y.text text) (usable_shared ss) ≡ Some s → is_usable text ≡ true) → (b : Bool) → is_usable x.text ≡ b → find (λ y. bytes_eq y.text text) (if b then x ∷ usable_shared ss else usable_shared ss) ≡ Some s → is_usable text ≡ true
    by_test later true u h = by_text later (bytes_eq x.text text) u refl h
    by_test later false u h = later h

record IsValue (names : NamesView) (text : List ℕ) (a : ℕ) : Type 0 where
  pub usable : is_usable text ≡ true
  pub no_field : field_named names text ≡ None
  pub shared : shared_named names text ≡ Some a

value_of : (names : NamesView) (text : List ℕ) (a : ℕ) → names_value names text a ≡ true → IsValue names text a
value_of names text a e = by_cases (field_named names text) (shared_named names text) refl refl parts.1
  where
    parts : (is_usable text ≡ true) × (is_value (variable_named names [] text) a ≡ true)
    parts = and_parts (is_usable text) (is_value (variable_named names [] text) a) e

    by_cases : (f s : Option ℕ) → field_named names text ≡ f → shared_named names text ≡ s → is_value (or_else (option_map field f) (option_map shared s)) a ≡ true → IsValue names text a
    by_cases (Some n) s x y h = absurd cc
    by_cases None None x y h = absurd cc
    by_cases None (Some b) x y h = record { usable = parts.0; no_field = x; shared = y ∙ ap (λ (k : ℕ). Some k) (eqb-true b a h) }

same_number : (a : ℕ) → (a == a) ≡ true
same_number a = grind (arith, nat_tests)

is_value_of : (names : NamesView) (text : List ℕ) (a : ℕ) → is_usable text ≡ true → field_named names text ≡ None → shared_named names text ≡ Some a → names_value names text a ≡ true
is_value_of names text a u f s =
    ap₂ (λ (x y : Bool). x && y) u
    (ap₂ (λ (x y : Option ℕ). is_value (or_else (option_map field x) (option_map shared y)) a) f s ∙ same_number a)

word_shared : (names : NamesView) (a : ℕ) (ts : List (List ℕ)) → IsWord (shared_text names a ts)
word_shared names a [] = word_unused
word_shared names a (t ∷ ts) = by_test (word_shared names a ts) (names_value names t a) refl
  where
    by_test : IsWord (shared_text names a ts) → (b : Bool) → names_value names t a ≡ b → IsWord (if b then t else shared_text names a ts)
    by_test later true e = word_usable t (value_of names t a e).usable
    by_test later false e = later

word_literal : (names : NamesView) (l : LiteralView) → IsWord (literal_text names l)
word_literal names (named a) = word_shared names a (texts_of names.shared)
word_literal names (Rattle.st_emit.specs.Literals.number n) = word_unused
word_literal names (Rattle.st_emit.specs.Literals.character b) = word_unused
word_literal names (Rattle.st_emit.specs.Literals.bytes t) = word_unused
word_literal names (Rattle.st_emit.specs.Literals.symbol t) = word_unused
word_literal names (Rattle.st_emit.specs.Literals.array ls) = word_unused
word_literal names Rattle.st_emit.specs.Literals.owner = word_unused

word_literals : (names : NamesView) (ls : List LiteralView) (p : ℕ) → IsWord (or_unused (slice_get (map (literal_text names) ls) p))
word_literals names [] p = word_unused
word_literals names (l ∷ ls) zero = word_literal names l
word_literals names (l ∷ ls) (suc p) = word_literals names ls p

-- ALL OF THEM

module _ (names : NamesView) (literals : List LiteralView) where
  abbrev pub called_by : InstructionOperand → List ℕ
  called_by = name_in (calling_of names literals)

  abbrev taken : List ℕ → Bool
  taken = is_among (texts_in names)

  abbrev count : ℕ
  count = length (texts_in names)

  called_word : (p : InstructionOperand) → IsWord (called_by p)
  called_word (Field n) = word_field names.fields n
  called_word (Temporary k) = numbered_word (own_number taken count k)
  called_word (Literal n) = word_unused
  called_word (Shared p) = word_literals names literals p

  pub are_words : AreWords called_by
  are_words = record { are_names = λ p. (called_word p).name; none_super = λ p. (called_word p).other }

  own_other : (text : List ℕ) → taken text ≡ true → (k : ℕ) → bytes_eq (called_by (Temporary k)) text ≡ false
  own_other text there k = differs taken (called_by (Temporary k)) text (λ e. let no : false ≡ true = sym (own_free (texts_in names) k) ∙ (e ∙ there) in absurd cc)

  outside : (text : List ℕ) → constant_named text ≡ None → taken text ≡ true → IsOutside called_by text
  outside text c there = record { no_constant = c; not_own = own_other text there }

  field_name : (text : List ℕ) (n : ℕ) → constant_named text ≡ None → field_named (usable names) text ≡ Some n → IsFieldName called_by (usable names) n (called_by (Field n))
  field_name text n c e =
      let r = field_at (map usable_or names.fields) 0 n text (named_is (field_from 0 (map usable_or names.fields) text) n e) in
      let same : n ≡ r.at = omega (arith, r.same) in
      let is : slice_get (map usable_or names.fields) n ≡ Some text = ap (slice_get (map usable_or names.fields)) same ∙ r.is in
      subst (λ (t : List ℕ). IsFieldName called_by (usable names) n t) (sym (ap or_unused is))
      (record { outside = outside text c (among_first names.fields (texts_of names.shared) text (field_among names.fields n text c is)); field = e })

  shared_name : (text : List ℕ) (a p : ℕ) → constant_named text ≡ None → field_named (usable names) text ≡ None → shared_named (usable names) text ≡ Some a
      → slice_get literals p ≡ Some (named a) → IsSharedName called_by (usable names) a (called_by (Shared p))
  shared_name text a p c f e l =
      subst (λ (t : List ℕ). IsSharedName called_by (usable names) a t) (sym is)
      (record {
        outside = outside found (no_constant found value.usable) (among_second names.fields (texts_of names.shared) found (shared_among names a (texts_of names.shared) value.usable));
        no_field = sym (agree.fields found value.usable) ∙ value.no_field;
        shared = sym (agree.shared found value.usable) ∙ value.shared;
      })
    where
      agree : Agree names (usable names)
      agree = usable_agree names

      found : List ℕ
      found = shared_text names a (texts_of names.shared)

      is : called_by (Shared p) ≡ found
      is = ap or_unused (slice_get-map (literal_text names) literals p ∙ ap (λ (o : Option LiteralView). option_map (literal_text names) o) l)

      value : IsValue names found a
      value = by_find (find (λ s. bytes_eq s.text text) (usable_shared names.shared)) refl e
        where
          by_find : (o : Option SharedName) → find (λ s. bytes_eq s.text text) (usable_shared names.shared) ≡ o → option_map (λ s. s.association) o ≡ Some a → IsValue names found a
          by_find None x h = absurd cc
          by_find (Some s) x h =
              let u = found_usable names.shared text s x in
              let v = is_value_of names text a u (agree.fields text u ∙ f) (agree.shared text u ∙ e) in
              value_of names found a (found_shared names a names.shared text s v (shared_usable names.shared text u ∙ x))

  pub are_names : AreNames called_by (usable names) literals
  are_names = record {
    own_constant = λ k. numbered_constant (own_number taken count k);
    own_apart = λ j k e. own_apart taken count j k (same_bytes (called_by (Temporary j)) (called_by (Temporary k)) e);
    fields = field_name;
    shared = shared_name;
  }
