-- An association has one key, so what is named by its key has one name.
use Rattle.std.proofs.Common.{◌≡◌, ℕ, Bool, true, false, List, [], ◌∷◌, Option, Some, None, refl, sym, ap, ◌∙◌, arith}
use Rattle.std.specs.Prelude.{option_map, bytes_eq, if◌then◌else◌}
use Rattle.std.specs.List.{find}
use Rattle.std.specs.Cmp.Lexicographic.{bytes_decides}
use Rattle.st_model.specs.Values.{Value, Small, Ref}
use Rattle.st_model.specs.Table.{Table}
use Rattle.st_emit.specs.Names.{NamesView, SharedName}
use Rattle.st_parts.specs.Keys.{word_of, key_in, is_named_by, with_named, named_among, names_for, HasOneName}
use Rattle.st_parts.specs.inside.Kept.{named_as}

word_one : (v w : Value) → word_of v ≡ word_of w → v ≡ w
word_one (Small n) (Small m) e = let q : n ≡ m = omega (arith, e) in ap Small q
word_one (Small n) (Ref m) e = absurd (omega (arith, e))
word_one (Ref n) (Small m) e = absurd (omega (arith, e))
word_one (Ref n) (Ref m) e = let q : n ≡ m = omega (arith, e) in ap Ref q

-- the value whose key this is, and which has this word
record HasKey (t : Table) (text : List ℕ) (p : ℕ) : Type 0 where
  v : Value
  key : key_in t v ≡ Some text
  word : word_of v ≡ p

module _ (t : Table) where
  abbrev Keyed : List SharedName → Type 0
  Keyed ss = (text : List ℕ) (p : ℕ) → named_as ss text ≡ Some p → HasKey t text p

  none_keyed : Keyed []
  none_keyed text p e = absurd cc

  one_keyed : (v : Value) (ss : List SharedName) (key : Option (List ℕ)) → key_in t v ≡ key → Keyed ss → Keyed (with_named key (word_of v) ss)
  one_keyed v ss None e h text p f = h text p f
  one_keyed v ss (Some key) e h text p f = by (bytes_eq key text) refl f
    where
      this : bytes_eq key text ≡ true → word_of v ≡ p → HasKey t text p
      this b w = record { v = v; key = e ∙ ap (λ (k : List ℕ). Some k) ((bytes_decides key text).0 b); word = w }

      by : (b : Bool) → bytes_eq key text ≡ b → option_map (λ (s : SharedName). s.association) (if b then Some (record { text = key; association = word_of v }) else find (λ s. bytes_eq s.text text) ss) ≡ Some p → HasKey t text p
      by true b f = this b cc
      by false b f = h text p f

  module _ (names : NamesView) where
    more_keyed : (ss : List SharedName) (vs : List Value) → Keyed ss → Keyed (named_among names t ss vs)
    more_keyed ss [] h = h
    more_keyed ss (v ∷ vs) h = more_keyed (if is_named_by names (key_in t v) (word_of v) then with_named (key_in t v) (word_of v) ss else ss) vs (by (is_named_by names (key_in t v) (word_of v)))
      where
        by : (b : Bool) → Keyed (if b then with_named (key_in t v) (word_of v) ss else ss)
        by true = one_keyed v ss (key_in t v) refl h
        by false = h

    pub one_name : (vs : List Value) → HasOneName (names_for t vs names)
    one_name vs s u p e f =
        let a = more_keyed [] vs none_keyed s p e in
        let b = more_keyed [] vs none_keyed u p f in
        same a b (word_one a.v b.v (a.word ∙ sym b.word))
      where
        same : (a : HasKey t s p) (b : HasKey t u p) → a.v ≡ b.v → s ≡ u
        same a b q = let k = sym a.key ∙ (ap (key_in t) q ∙ b.key) in cc
