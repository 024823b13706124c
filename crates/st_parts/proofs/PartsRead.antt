-- The parts of a method, of its words and bytes.
use Rattle.std.proofs.Common.{◌≡◌, ℕ, ◌≤◌, List, [], ◌∷◌, length, drop, get_or, Option, refl, sym, ap, ap₂, ◌∙◌, arith}
use Rattle.std.specs.Prelude.{option_map}
use Rattle.st_model.specs.declared.oop.Oop.{Oop}
use Rattle.st_model.specs.Values.{Value, value}
use Rattle.st_model.specs.View.{View, object_of}
use Rattle.st_emit.specs.Names.{NamesView}
use Rattle.st_emit.specs.Literals.{LiteralView}
use Rattle.st_code.specs.Methods.{PartsView}
use Rattle.st_scope.specs.inside.Meanings.{values}
use Rattle.st_parts.specs.Parts.{Place, ending_of, all_read, parts_by, parts_at}
use Rattle.st_parts.proofs.Taking.{word_is}

module _ (names : NamesView) (v : View) (at : Place) (bytes : List ℕ) where
  -- those of a header and literals
  abbrev parts_of : (header : ℕ) → List Value → Option PartsView
  parts_of header vs = option_map (λ (ls : List LiteralView). record { selector = at.selector; header = header; literals = ls; bytes = bytes }) (all_read names v at (ending_of header bytes) vs)

  by_words : (words : List Oop) (d : Oop) → 1 ≤ length words → parts_by names v at (values words) bytes ≡ parts_of (get_or words 0 d).0 (values (drop 1 words))
  by_words [] d l = absurd (omega (arith, l))
  by_words (h ∷ ws) d l = ap (λ (w : ℕ). parts_of w (values ws)) (word_is h.0)

  pub parts_read : (words : List Oop) (d : Oop) → values words ≡ (object_of v.objects at.method).fields → bytes ≡ (object_of v.objects at.method).units → 1 ≤ length words
      → parts_at names v at ≡ parts_of (get_or words 0 d).0 (values (drop 1 words))
  unfolding parts_at
  parts_read words d f u l = sym (ap₂ (parts_by names v at) f u) ∙ by_words words d l

  -- with the literals that were read
  abbrev pub made_of : ℕ → Option (List LiteralView) → Option PartsView
  made_of header ls = option_map (λ (xs : List LiteralView). record { selector = at.selector; header = header; literals = xs; bytes = bytes }) ls

  pub parts_told : (words : List Oop) (d : Oop) → values words ≡ (object_of v.objects at.method).fields → bytes ≡ (object_of v.objects at.method).units → 1 ≤ length words
      → (ls : Option (List LiteralView)) → ls ≡ all_read names v at (ending_of (get_or words 0 d).0 bytes) (values (drop 1 words))
      → (parts : Option PartsView) → parts ≡ made_of (get_or words 0 d).0 ls → parts ≡ parts_at names v at
  parts_told words d f u l ls e parts h = h ∙ (ap (made_of (get_or words 0 d).0) e ∙ sym (parts_read words d f u l))
