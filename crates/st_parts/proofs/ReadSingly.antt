-- A literal of a method, by its key or its contents.
use Rattle.std.proofs.Common.{◌≡◌, ℕ, Bool, true, false, List, Option, Some, None, refl, sym, ap, ap₂, ◌∙◌}
use Rattle.std.specs.Prelude.{if◌then◌else◌}
use Rattle.st_model.specs.declared.oop.Oop.{Oop}
use Rattle.st_model.specs.Values.{Value, value}
use Rattle.st_model.specs.Table.{Table}
use Rattle.st_emit.specs.Names.{NamesView}
use Rattle.st_emit.specs.Literals.{LiteralView, named}
use Rattle.st_parts.specs.Keys.{word_of, key_in, is_named_by}
use Rattle.st_parts.specs.Contents.{contents, most_deep}
use Rattle.st_parts.specs.Parts.{literal_read}
use Rattle.st_parts.proofs.Taking.{word_is}

module _ (names : NamesView) (t : Table) (v : Oop) (key : Option (List ℕ)) (k : key ≡ key_in t (value v)) where
  by_test : (b : Bool) → is_named_by names key v.0 ≡ b → literal_read names t (value v) ≡ (if b then Some (named (word_of (value v))) else contents most_deep t (value v))
  by_test b e =
      ap (λ (c : Bool). if c then Some (named (word_of (value v))) else contents most_deep t (value v))
      (ap₂ (is_named_by names) (sym k) (word_is v.0) ∙ e)

  pub read_named : is_named_by names key v.0 ≡ true → Some (named v.0) ≡ literal_read names t (value v)
  read_named e = sym (by_test true e ∙ ap (λ (w : ℕ). Some (named w)) (word_is v.0))

  pub read_contents : is_named_by names key v.0 ≡ false → (r : Option LiteralView) → r ≡ contents most_deep t (value v) → r ≡ literal_read names t (value v)
  read_contents e r h = h ∙ sym (by_test false e)
