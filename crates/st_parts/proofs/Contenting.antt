-- A literal by its contents, case by case.
use Rattle.std.proofs.Common.{◌≡◌, ℕ, zero, suc, ◌-◌, ◌<◌, Bool, true, false, List, Option, Some, None, refl, sym, ap, ap₂, ◌∙◌, arith}
use Rattle.std.specs.Prelude.{◌==◌, option_map, if◌then◌else◌}
use Rattle.std.specs.Global.{Vec}
use Rattle.st_model.specs.declared.kind.Kind.{Kind}
use Rattle.st_model.specs.declared.kind.Kind.TheVariants.{Pointers, Words, Bytes, Method}
use Rattle.st_model.specs.Values.{Value, is_small}
use Rattle.st_model.specs.Table.{Table}
use Rattle.st_model.specs.View.{is_live, object_of}
use Rattle.st_emit.specs.declared.literal.Literal.{Literal}
use Rattle.st_emit.specs.declared.literal.Literal.TheVariants.{Array}
use Rattle.st_emit.specs.Literals.{LiteralView, LiteralsView, array}
use Rattle.st_emit.specs.inside.Views.{literal_view, members_view}
use Rattle.st_emit.proofs.Members.{array_view}
use Rattle.st_parts.specs.Numbers.{small_number}
use Rattle.st_parts.specs.Contents.{bytes_by, made_by, made_at, arrays_at, members_at, contents, or_character}
use Rattle.st_parts.specs.inside.Readings.{members_if}

-- ARRAYS

module _ (t : Table) (vs : List Value) where
  pub no_arrays : (deep : ℕ) → deep ≡ 0 → None ≡ arrays_at deep t vs
  no_arrays deep e = sym (ap (λ d. arrays_at d t vs) e)

  arrays_are : (deep : ℕ) → 0 < deep → arrays_at deep t vs ≡ option_map array (members_at (deep - 1) t vs)
  arrays_are zero l = absurd (omega (arith, l))
  arrays_are (suc deep) l = let e : deep ≡ suc deep - 1 = omega arith in ap (λ d. option_map array (members_at d t vs)) e

  pub array_made : (deep : ℕ) → 0 < deep → (list : Vec Literal) → members_if (Some list) ≡ members_at (deep - 1) t vs → Some (literal_view (Array list)) ≡ arrays_at deep t vs
  array_made deep l list e = ap Some (array_view list) ∙ (ap (option_map array) e ∙ sym (arrays_are deep l))

  pub array_none : (deep : ℕ) → 0 < deep → members_if None ≡ members_at (deep - 1) t vs → None ≡ arrays_at deep t vs
  array_none deep l e = ap (option_map array) e ∙ sym (arrays_are deep l)

-- BY KIND AND CLASS

module _ (deep : ℕ) (t : Table) (v : Value) where
  abbrev of_kind : Kind → Option LiteralView
  of_kind k = made_by (arrays_at deep t) (object_of t v) k

  pub made_bytes : (n : ℕ) (r : Option Literal) → (object_of t v).kind ≡ Bytes → n ≡ (object_of t v).class → (bs : List ℕ) → bs ≡ (object_of t v).units → option_map literal_view r ≡ bytes_by n bs → option_map literal_view r ≡ made_at deep t v
  made_bytes n r k e bs u h = h ∙ (ap₂ bytes_by e u ∙ sym (ap of_kind k))

  of_class : (b : Bool) → (object_of t v).kind ≡ Pointers → ((object_of t v).class == 8) ≡ b → (if b then arrays_at deep t (object_of t v).fields else None) ≡ made_at deep t v
  of_class b k e = ap (λ (c : Bool). if c then arrays_at deep t (object_of t v).fields else None) (sym e) ∙ sym (ap of_kind k)

  pub made_other : (object_of t v).kind ≡ Pointers → ((object_of t v).class == 8) ≡ false → None ≡ made_at deep t v
  made_other k e = of_class false k e

  pub made_array : (r : Option Literal) (fields : List Value) → (object_of t v).kind ≡ Pointers → ((object_of t v).class == 8) ≡ true → fields ≡ (object_of t v).fields → option_map literal_view r ≡ arrays_at deep t fields → option_map literal_view r ≡ made_at deep t v
  made_array r fields k e f h = h ∙ (ap (arrays_at deep t) f ∙ of_class true k e)

  pub made_words : (object_of t v).kind ≡ Words → None ≡ made_at deep t v
  made_words k = sym (ap of_kind k)

  pub made_method : (object_of t v).kind ≡ Method → None ≡ made_at deep t v
  made_method k = sym (ap of_kind k)

  -- CONTENTS

  abbrev by_small : Bool → Option LiteralView
  by_small b = if b then Some (small_number v) else (if is_live t v then or_character (made_at deep t v) t v else None)

  pub contents_small : is_small v ≡ true → Some (small_number v) ≡ contents deep t v
  contents_small e = sym (ap by_small e)

  pub contents_gone : is_small v ≡ false → is_live t v ≡ false → None ≡ contents deep t v
  contents_gone e l = sym (ap by_small e ∙ ap (λ (b : Bool). if b then or_character (made_at deep t v) t v else None) l)

  pub contents_made : is_small v ≡ false → is_live t v ≡ true → (made : Option LiteralView) (r : Option LiteralView) → made ≡ made_at deep t v → r ≡ or_character made t v → r ≡ contents deep t v
  contents_made e l made r m h = h ∙ (ap (λ x. or_character x t v) m ∙ sym (ap by_small e ∙ ap (λ (b : Bool). if b then or_character (made_at deep t v) t v else None) l))
