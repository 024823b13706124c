-- The classes that a text declares.
use Rattle.std.specs.Prelude.{ℕ, Bool, true, false, List, [], ◌∷◌, codes, Option, Some, slice_get}
use Rattle.std.specs.Option.{option_map_or}
use Rattle.st_kernel_text.specs.declared.shape.Shape.{Shape}
use Rattle.st_kernel_text.specs.declared.shape.Shape.TheVariants.{Fixed}
use Rattle.st_kernel_text.specs.declared.named.Layout.{Layout}
use Rattle.st_kernel_text.specs.Words.{is_word}
use Rattle.st_kernel_text.specs.Parts.{Part, class}
use Rattle.st_kernel_text.specs.Known.{Names, layout_of}

-- a class by the part that declares it: that part's number, the superclass's name, the shape and number of fields of its instances, and
-- the names of its own variables
pub record Declared : Type 0 where
  pub number : ℕ
  pub above : List ℕ
  pub shape : Shape
  pub variables : List (List ℕ)
  pub fields : ℕ

-- a class that no part declares is a root class without variables
abbrev pub undeclared : Declared
undeclared = record { number = 0; above = codes "nil"; shape = Fixed; variables = []; fields = 0 }

-- the class that this part declares, whose instances have this layout
abbrev pub declared_by : Option Part → Layout → Declared
declared_by (Some (class c)) l = record { number = l.number; above = c.above; shape = l.shape; variables = c.variables; fields = l.fields }
declared_by _ l = undeclared

-- the class of a name that these parts declare
abbrev pub declared_in : List Part → Names → List ℕ → Declared
declared_in ps names name = option_map_or (λ l. declared_by (slice_get ps l.number) l) (layout_of names name) undeclared

abbrev pub is_nil : List ℕ → Bool
is_nil above = is_word (codes "nil") above

-- POOLS

abbrev pub is_none : List (List ℕ) → Bool
is_none [] = true
is_none (name ∷ names) = false

-- some part gives this class a class variable
abbrev pub has_pool : Names → List ℕ → Bool
has_pool names name = option_map_or (λ l. l.shares) (layout_of names name) false
