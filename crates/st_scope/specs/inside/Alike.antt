-- When the names of a class tell no text apart.
use Rattle.std.specs.Prelude.{◌≡◌, ℕ, List}
use Rattle.st_emit.specs.Names.{NamesView, shared_named}

-- the same instance variables, the same association for each name that is shared, and a symbol table in both or in neither
pub record SeesAlike (a b : NamesView) : Type 0 where
  pub fields : a.fields ≡ b.fields
  pub shared : (text : List ℕ) → shared_named a text ≡ shared_named b text
  pub symbols : a.symbols ≡ b.symbols
