-- Names that tell no text apart, and what is called by them.
use Rattle.std.specs.Prelude.{◌≡◌, ℕ, List, Some}
use Rattle.st_emit.specs.Names.{NamesView, shared_named}
use Rattle.st_emit.specs.Literals.{LiteralView}
use Rattle.st_expression_stack.specs.Names.{calling_of}

-- each association is the value of one name at most
abbrev pub HasOneName : NamesView → Type 0
HasOneName names = (s t : List ℕ) (a : ℕ) → shared_named names s ≡ Some a → shared_named names t ≡ Some a → s ≡ t

-- the same instance variables, and the same association for each name that is shared
pub record TellAlike (a b : NamesView) : Type 0 where
  pub fields : a.fields ≡ b.fields
  pub shared : (text : List ℕ) → shared_named a text ≡ shared_named b text

-- then variables are called alike
abbrev pub CallAlike : Type 0
CallAlike = (a b : NamesView) → TellAlike a b → HasOneName a → (literals : List LiteralView) → calling_of a literals ≡ calling_of b literals
