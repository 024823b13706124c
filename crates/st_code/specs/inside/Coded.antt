-- The bytes of one instruction.
use Rattle.std.specs.Prelude.{ℕ, List, [], ◌∷◌}
use Rattle.st_code.specs.declared.bytes.Code.{Code}
use Rattle.st_code.specs.declared.bytes.Code.TheVariants.{One, Two, Three}

abbrev pub code_view : Code → List ℕ
code_view (One a) = a ∷ []
code_view (Two a b) = a ∷ b ∷ []
code_view (Three a b c) = a ∷ b ∷ c ∷ []
