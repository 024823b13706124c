-- The methods of a kernel text as definitions, which have no category.
use Rattle.std.specs.Prelude.{ℕ, List, [], ◌∷◌, ⊤}
use Rattle.st_chunk.specs.Definitions.{Definition, IsDefinition}
use Rattle.st_kernel_text.specs.Parts.{Side, Part, header, method}

abbrev pub definition_by : Side → (text : List ℕ) → Definition
definition_by side text = record { class = side.class; meta = side.meta; category = []; text = text }

-- each of these methods, of which the first are of this side, has the form of a definition
abbrev pub AreDefinitions : Side → List Part → Type 0
AreDefinitions side [] = ⊤
AreDefinitions side (header named ∷ parts) = AreDefinitions named parts
AreDefinitions side (method text ∷ parts) = IsDefinition (definition_by side text) × AreDefinitions side parts
AreDefinitions side (other ∷ parts) = AreDefinitions side parts
