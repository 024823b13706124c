-- Objects that a row makes, as its draft notes them.
use Rattle.std.specs.Prelude.{ℕ, ◌+◌, ◌/◌, Some, [], ◌∷◌, ⊤}
use Rattle.st_model.specs.declared.kind.Kind.{Kind}
use Rattle.st_model.specs.Values.{Value, Small, Ref}
use Rattle.st_model.specs.Objects.{Object}
use Rattle.st_model.specs.Formed.{fresh, IsMakeable}
use Rattle.st_model.specs.Storage.{body_words}
use Rattle.st_model.specs.Table.{Table}
use Rattle.st_memory.specs.declared.made.Made.{Made}

-- an object of this kind, size and number of literals may be made of this class; of a SmallInteger none is made
abbrev pub CanMake : Value → Kind → ℕ → ℕ → Type 0
CanMake (Small n) k size literals = ⊤
CanMake (Ref class) k size literals = IsMakeable class k size literals

-- How many changes an object counts as that is made: one, and one more for each 2,048 words of its body. So as many entries as
-- changes, and 2,050 words for each, are room for whatever is made.
abbrev pub making_changes : Kind → ℕ → ℕ
making_changes kind size = 1 + body_words kind size / 2048

-- the new object
abbrev pub made_object : Made → Object
made_object m = fresh (m.class.0 / 2) m.kind m.size m.literals

abbrev pub IsMade : Made → Type 0
IsMade m = IsMakeable (m.class.0 / 2) m.kind m.size m.literals

-- a table with this object alone, under name 0
abbrev pub alone : Object → Table
alone o = Some o ∷ []
