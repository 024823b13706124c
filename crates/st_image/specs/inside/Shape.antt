-- The numbers by which an object of a shape is placed.
use Rattle.std.specs.Prelude.{ℕ, ◌+◌, ◌-◌, ◌*◌}
use Rattle.st_model.specs.declared.kind.Kind.{Kind}
use Rattle.st_model.specs.declared.kind.Kind.TheVariants as kind

-- its size: fields, words, or all bytes
abbrev pub size_as : Kind → ℕ → ℕ → ℕ
size_as kind.Pointers fields units = fields
size_as kind.Words fields units = units
size_as kind.Bytes fields units = units
size_as kind.Method fields units = 2 * fields + units

-- its literals: the fields of a method but for its header
abbrev pub literals_as : Kind → ℕ → ℕ
literals_as kind.Pointers fields = 0
literals_as kind.Words fields = 0
literals_as kind.Bytes fields = 0
literals_as kind.Method fields = fields - 1
