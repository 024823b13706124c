-- Objects over a memory that they borrow.
use Rattle.std.proofs.Common.{refl}
use Rattle.std.specs.Prelude.{ℕ, None, replicate}
use Rattle.st_model.specs.Table.{table, IsTabular}
use Rattle.st_model.specs.View.{View}

-- What stays of a memory that is borrowed under this name: what is held, the head, and the name, as the length of a table.
abbrev pub fixed_of : View → ℕ → View
fixed_of v name = record { objects = replicate name None; held = v.held; head = v.head }

-- what they do if their memory has room: a table itself
abbrev pub table_tabular : IsTabular table
table_tabular = record { read = refl; replace = refl; exchange = refl; named = refl }
