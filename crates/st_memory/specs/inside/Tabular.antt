-- A memory and a draft read, change and name objects as a table does.
use Rattle.std.proofs.Common.{refl}
use Rattle.st_model.specs.Table.{apart, bounded_table, IsTabular}

abbrev pub bounded_tabular : IsTabular bounded_table
bounded_tabular = record { read = refl; replace = refl; exchange = refl; named = refl }

abbrev pub apart_tabular : IsTabular apart
apart_tabular = record { read = refl; replace = refl; exchange = refl; named = refl }
