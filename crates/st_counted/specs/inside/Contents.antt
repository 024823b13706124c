-- What counts contain.
use Rattle.std.specs.Prelude.{ℕ, List, Option}
use Rattle.st_counted.specs.declared.counts.Counts.{Counts}
use Rattle.st_counted.specs.inside.Slots.{counts_in}

-- at each place its count, or none
abbrev pub counts_of : Counts → List (Option ℕ)
counts_of c = counts_in c.counts.items
