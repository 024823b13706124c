-- A region's words while they are lent to be written.
use Rattle.std.specs.Prelude.{ℕ, List}
use Rattle.std.specs.Borrow.{Lends, MutBor, Fml, Array, u16}
use Rattle.st_cells.specs.declared.region.Region.{Region}
use Rattle.st_cells.specs.contracts.region.Region.{the_row}

-- the region with these words
abbrev pub with_words : Region → List ℕ → Region
with_words r ws = record { at = r.at; len = r.len; alloc = r.alloc; words = ws }

-- the region ends with the words that stand last behind the slice
abbrev pub LendsWords : MutBor Region → MutBor (List ℕ) → Fml
LendsWords r s = Lends the_row (Array u16 0) r s (with_words r.now)
