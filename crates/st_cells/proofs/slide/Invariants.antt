use Rattle.std.proofs.Common.{◌≡◌, ℕ, length}
use Rattle.std.specs.Prelude.{slice_index}
use Rattle.st_cells.specs.inside.Words.{slid}
use Rattle.st_cells.proofs.slide.Given as goal

-- k words have come down
abbrev pub invariant-loop-k : goal.invariant-loop-k
invariant-loop-k l = (length l.list ≡ length l.fn.list) × ((i : ℕ) → slice_index l.list i ≡ slid (slice_index l.fn.list) l.from l.to l.k i)
