use Rattle.std.proofs.Common.{◌≡◌, ◌≢◌, ℕ, ◌<◌, length, take}
use Rattle.st_chunk.specs.Definitions.{entries}
use Rattle.st_changes.specs.inside.Views.{definitions_of}
use Rattle.st_changes.proofs.counting.count_before.Given as goal

-- the place stands before none of the definitions so far
abbrev pub invariant-loop-i : goal.invariant-loop-i
invariant-loop-i l = record {
  at : l.at ≡ length (entries (definitions_of (take l.i l.listed)));
  apart : (k : ℕ) → k < l.i → l.place ≢ length (entries (take k (definitions_of l.listed)));
}
