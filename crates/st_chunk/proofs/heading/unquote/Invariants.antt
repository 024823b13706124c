use Rattle.std.proofs.Common.{◌≡◌, ◌≤◌, ◌+◌, ◌-◌, ℕ, List, ◌++◌, length}
use Rattle.st_chunk.proofs.Quotes.{Goes}
use Rattle.st_chunk.proofs.heading.unquote.Given as goal

-- the bytes so far mean what stands behind what was held
abbrev pub invariant-loop-at : goal.invariant-loop-at
invariant-loop-at l = record {
  done : List ℕ;
  held : l.held ≡ l.fn.held ++ done;
  so_far : Goes l.text done l.at;
  within : l.at ≤ length l.text;
  room : length l.held ≤ length l.fn.held + l.at;
}

abbrev pub decreases-loop-at : goal.decreases-loop-at
decreases-loop-at l = length l.text - l.at
