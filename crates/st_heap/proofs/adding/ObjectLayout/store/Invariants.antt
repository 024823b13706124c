use Rattle.std.proofs.Common.{◌≡◌, ℕ, ◌<◌, ◌/◌, get_or}
use Rattle.st_heap.specs.inside.Stored.{Takes}
use Rattle.st_heap.specs.inside.Stores.{stored_of, capacity_of}
use Rattle.st_heap.specs.inside.Links.{SameOtherLinks}
use Rattle.st_heap.specs.inside.Fresh.{new_cell}
use Rattle.st_heap.proofs.adding.ObjectLayout.store.Given as goal

-- the first words are written
abbrev pub invariant-loop-i : goal.invariant-loop-i
invariant-loop-i l = record {
  taken : Takes (stored_of l.fn.store) (stored_of l.store) (l.at.0 / 2) l.self.kind l.self.odd l.self.words;
  written : (j : ℕ) → j < l.i → get_or taken.cells j 0 ≡ new_cell l.self j;
  capacity : capacity_of l.store ≡ capacity_of l.fn.store;
  links : SameOtherLinks l.fn.store l.store (l.at.0 / 2);
}
