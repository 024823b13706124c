use Rattle.std.proofs.Common.{◌≡◌, ◌+◌, length, drop}
use Rattle.st_heap.specs.inside.Blocks.{held, IsTied, IsClosedBelow, IsAbove}
use Rattle.st_heap.specs.inside.Heaps.{blocks_of, Keeps, SameRoom}
use Rattle.st_heap.proofs.heap.Heap.close_up.Given as goal

-- the blocks before place k of the list are closed up
abbrev pub invariant-loop-k : goal.invariant-loop-k
invariant-loop-k l =
    IsTied l.t (blocks_of l.self) × Keeps l.initial.self l.initial.t l.self l.t × SameRoom l.initial.self l.self
    × IsClosedBelow (blocks_of l.self) l.k l.to × IsAbove (blocks_of l.self) l.k l.to
    × (l.to + held (drop l.k (blocks_of l.self)) ≡ held (blocks_of l.initial.self)) × (length (blocks_of l.self) ≡ length (blocks_of l.initial.self))
