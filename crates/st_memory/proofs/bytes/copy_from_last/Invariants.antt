use Rattle.std.proofs.Common.{◌≡◌, ◌≤◌, ◌+◌, ◌-◌}
use Rattle.st_model.specs.Values.{value}
use Rattle.st_memory.specs.inside.Copied.{with_bytes_of}
use Rattle.st_memory.proofs.bytes.copy_from_last.Given as goal

abbrev pub invariant-loop-left : goal.invariant-loop-left
invariant-loop-left g l = record {
  few : l.left ≤ l.n;
  objects : (g.M.Memory.view l.m).objects ≡ with_bytes_of (g.M.Memory.view l.fn.m).objects (value l.source) (l.from + l.left) (value l.target) (l.to + l.left) (l.n - l.left);
  held : (g.M.Memory.view l.m).held ≡ (g.M.Memory.view l.fn.m).held;
  head : (g.M.Memory.view l.m).head ≡ (g.M.Memory.view l.fn.m).head;
}

abbrev pub decreases-loop-left : goal.decreases-loop-left
decreases-loop-left g l = l.left
