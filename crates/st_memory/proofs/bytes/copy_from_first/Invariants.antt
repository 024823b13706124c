use Rattle.std.proofs.Common.{◌≡◌, ◌≤◌, ◌-◌}
use Rattle.st_model.specs.Values.{value}
use Rattle.st_memory.specs.inside.Copied.{with_bytes_of}
use Rattle.st_memory.proofs.bytes.copy_from_first.Given as goal

abbrev pub invariant-loop-done : goal.invariant-loop-done
invariant-loop-done g l = record {
  few : l.done ≤ l.n;
  objects : (g.M.Memory.view l.m).objects ≡ with_bytes_of (g.M.Memory.view l.fn.m).objects (value l.source) l.from (value l.target) l.to l.done;
  held : (g.M.Memory.view l.m).held ≡ (g.M.Memory.view l.fn.m).held;
  head : (g.M.Memory.view l.m).head ≡ (g.M.Memory.view l.fn.m).head;
}

abbrev pub decreases-loop-done : goal.decreases-loop-done
decreases-loop-done g l = l.n - l.done
