use Rattle.std.proofs.Common.{◌-◌, ◌+◌, ◌≤◌}
use Rattle.st_model.specs.Values.{value}
use Rattle.st_bitblt.specs.inside.Copied.{Copied, object_of_source}
use Rattle.st_bitblt.proofs.row.copy_down.Given as goal

abbrev pub invariant-loop-left : goal.invariant-loop-left
invariant-loop-left g l = record {
  within : l.left ≤ l.a.n;
  copied : Copied l.rule l.tone (object_of_source l.ends.source) (value l.ends.dest) (g.M.Memory.view l.fn.m) (g.M.Memory.view l.m) (l.a.p + l.left) (l.a.q + l.left) (l.a.n - l.left);
}

abbrev pub decreases-loop-left : goal.decreases-loop-left
decreases-loop-left g l = l.left
