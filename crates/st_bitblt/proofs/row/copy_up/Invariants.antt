use Rattle.std.proofs.Common.{◌-◌, ◌≤◌}
use Rattle.st_model.specs.Values.{value}
use Rattle.st_bitblt.specs.inside.Copied.{Copied, object_of_source}
use Rattle.st_bitblt.proofs.row.copy_up.Given as goal

abbrev pub invariant-loop-done : goal.invariant-loop-done
invariant-loop-done g l = record {
  within : l.done ≤ l.a.n;
  copied : Copied l.rule l.tone (object_of_source l.ends.source) (value l.ends.dest) (g.M.Memory.view l.fn.m) (g.M.Memory.view l.m) l.a.p l.a.q l.done;
}

abbrev pub decreases-loop-done : goal.decreases-loop-done
decreases-loop-done g l = l.a.n - l.done
