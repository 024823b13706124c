use Rattle.std.proofs.Common.{◌≡◌, ◌-◌, take}
use Rattle.st_model.specs.Values.{value}
use Rattle.st_model.specs.Objects.{first_unit}
use Rattle.st_model.specs.View.{object_of}
use Rattle.st_memory.specs.inside.Copied.{with_run}
use Rattle.st_memory.proofs.memory.Memory.write_bytes.Given as goal

abbrev pub invariant-loop-i : goal.invariant-loop-i
invariant-loop-i g l = record {
  objects : (g.Self.Memory.view l.self).objects ≡ with_run (g.Self.Memory.view l.fn.self).objects (value l.o) (l.at - first_unit (object_of (g.Self.Memory.view l.fn.self).objects (value l.o))) (take l.i l.bytes);
  held : (g.Self.Memory.view l.self).held ≡ (g.Self.Memory.view l.fn.self).held;
  head : (g.Self.Memory.view l.self).head ≡ (g.Self.Memory.view l.fn.self).head;
}
