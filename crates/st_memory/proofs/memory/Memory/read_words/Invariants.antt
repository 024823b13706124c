use Rattle.std.proofs.Common.{◌≡◌, take, drop}
use Rattle.st_model.specs.Values.{value}
use Rattle.st_model.specs.View.{object_of}
use Rattle.st_memory.proofs.memory.Memory.read_words.Given as goal

abbrev pub invariant-loop-i : goal.invariant-loop-i
invariant-loop-i g l = record {
  read : take l.i l.into ≡ take l.i (drop l.at (object_of (g.Self.Memory.view l.fn.self).objects (value l.o)).units);
}
