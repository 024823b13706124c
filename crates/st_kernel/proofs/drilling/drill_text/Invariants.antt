use Rattle.std.proofs.Common.{◌≡◌, ◌≤◌, ◌+◌, ◌*◌, ◌++◌, length}
use Rattle.std.specs.List.{flat_map, range_with_len}
use Rattle.st_kernel.specs.Drills.{declarations, class_behind}
use Rattle.st_kernel.proofs.drilling.drill_text.Given as goal

-- the classes up to this number are declared
abbrev pub invariant-loop-number : goal.invariant-loop-number
invariant-loop-number l = record {
  declared : l.text.items ≡ declarations ++ flat_map class_behind (range_with_len 0 l.number);
  short : length l.text.items ≤ 1000 + 100 * l.number;
}
