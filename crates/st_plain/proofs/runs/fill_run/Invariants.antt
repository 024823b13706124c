use Rattle.std.proofs.Common.{◌≡◌, ◌-◌, take, drop, replicate}
use Rattle.st_plain.proofs.runs.fill_run.Given as goal

-- the cells so far
abbrev pub invariant-loop-i : goal.invariant-loop-i
invariant-loop-i g l = record {
  before : take l.at l.list ≡ take l.at l.initial.list;
  run : take (l.i - l.at) (drop l.at l.list) ≡ replicate (l.i - l.at) l.v;
}
