use Rattle.std.proofs.Common.{◌≡◌, ◌++◌, true, drop}
use Rattle.st_emit.specs.Steps.{all_reach, all_bytes}
use Rattle.st_code.proofs.bytes.all_bytes.Given as goal

abbrev pub invariant-loop-step : goal.invariant-loop-step
invariant-loop-step l = record {
  made : l.bytes.items ++ all_bytes (drop l.step-index l.steps) ≡ all_bytes l.steps;
  left : all_reach (drop l.step-index l.steps) ≡ true;
}
