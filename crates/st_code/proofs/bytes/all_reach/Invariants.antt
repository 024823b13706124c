use Rattle.std.proofs.Common.{◌≡◌, drop}
use Rattle.st_emit.specs.Steps.{all_reach}
use Rattle.st_code.proofs.bytes.all_reach.Given as goal

abbrev pub invariant-loop-step : goal.invariant-loop-step
invariant-loop-step l = all_reach (drop l.step-index l.steps) ≡ all_reach l.steps
