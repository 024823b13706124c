use Rattle.std.proofs.Common.{◌≡◌, drop}
use Rattle.st_emit.specs.Steps.{sends_super}
use Rattle.st_code.proofs.bytes.sends_super.Given as goal

abbrev pub invariant-loop-step : goal.invariant-loop-step
invariant-loop-step l = sends_super (drop l.step-index l.steps) ≡ sends_super l.steps
