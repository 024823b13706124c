use Rattle.std.proofs.Common.{◌≡◌, ◌++◌, drop}
use Rattle.st_decompile.specs.inside.Located.{located_from}
use Rattle.st_decompile.proofs.located.locate.Given as goal

abbrev pub invariant-loop-step : goal.invariant-loop-step
invariant-loop-step l = l.located.items ++ located_from l.place (drop l.step-index l.steps) ≡ located_from l.at l.steps
