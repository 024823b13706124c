use Rattle.std.proofs.Common.{◌≡◌, ◌+◌, drop}
use Rattle.st_emit.specs.Steps.{size}
use Rattle.st_emit.proofs.draft.Draft.size_from.Given as goal

abbrev pub invariant-loop-step : goal.invariant-loop-step
invariant-loop-step l = l.total + size (drop (l.from + l.step-index) l.self.steps.items) ≡ size (drop l.from l.self.steps.items)
