use Rattle.st_draft.specs.inside.Bearing.{IsNumberOf}
use Rattle.st_draft.proofs.draft.Draft.number_of.Given as goal

abbrev pub invariant-loop-before : goal.invariant-loop-before
invariant-loop-before g l = IsNumberOf (g.M.Memory.view l.self.base.now).objects l.self.notes.made_count l.before l.number
