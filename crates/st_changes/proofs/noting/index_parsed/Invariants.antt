use Rattle.std.proofs.Common.{take}
use Rattle.st_changes.specs.inside.Views.{definitions_of}
use Rattle.st_changes.specs.inside.IndexStates.{found}
use Rattle.st_changes.specs.Last.{Answers}
use Rattle.st_changes.proofs.noting.index_parsed.Given as goal

abbrev pub invariant-loop-number : goal.invariant-loop-number
invariant-loop-number l = Answers (definitions_of (take l.number l.listed)) (found l.index)
