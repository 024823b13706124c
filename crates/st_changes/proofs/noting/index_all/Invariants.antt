use Rattle.std.proofs.Common.{◌+◌, take}
use Rattle.st_changes.specs.inside.Views.{definitions_of}
use Rattle.st_changes.specs.inside.IndexStates.{found}
use Rattle.st_changes.specs.Last.{Answers}
use Rattle.st_changes.proofs.noting.index_all.Given as goal

-- all are indexed up to those whose selectors come next
abbrev pub invariant-loop-i : goal.invariant-loop-i
invariant-loop-i l = Answers (definitions_of (take (l.front + l.i) l.listed)) (found l.index)
