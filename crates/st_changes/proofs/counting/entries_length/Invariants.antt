use Rattle.std.proofs.Common.{◌≡◌, length, take}
use Rattle.st_chunk.specs.Definitions.{entries}
use Rattle.st_changes.specs.inside.Views.{definitions_of}
use Rattle.st_changes.proofs.counting.entries_length.Given as goal

abbrev pub invariant-loop-definition : goal.invariant-loop-definition
invariant-loop-definition l = l.end ≡ length (entries (definitions_of (take l.definition-index l.listed)))
