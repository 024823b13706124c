use Rattle.std.proofs.Common.{◌≡◌, ◌++◌, take}
use Rattle.st_changes.specs.inside.Runs.{doubled_by}
use Rattle.st_changes.proofs.writing.put_doubled.Given as goal

abbrev pub invariant-loop-byte : goal.invariant-loop-byte
invariant-loop-byte l = l.text.items ≡ l.initial.text.items ++ doubled_by l.mark (take l.byte-index l.bytes)
