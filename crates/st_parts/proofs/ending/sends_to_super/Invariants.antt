use Rattle.std.proofs.Common.{◌≡◌, drop}
use Rattle.st_parts.specs.Parts.{sends_to_super}
use Rattle.st_parts.proofs.Sending.{super_behind}
use Rattle.st_parts.proofs.ending.sends_to_super.Given as goal

abbrev pub invariant-loop-b : goal.invariant-loop-b
invariant-loop-b l = super_behind l.left (drop l.b-index l.bytes) ≡ sends_to_super l.bytes
