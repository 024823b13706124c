use Rattle.std.proofs.Common.{◌≡◌, ◌+◌, drop}
use Rattle.st_emit.specs.Selectors.{colons}
use Rattle.st_expression_stack.proofs.sending.colons.Given as goal

abbrev pub invariant-loop-byte : goal.invariant-loop-byte
invariant-loop-byte l = l.count + colons (drop l.byte-index l.text) ≡ colons l.text
