use Rattle.std.proofs.Common.{◌≡◌, ◌++◌, false, drop}
use Rattle.st_grammar.specs.Trees.{undoubled}
use Rattle.st_parse.proofs.literal.undoubled.Given as goal

abbrev pub invariant-loop-byte : goal.invariant-loop-byte
invariant-loop-byte l = l.text.items ++ undoubled l.second (drop l.byte-index l.bytes) ≡ undoubled false l.bytes
