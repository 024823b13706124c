use Rattle.std.proofs.Common.{◌≡◌, ◌++◌, drop}
use Rattle.st_grammar.specs.Leaves.{leaves_of, leaves_behind}
use Rattle.st_grammar.proofs.leaf.leaves_of.Given as goal

abbrev pub invariant-loop-token : goal.invariant-loop-token
invariant-loop-token l = l.leaves.items ++ leaves_behind l.text l.before (drop l.token-index l.tokens) ≡ leaves_of l.text l.tokens
