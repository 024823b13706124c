use Rattle.st_scan.specs.Views.{statements_view}
use Rattle.st_parts.proofs.KeysIn.{LeftKeys}
use Rattle.st_parts.proofs.naming.keys_mentioned.Given as goal

abbrev pub invariant-loop-v : goal.invariant-loop-v
invariant-loop-v g l = LeftKeys (g.M.Memory.view l.m).objects l.vs l.v-index (statements_view l.statements.items)
