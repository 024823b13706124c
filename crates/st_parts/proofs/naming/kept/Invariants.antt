use Rattle.st_emit.specs.inside.NameViews.{names_view}
use Rattle.st_parts.proofs.KeysIn.{LeftKept}
use Rattle.st_parts.proofs.naming.kept.Given as goal

abbrev pub invariant-loop-v : goal.invariant-loop-v
invariant-loop-v g l = LeftKept (names_view l.names) (g.M.Memory.view l.m).objects l.vs l.v-index l.shared.entries
