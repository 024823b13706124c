use Rattle.st_emit.specs.inside.NameViews.{names_view}
use Rattle.st_parts.proofs.Turns.{LeftLiterals}
use Rattle.st_parts.proofs.parts.literals_of.Given as goal

abbrev pub invariant-loop-v : goal.invariant-loop-v
invariant-loop-v g l = LeftLiterals (names_view l.names) (g.M.Memory.view l.m).objects l.vs l.v-index l.list.items
