use Rattle.std.proofs.Common.{take, map, Ok}
use Rattle.st_host.specs.declared.host.SayFault.{SayFault}
use Rattle.st_model.specs.Values.{value}
use Rattle.st_model.specs.Text.{values_text}
use Rattle.st_call.specs.inside.Saying.{Pushes}
use Rattle.st_call.proofs.lines.push_values.Given as goal

-- the values so far were added
abbrev pub invariant-loop-o : goal.invariant-loop-o
invariant-loop-o g l = Pushes {E = SayFault} g.H.Host (values_text (take l.o-index (map value l.values))) l.initial.host l.host l.initial.out l.out (Ok tt)
