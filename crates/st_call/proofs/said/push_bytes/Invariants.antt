use Rattle.std.proofs.Common.{take, Ok}
use Rattle.st_host.specs.declared.host.SayFault.{SayFault}
use Rattle.st_model.specs.Values.{value}
use Rattle.st_model.specs.View.{object_of}
use Rattle.st_model.specs.Text.{escaped}
use Rattle.st_call.specs.inside.Saying.{Pushes}
use Rattle.st_call.proofs.said.push_bytes.Given as goal

-- the bytes so far were added
abbrev pub invariant-loop-i : goal.invariant-loop-i
invariant-loop-i g l =
    let units = (object_of (g.M.Memory.view l.m).objects (value l.o)).units in
    Pushes {E = SayFault} g.H.Host (escaped (take l.i units)) l.initial.host l.host l.initial.out l.out (Ok tt)
