use Rattle.std.proofs.Common.{take, Ok}
use Rattle.st_host.specs.declared.host.SayFault.{SayFault}
use Rattle.st_model.specs.Values.{value}
use Rattle.st_model.specs.View.{object_of}
use Rattle.st_model.specs.Text.{values_text}
use Rattle.st_call.specs.inside.Saying.{Pushes}
use Rattle.st_call.proofs.objects.push_fields.Given as goal

-- the fields so far were added
abbrev pub invariant-loop-i : goal.invariant-loop-i
invariant-loop-i g l =
    let fields = (object_of (g.M.Memory.view l.m).objects (value l.o)).fields in
    Pushes {E = SayFault} g.H.Host (values_text (take l.i fields)) l.initial.host l.host l.initial.out l.out (Ok tt)
