use Rattle.std.proofs.Common.{◌+◌, ◌-◌, ◌/◌, take, Ok}
use Rattle.st_host.specs.declared.host.SayFault.{SayFault}
use Rattle.st_model.specs.Text.{objects_text}
use Rattle.st_call.specs.inside.Saying.{Pushes}
use Rattle.st_call.proofs.objects.push_objects.Given as goal

-- the lines of the objects so far were added
abbrev pub invariant-loop-o : goal.invariant-loop-o
invariant-loop-o g l =
    let lines = objects_text 0 (take (l.after / 2 + 1) (g.M.Memory.view l.m).objects) in
    Pushes {E = SayFault} g.H.Host lines l.initial.host l.host l.initial.out l.out (Ok tt)

abbrev pub decreases-loop-o : goal.decreases-loop-o
decreases-loop-o g l = 65536 - l.after
