use Rattle.std.proofs.Common.{take, drop, Ok}
use Rattle.st_host.specs.declared.host.SayFault.{SayFault}
use Rattle.st_model.specs.Values.{value}
use Rattle.st_model.specs.View.{object_of}
use Rattle.st_model.specs.Text.{numbers_text}
use Rattle.st_call.specs.inside.Saying.{Pushes}
use Rattle.st_browse.proofs.codes.push_units.Given as goal

-- the bytes so far were added
abbrev pub invariant-loop-i : goal.invariant-loop-i
invariant-loop-i g l =
    let units = (object_of (g.M.Memory.view l.m).objects (value l.body.method)).units in
    Pushes {E = SayFault} g.H.Host (numbers_text (take l.i (take l.count (drop l.from units)))) l.initial.host l.host l.initial.out l.out (Ok tt)
