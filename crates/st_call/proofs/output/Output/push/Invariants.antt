use Rattle.std.proofs.Common.{take, Ok}
use Rattle.st_host.specs.declared.host.SayFault.{SayFault}
use Rattle.st_call.specs.inside.Saying.{Pushes}
use Rattle.st_call.proofs.output.Output.push.Given as goal

-- the bytes so far were added
abbrev pub invariant-loop-byte : goal.invariant-loop-byte
invariant-loop-byte g l = Pushes {E = SayFault} g.H.Host (take l.byte-index l.bytes) l.initial.host l.host l.initial.self l.self (Ok tt)
