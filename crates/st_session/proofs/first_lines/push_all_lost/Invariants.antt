use Rattle.std.proofs.Common.{take, Ok}
use Rattle.std.specs.List.{flat_map}
use Rattle.st_host.specs.declared.host.SayFault.{SayFault}
use Rattle.st_call.specs.inside.Saying.{Pushes}
use Rattle.st_recover.specs.inside.Replayings.{losses_of}
use Rattle.st_session.specs.FirstLines.{lost_text}
use Rattle.st_session.proofs.first_lines.push_all_lost.Given as goal

-- the lines so far were added
abbrev pub invariant-loop-each : goal.invariant-loop-each
invariant-loop-each g l = Pushes {E = SayFault} g.H.Host (flat_map lost_text (take l.each-index (losses_of l.lost))) l.initial.host l.host l.initial.out l.out (Ok tt)
