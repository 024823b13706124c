use Rattle.std.proofs.Common.{take, Ok}
use Rattle.std.specs.List.{flat_map}
use Rattle.st_host.specs.declared.host.SayFault.{SayFault}
use Rattle.st_call.specs.inside.Saying.{Pushes}
use Rattle.st_browse.specs.Sources.{source_byte}
use Rattle.st_browse.proofs.source.push_source_bytes.Given as goal

-- the bytes so far were added
abbrev pub invariant-loop-byte : goal.invariant-loop-byte
invariant-loop-byte g l = Pushes {E = SayFault} g.H.Host (flat_map source_byte (take l.byte-index l.text)) l.initial.host l.host l.initial.out l.out (Ok tt)
