use Rattle.std.proofs.Common.{◌≡◌, length, take, Ok}
use Rattle.st_host.specs.declared.host.HostFault.{HostFault}
use Rattle.st_host.specs.inside.Pieces.{Pushes}
use Rattle.st_chunk.specs.Definitions.{entries}
use Rattle.st_changes.specs.inside.Views.{definitions_of}
use Rattle.st_changes.specs.Condensing.{kept_by}
use Rattle.st_changes.proofs.condensing.push_kept.Given as goal

abbrev pub invariant-loop-i : goal.invariant-loop-i
invariant-loop-i g l = record {
  pushes : Pushes {E = HostFault} g.H.Host l.name (entries (kept_by l.marks (definitions_of (take l.i l.listed)))) l.initial.host l.host l.initial.piece l.piece (Ok tt);
  bytes : l.bytes ≡ length (entries (kept_by l.marks (definitions_of (take l.i l.listed))));
  count : l.count ≡ length (kept_by l.marks (definitions_of (take l.i l.listed)));
}
