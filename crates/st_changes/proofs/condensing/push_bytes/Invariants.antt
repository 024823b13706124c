use Rattle.std.proofs.Common.{◌≡◌, ◌≤◌, ◌+◌, ◌-◌, length, take, Ok}
use Rattle.st_host.specs.declared.host.HostFault.{HostFault}
use Rattle.st_host.specs.inside.Pieces.{end_of, Pushes}
use Rattle.st_changes.proofs.condensing.push_bytes.Given as goal

abbrev pub invariant-pushed : goal.invariant-pushed
invariant-pushed g l = record {
  pushes : Pushes {E = HostFault} g.H.Host l.name (take l.at l.bytes) l.initial.host l.host l.initial.piece l.piece (Ok tt);
  end : end_of l.piece ≡ end_of l.initial.piece + l.at;
  within : l.at ≤ length l.bytes;
}

abbrev pub decreases-pushed : goal.decreases-pushed
decreases-pushed g l = length l.bytes - l.at
