use Rattle.std.proofs.Common.{◌≡◌, ◌-◌, ◌≤◌, length, take, drop, IsTrue}
use Rattle.st_host.specs.Files.{bytes_of}
use Rattle.st_host.specs.Runs.{ReadsAlike, OnlyReads, ChangesOneFile}
use Rattle.st_host.proofs.reads.read_from.Given as goal

abbrev pub invariant-loop-done : goal.invariant-loop-done
invariant-loop-done g l = record {
  bound : l.done ≤ length l.into;
  within : IsTrue g.H.Host.is_told → l.done ≤ length (bytes_of (g.H.Host.files l.initial.host l.name)) - l.at;
  bytes : IsTrue g.H.Host.is_told → take l.done l.into ≡ take l.done (drop l.at (bytes_of (g.H.Host.files l.initial.host l.name)));
  alike : ReadsAlike g.H.Host l.initial.host l.host;
  reads : OnlyReads g.H.Host l.initial.host l.host;
  changes : ChangesOneFile g.H.Host l.name l.initial.host l.host;
}

abbrev pub decreases-loop-done : goal.decreases-loop-done
decreases-loop-done g l = length l.into - l.done
