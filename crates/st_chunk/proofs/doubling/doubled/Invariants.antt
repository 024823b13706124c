use Rattle.std.proofs.Common.{◌≡◌, ◌-◌, ◌*◌, ◌≤◌, length, take, IsTrue}
use Rattle.st_host.specs.Files.{IsWritten}
use Rattle.st_chunk.specs.Texts.{doubled}
use Rattle.st_chunk.specs.inside.Writing.{WritesBehind}
use Rattle.st_chunk.proofs.doubling.doubled.Given as goal

abbrev pub invariant-loop-done : goal.invariant-loop-done
invariant-loop-done g l = record {
  within : l.done ≤ length l.text;
  few : l.count ≤ 2 * l.done;
  count : l.count ≡ length (doubled (take l.done l.text));
  written : IsTrue g.H.Host.is_told → IsWritten l.at (doubled (take l.done l.text)) (g.H.Host.files l.fn.host l.name) (g.H.Host.files l.host l.name);
  writes : WritesBehind g.H.Host l.name l.at l.fn.host l.host;
}

abbrev pub decreases-loop-done : goal.decreases-loop-done
decreases-loop-done g l = length l.text - l.done
