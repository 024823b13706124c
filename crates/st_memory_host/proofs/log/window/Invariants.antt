use Rattle.std.proofs.Common.{◌≡◌, length, List, ℕ, Option, None}
use Rattle.st_host.specs.Files.{bytes_of, length_of}
use Rattle.st_memory_host.specs.inside.Log.{arena_size, file_of, IsWindow}
use Rattle.st_memory_host.proofs.log.window.Given as goal

abbrev pub invariant-loop-log : goal.invariant-loop-log
invariant-loop-log l = record {
  size : arena_size l.log ≡ length l.arena;
  file : Option (List ℕ);
  length : length_of file ≡ l.length;
  window : IsWindow (bytes_of file) l.at l.into;
  same : file_of file l.log l.arena l.name ≡ file_of None l.fn.log l.fn.arena l.name;
}

abbrev pub decreases-loop-log : goal.decreases-loop-log
decreases-loop-log l = length l.log
