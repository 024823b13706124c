use Rattle.std.proofs.Common.{◌≡◌, ◌++◌, length, reverse}
use Rattle.st_memory_host.specs.inside.Log.{arena_size, deeds_of}
use Rattle.st_memory_host.specs.inside.Replay.{IsReplay}
use Rattle.st_memory_host.proofs.replay.replayed.Given as goal

abbrev pub invariant-loop-first : goal.invariant-loop-first
invariant-loop-first l = record {
  size : arena_size l.log ≡ length l.arena;
  how : l.replay.how ≡ l.fn.how;
  replayed : IsReplay l.replay;
  whole : reverse (deeds_of l.log l.arena) ++ l.replay.reads.deeds ≡ reverse (deeds_of l.fn.log l.fn.arena);
}

abbrev pub decreases-loop-first : goal.decreases-loop-first
decreases-loop-first l = length l.log
