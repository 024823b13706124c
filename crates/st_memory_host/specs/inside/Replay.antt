-- Two hosts: one to which deeds were done again, and one that has what a stop after them leaves.
use Rattle.std.specs.Prelude.{◌≡◌}
use Rattle.st_memory_host.specs.inside.Leave.{deeds_left, host_of}
use Rattle.st_memory_host.specs.declared.replay.Replay.{Replay}

pub record IsReplay (replay : Replay) : Type 0 where
  pub reads : replay.reads ≡ host_of replay.reads.deeds
  pub left : replay.left ≡ host_of (deeds_left replay.how replay.reads.deeds)
