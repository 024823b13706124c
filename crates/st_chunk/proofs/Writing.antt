-- Writes behind a place of a file.
use Rattle.std.proofs.Common.{ℕ, ◌≤◌, List, length, IsTrue, arith}
use Rattle.st_host.specs.Files.{bytes_of}
use Rattle.st_host.specs.Runs.{Writes}
use Rattle.st_host.specs.declared.host.Host.{Ghosts}
use Rattle.st_host.proofs.Touching.{write_above, above_join}
use Rattle.st_chunk.specs.inside.Writing.{WritesBehind}

module _ {D : Type 0} (host : Ghosts D) (name : List ℕ) where
  -- one write at the place
  pub written_behind : (at n : ℕ) (old new : D) → Writes host name at n old new → WritesBehind host name at old new
  written_behind at n old new writes = record {
    above = λ floor low long. write_above host name floor at n old new low long writes;
  }

  -- one write more, behind the place
  pub write_more : (at place n : ℕ) (old mid new : D) → at ≤ place → (IsTrue host.is_told → length (bytes_of (host.files old name)) ≤ length (bytes_of (host.files mid name)))
      → WritesBehind host name at old mid → Writes host name place n mid new → WritesBehind host name at old new
  write_more at place n old mid new behind grown first writes = record {
    above = λ floor low long. above_join host name floor old mid new (first.above floor low long)
        (write_above host name floor place n mid new (omega arith) (λ told. omega (arith, long told, grown told)) writes);
  }
