-- A source in memory as contracts see it, and when its calls fail.
use Rattle.std.specs.Prelude.{◌≡◌, ◌↔◌, ℕ, min, List, length, take, drop, Contains, Result, IsErr, IfOk, OnErr}
use Rattle.st_host.specs.Counts.{one_more}

pub record SourceState : Type 0 where
  -- the bytes that are left
  pub remaining : List ℕ
  -- how many bytes a call gives at most
  pub piece : ℕ
  -- how many calls were made
  pub calls : ℕ
  -- the numbers of the calls that fail
  pub failing : List ℕ
  pub read_faults : ℕ

-- how many bytes the next call gives into a slice of this length
abbrev pub piece_size : SourceState → ℕ → ℕ
piece_size source room = min source.piece (min room (length source.remaining))

-- A call fails just where its number, counted from 1, is one of those that fail. Then it takes nothing.
pub record TakesOrFails {E : Type 0} (into : List ℕ) (old new : SourceState) (result : Result ℕ E) : Type 0 where
  pub fails : IsErr result ↔ Contains old.failing (one_more old.calls)
  pub ok : IfOk result (λ k. (k ≡ piece_size old (length into)) × (take k into ≡ take k old.remaining)
      × (new ≡ record old { remaining = drop k old.remaining; calls = one_more old.calls }))
  pub err : OnErr result (new ≡ record old { calls = one_more old.calls; read_faults = one_more old.read_faults })
