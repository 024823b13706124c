-- Of what isn't told anything may be said. What is known of a host that tells nothing are its counts.
use Rattle.std.specs.Prelude.{◌≡◌, ℕ, false, IsTrue, Result, OnOk, OnErr}
use Rattle.st_host.specs.Counts.{one_more}
use Rattle.std.proofs.Common.{true≢false, sym}

pub untold : {A : Type 0} → IsTrue false → A
untold told = absurd (true≢false (sym told))

-- an error is counted once, and nothing else is
pub record CountsOnce {T E : Type 0} (before now : ℕ) (result : Result T E) : Type 0 where
  pub ok : OnOk result (now ≡ before)
  pub err : OnErr result (now ≡ one_more before)

-- neither count changes
pub record KeepsCounts (disk say disk_now say_now : ℕ) : Type 0 where
  pub disk_same : disk_now ≡ disk
  pub say_same : say_now ≡ say
