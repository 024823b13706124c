-- The causes of faults, where a run of calls ends.
use Rattle.std.proofs.Common.{◌≡◌, ℕ, ◌≤◌, Result, IsErr, refl, sym, subst, arith}
use Rattle.std.specs.Prelude.{Err}
use Rattle.st_host.specs.Counts.{Rose, HasCause}
use Rattle.st_host.specs.declared.host.HostFault.{HostFault}
use Rattle.st_host.proofs.Rising.{rose_second}
use Rattle.st_store.specs.Refusals.{FaultHasCause}
use Rattle.st_store.specs.declared.fault.StoreFault.{StoreFault}

-- a, b, c: the counts at first, before the last call, and behind it
module _ {T : Type 0} (a b c : ℕ) (call : Result T HostFault) (fault : HostFault) where
  failed_rose : a ≤ b → call ≡ Err fault → HasCause b c call → Rose a c
  failed_rose low failed cause = rose_second a b c low (cause.rose (subst IsErr (sym failed) refl))

  -- the last call failed
  pub cause_of_call : {R : Type 0} (result : Result R HostFault) → a ≤ b → call ≡ Err fault → HasCause b c call → HasCause a c result
  cause_of_call result low failed cause = record { later = omega (arith, cause.later); rose = λ err. failed_rose low failed cause }

  pub fault_of_call : {R : Type 0} (result : Result R StoreFault) → a ≤ b → call ≡ Err fault → HasCause b c call → FaultHasCause a c result
  fault_of_call result low failed cause = record { later = omega (arith, cause.later); rose = λ disk. failed_rose low failed cause }
