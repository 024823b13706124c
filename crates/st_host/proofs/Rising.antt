-- A count that rose in a part of a run rose in the whole.
use Rattle.std.proofs.Common.{ℕ, ◌≤◌, Result, inl, inr, ⊎_elim, refl, arith}
use Rattle.std.specs.Prelude.{Ok, Err, OnOk}
use Rattle.std.proofs.lemmas.Bool.{cases_lt}
use Rattle.st_host.specs.Counts.{Rose, HasCause}

pub rose_first : (a b c : ℕ) → a ≤ b → b ≤ c → Rose a b → Rose a c
rose_first a b c low high (inl less) = inl (omega arith)
rose_first a b c low high (inr top) = ⊎_elim (λ less. inl (omega arith)) (λ le. inr (omega arith)) (cases_lt b c)

pub rose_second : (a b c : ℕ) → a ≤ b → Rose b c → Rose a c
rose_second a b c low (inl less) = inl (omega arith)
rose_second a b c low (inr top) = inr top

-- the cause of an error at the end of a run
pub cause_after : {T E : Type 0} (a b c : ℕ) (result : Result T E) → a ≤ b → HasCause b c result → HasCause a c result
cause_after a b c result low cause = record { later = omega (arith, cause.later); rose = λ err. rose_second a b c low (cause.rose err) }

-- what holds of a run that succeeded holds where its count didn't rise
pub held_unless : {T E P : Type 0} (a b : ℕ) (result : Result T E) → HasCause a b result → OnOk result P → (Rose a b → ⊥) → P
held_unless a b (Ok x) cause holds calm = holds
held_unless a b (Err e) cause holds calm = absurd (calm (cause.rose refl))
