-- Registers that are fetched, or of what a step dies that fetches them.
use Rattle.std.proofs.Common.{◌≡◌, Ok, Err, refl, Bool, true, false}
use Rattle.std.specs.Prelude.{Result, IfErr}
use Rattle.st_model.specs.declared.dead.Dead.{Dead}
use Rattle.st_model.specs.declared.dead.Dead.TheVariants as dead
use Rattle.st_model.specs.Values.{Value}
use Rattle.st_model.specs.Machine.{ObjectMemory, Registers, State, Died}
use Rattle.st_model.specs.Contexts.{context_registers, fetch_context_registers}
use Rattle.st_model.specs.Table.{Table}
use Rattle.st_model.specs.Steps.{are_there, set_registers, registers_set}
use Rattle.st_model.specs.inside.Calls.{Reads, itself}
use Rattle.st_model.proofs.Runs.{run-then, after-went, after-died}
use Rattle.st_frames.specs.declared.fetched.Fetched.{Fetched}
use Rattle.st_frames.specs.inside.Rows.{fetched_in}

unset : (q : Registers) (s : State Table) (b : Bool) → b ≡ false → registers_set q s b ≡ Died dead.Kind
unfolding registers_set
unset q s true e = cc
unset q s false e = refl

module _ (m : ObjectMemory Table) (t : Table) (c : Value) where
  -- they aren't read
  pub fetched-unread : (cause : Dead) → Reads (context_registers m c) fetched_in t (Err cause) → Reads (fetch_context_registers m c) itself t (Err cause)
  unfolding fetch_context_registers
  fetched-unread cause k = λ s over. simp (run-then, k s over, after-died) refl

  pub fetched-dead : (r : Result Fetched Dead) → Reads (context_registers m c) fetched_in t r → IfErr r (λ cause. Reads (fetch_context_registers m c) itself t (Err cause))
  fetched-dead (Ok q) h = tt
  fetched-dead (Err cause) h = fetched-unread cause h

  unset_at : (q : Registers) (s : State Table) → are_there m s.memory q ≡ false → (set_registers m q).run s ≡ Died dead.Kind
  unfolding set_registers
  unset_at q s e = unset q s (are_there m s.memory q) e

  -- one of them isn't there
  pub fetched-gone : (q : Fetched) → Reads (context_registers m c) fetched_in t (Ok q) → are_there m t (fetched_in q) ≡ false → Reads (fetch_context_registers m c) itself t (Err dead.Kind)
  unfolding fetch_context_registers
  fetched-gone q k e = λ s over. simp (run-then, k s over, after-went, unset_at (fetched_in q) s (rw over e)) refl

pub ruleset fetches = (fetched-unread, fetched-gone)
