-- The next bytecode is fetched, and then its row is done.
use Rattle.std.proofs.Common.{◌≡◌, ℕ, ap}
use Rattle.st_model.specs.declared.dead.Dead.{Dead}
use Rattle.st_model.specs.Decoded.{decoded}
use Rattle.st_model.specs.Machine.{State, Transition, Died, Went, after, ◌>>=◌}
use Rattle.st_model.specs.Steps.{next_byte}
use Rattle.st_model.specs.Table.{Table, table}
use Rattle.st_model.specs.Bytecodes.{bytecode, step}

pub fetch_dies : (s : State Table) (cause : Dead) → (next_byte table).run s ≡ Died cause → (step table).run s ≡ Died cause
unfolding step ◌>>=◌ after
fetch_dies s cause e = ap (λ (x : Transition (State Table) ℕ). after x (λ b t. (bytecode table (decoded b)).run t)) e

pub fetch_goes : (s t : State Table) (b : ℕ) → (next_byte table).run s ≡ Went b t → (step table).run s ≡ (bytecode table (decoded b)).run t
unfolding step ◌>>=◌ after
fetch_goes s t b e = ap (λ (x : Transition (State Table) ℕ). after x (λ a u. (bytecode table (decoded a)).run u)) e
