-- What the next bytecode makes was foreseen, before anything is done.
use Rattle.std.specs.Prelude.{◌≡◌, false}
use Rattle.st_model.specs.Outcomes.{Outcome}
use Rattle.st_model.specs.Machine.{State, Went, used, is_over}
use Rattle.st_model.specs.Table.{Table, apart}
use Rattle.st_model.specs.Bytecodes.{step}

-- The next bytecode goes on from this state, and the capacities have room for what it makes.
pub record IsForeseen (c : State Table) : Type 0 where
  pub outcome : Outcome
  pub after : State Table
  pub goes : (step apart).run c ≡ Went outcome after
  pub fits : is_over (used apart after.memory) c.head ≡ false
