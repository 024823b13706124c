-- Where a session stands between two requests.
use Rattle.st_model.specs.declared.dead.Dead.{Dead}
use Rattle.st_model.specs.Machine.{State}
use Rattle.st_model.specs.Births.{Births}

-- the machine: a state over births, or the cause of which it is dead
pub data Being : Type 0 where
  Alive : State Births → Being
  Gone : Dead → Being

-- and what is kept
pub record Point (C : Type 0) : Type 0 where
  pub being : Being
  pub kept : C

abbrev pub alive : {C : Type 0} → State Births → C → Point C
alive s c = record { being = Alive s; kept = c }

abbrev pub gone : {C : Type 0} → Dead → C → Point C
gone cause c = record { being = Gone cause; kept = c }
