-- What comes before a bytecode, done apart from it.
use Rattle.std.specs.Prelude.{◌≡◌, ℕ, suc, Option, Some, None}
use Rattle.st_model.specs.declared.dead.Dead.{Dead}
use Rattle.st_model.specs.Machine.{State, Transition, Died, Went}
use Rattle.st_model.specs.Births.{Births, births}
use Rattle.st_model.specs.Table.{Table}
use Rattle.st_model.specs.Show.{Shows}
use Rattle.st_model.specs.Cycles.{check_process_switch, cycle, run, finished}

-- the first two parts of the next cycle: all pending signals are made, and the machine switches to a process that waits
abbrev pub prepared : State Births → Transition (State Births) Unit
prepared s = (check_process_switch births).run s

-- both died of one cause, or what the births come to is shown
abbrev pub PreparedAs : Option Dead → State Table → Transition (State Births) Unit → Type 0
PreparedAs None c (Died k) = ⊥
PreparedAs None c (Went u s) = Shows c s
PreparedAs (Some cause) c (Died k) = k ≡ cause
PreparedAs (Some cause) c (Went u s) = ⊥

abbrev pub PreparesFrom : State Table → Option Dead → State Table → Type 0
PreparesFrom first result last = (s : State Births) → Shows first s → PreparedAs result last (prepared s)

-- Done a second time it changes nothing. So a cycle after it is the cycle without it, as is a run of one cycle or more, with as
-- many of them finished.
abbrev pub PreparesOnce : Type 0
PreparesOnce = (s t : State Births) → prepared s ≡ Went tt t → prepared t ≡ Went tt t

abbrev pub CycleGoesOn : Type 0
CycleGoesOn = (s t : State Births) → prepared s ≡ Went tt t → cycle births t ≡ cycle births s

abbrev pub CycleDies : Type 0
CycleDies = (s : State Births) (cause : Dead) → prepared s ≡ Died cause → cycle births s ≡ Died cause

abbrev pub RunGoesOn : Type 0
RunGoesOn = (n : ℕ) (s t : State Births) → prepared s ≡ Went tt t → run births (suc n) t ≡ run births (suc n) s

abbrev pub CountGoesOn : Type 0
CountGoesOn = (n : ℕ) (s t : State Births) → prepared s ≡ Went tt t → finished births (suc n) t ≡ finished births (suc n) s
