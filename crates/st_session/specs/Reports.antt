-- What is said of a run of which nothing is kept: the lines of its cycles, its end, and what a machine that isn't dead shows then.
use Rattle.std.specs.Prelude.{◌≡◌, ℕ, ◌+◌, ◌-◌, List, [], ◌++◌, Option, Some, None}
use Rattle.st_model.specs.declared.dead.Dead.{Dead}
use Rattle.st_model.specs.Outcomes.{Ending, With, Space}
use Rattle.st_model.specs.Outcomes as outcome
use Rattle.st_model.specs.Machine.{State, Transition, Died, Went}
use Rattle.st_model.specs.Births.{Births, births}
use Rattle.st_model.specs.Cycles.{run, finished}
use Rattle.st_model.specs.Table.{Table}
use Rattle.st_model.specs.Show.{show}
use Rattle.st_model.specs.Text.{ran_text, dead_text, space_text, quit_text, debugger_text, said_value}
use Rattle.st_protocol.specs.Courses.{Course, Goes, Ends, deeds_of, said_of}
use Rattle.st_session.specs.Points.{Being, Alive, Gone, Point}
use Rattle.st_session.specs.Keeping.{keeps_nothing}
use Rattle.st_session.specs.Answers.{run_course}

-- where a run leads of which nothing is kept
abbrev pub Line : Type 0
Line = Course (Unit {0}) (Point (Unit {0}))

-- so many cycles, after others that were finished
abbrev pub cycles : ℕ → ℕ → State Births → Line
cycles n k s = run_course keeps_nothing n k s tt

-- `shows` is what is shown of a machine that isn't dead.
module _ (shows : State Table → List ℕ) where
  -- a dead machine shows nothing
  abbrev pub text_of : Option Dead → State Table → List ℕ
  text_of None c = shows c
  text_of (Some cause) c = []

  abbrev pub being_text : Being → List ℕ
  being_text (Alive s) = shows (show s)
  being_text (Gone cause) = []

  -- what is shown where the run leads
  abbrev pub shown_text : Line → List ℕ
  shown_text (Goes ds p) = being_text p.being
  shown_text (Ends ds status) = []

  abbrev pub line_text : Line → List ℕ
  line_text c = said_of (deeds_of c) ++ shown_text c

  -- what is said of n cycles of the book's machine
  abbrev pub run_text : ℕ → State Births → List ℕ
  run_text n s = line_text (cycles 0 n s)

  -- what is said where so many cycles are finished and k are left, and the machine has come to this
  abbrev pub text_at : ℕ → ℕ → Transition (State Births) Ending → List ℕ
  text_at n k (Died cause) = dead_text n cause
  text_at n k (Went (With outcome.Went) s) = ran_text n ++ shows (show s)
  text_at n k (Went (With outcome.Snapshot) s) = line_text (cycles n k s)
  text_at n k (Went (With outcome.Quit) s) = quit_text n ++ shows (show s)
  text_at n k (Went (With outcome.Debugger) s) = debugger_text n ++ shows (show s)
  text_at n k (Went (With (outcome.Say v)) s) = said_value s.memory v ++ line_text (cycles n k s)
  text_at n k (Went (Space demand left) s) = space_text n demand left ++ shows (show s)

-- what is said of k cycles after n others is what is said where their run ends, by the number that are finished
abbrev pub RunIsSaid : Type 0
RunIsSaid = (shows : State Table → List ℕ) (k n : ℕ) (s : State Births)
    → line_text shows (cycles n k s) ≡ text_at shows (n + finished births k s) (k - finished births k s) (run births k s)
