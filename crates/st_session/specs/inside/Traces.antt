-- That a run that is traced does what the run does, and says besides what is seen before its cycles.
use Rattle.std.specs.Prelude.{ℕ, zero, suc, List, [], ◌∷◌, ◌++◌}
use Rattle.st_model.specs.Outcomes.{Ending, With, Space}
use Rattle.st_model.specs.Outcomes as outcome
use Rattle.st_model.specs.Machine.{State, Transition, Died, Went}
use Rattle.st_model.specs.Births.{Births, births}
use Rattle.st_model.specs.Cycles.{cycle}
use Rattle.st_model.specs.Show.{show}
use Rattle.st_machine.specs.Prepared.{prepared}
use Rattle.st_protocol.specs.declared.status.Status.{Status}
use Rattle.st_protocol.specs.Courses.{Deed, Reply, Course, Goes, Ends}
use Rattle.st_debug.specs.Watched.{watched}
use Rattle.st_recover.specs.Commits.{Commit}
use Rattle.st_session.specs.Points.{Being, Alive, Gone, Point}
use Rattle.st_session.specs.Keeping.{Keeping}
use Rattle.st_session.specs.Watching.{bytecode_texts, bytecode_seen}
use Rattle.st_session.specs.Answers.{run_course, watched_course}

-- THE STATES BEFORE THE CYCLES OF A RUN

module _ {C : Type 0} (keeping : Keeping C) where
  abbrev pub states_from : (State Births → C → List (State Births)) → Being → C → List (State Births)
  states_from f (Alive s) c = f s c
  states_from f (Gone cause) c = []

  -- behind a snapshot, from what is saved
  abbrev pub states_behind : (State Births → C → List (State Births)) → Course C (Point C) → List (State Births)
  states_behind f (Goes ds p) = states_from f p.being p.kept
  states_behind f (Ends ds status) = []

  abbrev pub states_after : ℕ → Transition (State Births) Ending → (State Births → C → List (State Births)) → C → List (State Births)
  states_after n (Died cause) f c = []
  states_after n (Went (With outcome.Went) s) f c = f s c
  states_after n (Went (With outcome.Snapshot) s) f c = states_behind f (keeping.snapshot (suc n) s c)
  states_after n (Went (With outcome.Quit) s) f c = []
  states_after n (Went (With outcome.Debugger) s) f c = []
  states_after n (Went (With (outcome.Say v)) s) f c = f s c
  states_after n (Went (Space demand left) s) f c = []

  -- in order
  unfoldable pub states_of : ℕ → ℕ → State Births → C → List (State Births)
  states_of n zero s c = []
  states_of n (suc k) s c = s ∷ states_after n (cycle births s) (states_of (suc n) k) c

-- what is said of a state before its cycle: the bytecode that comes once what comes before it is done
abbrev pub texts_at : Transition (State Births) Unit → List (List ℕ)
texts_at (Died cause) = []
texts_at (Went u t) = bytecode_texts (watched (show t))

abbrev pub texts_of : List (State Births) → List (List ℕ)
texts_of [] = []
texts_of (s ∷ ss) = texts_at (prepared s) ++ texts_of ss

-- THE LAW

-- the second deeds are the first, with these replies laid in between, in order
pub data Laid {C : Type 0} : List (List ℕ) → List (Deed C) → List (Deed C) → Type 0 where
  none : Laid [] [] []
  looking : (t : List ℕ) (ts : List (List ℕ)) (ds es : List (Deed C)) → Laid ts ds es → Laid (t ∷ ts) ds (Reply t ∷ es)
  doing : (d : Deed C) (ts : List (List ℕ)) (ds es : List (Deed C)) → Laid ts ds es → Laid ts (d ∷ ds) (d ∷ es)

-- two courses that lead to the same, the second with the deeds of the first and these replies in between
pub data Traces {C X : Type 0} : List (List ℕ) → Course C X → Course C X → Type 0 where
  goes : (ts : List (List ℕ)) (ds es : List (Deed C)) (x : X) → Laid ts ds es → Traces ts (Goes ds x) (Goes es x)
  ends : (ts : List (List ℕ)) (ds es : List (Deed C)) (e : Status) → Laid ts ds es → Traces ts (Ends ds e) (Ends es e)

-- A trace does what the run does, to the same state, and its lines are the bytecodes of the run's cycles.
abbrev pub TraceIsRun : Type 0
TraceIsRun = (keeping : Keeping Commit) (n k : ℕ) (s : State Births) (c : Commit)
    → Traces (texts_of (states_of keeping n k s c)) (run_course keeping n k s c) (watched_course keeping bytecode_seen n k s c)
