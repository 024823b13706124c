-- What a run says up to the first bytecode that asks for a snapshot, or up to its end, and where it stops then.
use Rattle.std.specs.Prelude.{◌≡◌, ℕ, zero, suc, List, [], ◌∷◌, ◌++◌, Option, Some, None, Result, Ok, Err, IfOk}
use Rattle.std.specs.List.{flat_map}
use Rattle.st_host.specs.declared.host.Host.{Ghosts}
use Rattle.st_model.specs.declared.dead.Dead.{Dead}
use Rattle.st_model.specs.Outcomes.{Ending, With, Space}
use Rattle.st_model.specs.Outcomes as outcome
use Rattle.st_model.specs.Machine.{State, Transition, Died, Went}
use Rattle.st_model.specs.Births.{Births, births}
use Rattle.st_model.specs.Cycles.{cycle}
use Rattle.st_model.specs.Table.{Table}
use Rattle.st_model.specs.Show.{Shows}
use Rattle.st_model.specs.Text.{ran_text, dead_text, space_text, quit_text, debugger_text, said_value}
use Rattle.st_call.specs.inside.Saying.{Pushes}
use Rattle.st_session.specs.Points.{Being, Alive, Gone}
use Rattle.st_session.specs.inside.Standing.{IsBeing}
use Rattle.st_call.specs.inside.Telling.{Tells}
use Rattle.st_protocol.specs.declared.status.Status.{Status}

-- The run is over, and the machine is this; or a bytecode asked for a snapshot, with which so many cycles of the line are
-- finished.
pub data Stop : Type 0 where
  Over : Being → Stop
  Asked : ℕ → State Births → Stop

-- what is said in turn, and where the run stops
pub record Stretch : Type 0 where
  pub texts : List (List ℕ)
  pub stop : Stop

-- all that is said
abbrev pub words_of : List (List ℕ) → List ℕ
words_of texts = flat_map (λ text. text) texts

-- after these texts
abbrev pub saying : List (List ℕ) → Stretch → Stretch
saying texts r = record { texts = texts ++ r.texts; stop = r.stop }

abbrev pub over : List ℕ → Being → Stretch
over text being = record { texts = text ∷ []; stop = Over being }

abbrev pub asking : ℕ → State Births → Stretch
asking n s = record { texts = []; stop = Asked n s }

-- what a cycle says, where so many were finished before it, and all that follow
abbrev pub cycle_stretch : ℕ → Transition (State Births) Ending → (State Births → Stretch) → Stretch
cycle_stretch n (Died cause) f = over (dead_text n cause) (Gone cause)
cycle_stretch n (Went (With outcome.Went) s) f = f s
cycle_stretch n (Went (With outcome.Snapshot) s) f = asking (suc n) s
cycle_stretch n (Went (With outcome.Quit) s) f = over (quit_text (suc n)) (Alive s)
cycle_stretch n (Went (With outcome.Debugger) s) f = over (debugger_text (suc n)) (Alive s)
cycle_stretch n (Went (With (outcome.Say v)) s) f = saying (said_value s.memory v ∷ []) (f s)
cycle_stretch n (Went (Space demand left) s) f = over (space_text n demand left) (Alive s)

-- so many cycles of a line, after others that were finished
unfoldable pub stretch : ℕ → ℕ → State Births → Stretch
stretch n zero s = over (ran_text n) (Alive s)
stretch n (suc k) s = cycle_stretch n (cycle births s) (stretch (suc n) k)

-- what a machine with this death, which shows this table, answers where a run stops: nothing where it is over, and how many
-- cycles are finished where it is alive and a snapshot is asked for
abbrev pub StopsAs : Option Dead → State Table → Option ℕ → Stop → Type 0
StopsAs death c None (Over being) = IsBeing death c being
StopsAs death c None (Asked n s) = ⊥
StopsAs death c (Some n) (Over being) = ⊥
StopsAs death c (Some n) (Asked k s) = (n ≡ k) × (death ≡ None) × Shows c s

-- whether it went well
abbrev pub went : {R E : Type 0} → Result R E → Result Unit E
went (Ok r) = Ok tt
went (Err e) = Err e

-- A call that adds what is said of a stretch, and answers where it stops.
pub record PushesStretch {D E : Type 0} (host : Ghosts D) (death : Option Dead) (c : State Table) (r : Stretch) (old new : D) (before after : List ℕ) (result : Result (Option ℕ) E) : Type 0 where
  pub pushes : Pushes host (words_of r.texts) old new before after (went result)
  pub stops : IfOk result (λ answer. StopsAs death c answer r.stop)

-- A call that says it, and answers where it stops.
pub record SaysStretch {D : Type 0} (host : Ghosts D) (death : Option Dead) (c : State Table) (r : Stretch) (old new : D) (result : Result (Option ℕ) Status) : Type 0 where
  pub tells : Tells host (words_of r.texts) old new (went result)
  pub stops : IfOk result (λ answer. StopsAs death c answer r.stop)
