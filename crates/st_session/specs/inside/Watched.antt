-- What a watched run says up to the first bytecode that asks for a snapshot, or up to its end, and where it stops then.
use Rattle.std.specs.Prelude.{◌≡◌, ℕ, zero, suc, List, [], ◌∷◌, Option, None, Bool, true, false, Result, IfOk}
use Rattle.st_host.specs.declared.host.Host.{Ghosts}
use Rattle.st_model.specs.declared.dead.Dead.{Dead}
use Rattle.st_model.specs.Machine.{State, Transition, Died, Went}
use Rattle.st_model.specs.Births.{Births, births}
use Rattle.st_model.specs.Cycles.{cycle}
use Rattle.st_model.specs.Table.{Table}
use Rattle.st_model.specs.Show.{Shows, show}
use Rattle.st_model.specs.Text.{ran_text}
use Rattle.st_machine.specs.Prepared.{prepared}
use Rattle.st_call.specs.inside.Saying.{Pushes}
use Rattle.st_session.specs.declared.watching.Cycled.{Cycled}
use Rattle.st_session.specs.declared.watching.Cycled.TheVariants as cycled
use Rattle.st_session.specs.Points.{Alive}
use Rattle.st_session.specs.inside.Standing.{IsBeing}
use Rattle.st_session.specs.inside.Stretches.{Stop, Over, Asked, Stretch, words_of, saying, over, cycle_stretch, went}
use Rattle.st_session.specs.Watching.{Look, Says, Stops, stopped_text}

-- what is seen, and the stretch that follows
abbrev pub looked_stretch : Look → ℕ → State Births → Stretch → Stretch
looked_stretch (Says texts) n t rest = saying texts rest
looked_stretch Stops n t rest = over (stopped_text n) (Alive t)

abbrev pub look_stretch : (State Table → Look) → ℕ → Transition (State Births) Unit → Stretch → Stretch
look_stretch look n (Died cause) rest = rest
look_stretch look n (Went u t) rest = looked_stretch (look (show t)) n t rest

-- a cycle of a line that looks before it, where what comes before the bytecode is done already, and all that follow
abbrev pub seen_cycle : (State Table → Look) → ℕ → State Births → (State Births → Stretch) → Stretch
seen_cycle look n t f = looked_stretch (look (show t)) n t (cycle_stretch n (cycle births t) f)

-- a cycle of a line that looks before it, and all that follow
abbrev pub watched_cycle : (State Table → Look) → ℕ → State Births → (State Births → Stretch) → Stretch
watched_cycle look n s f = look_stretch look n (prepared s) (cycle_stretch n (cycle births s) f)

-- so many cycles of a line that looks before each, after others that were finished
unfoldable pub watched_stretch : (ℕ → State Table → Look) → ℕ → ℕ → State Births → Stretch
watched_stretch look n zero s = over (ran_text n) (Alive s)
watched_stretch look n (suc k) s = watched_cycle (look n) n s (watched_stretch look (suc n) k)

-- A call that adds what is seen, or the line's end where it stops here, and answers whether it does.
abbrev pub texts_seen : ℕ → Look → List (List ℕ)
texts_seen n (Says texts) = texts
texts_seen n Stops = stopped_text n ∷ []

abbrev pub is_stop : Look → Bool
is_stop (Says texts) = false
is_stop Stops = true

pub record PushesLook {D E : Type 0} (host : Ghosts D) (n : ℕ) (look : Look) (old new : D) (before after : List ℕ) (result : Result Bool E) : Type 0 where
  pub pushes : Pushes host (words_of (texts_seen n look)) old new before after (went result)
  pub stops : IfOk result (λ b. b ≡ is_stop look)

-- Where a cycle leads: the line goes on from a state; or a snapshot is asked for, with which so many cycles are finished, or the line is
-- over.
pub data Next : Type 0 where
  Onward : State Births → Next
  Halts : Stop → Next

abbrev pub after_next : Next → (State Births → Stretch) → Stretch
after_next (Onward t) f = f t
after_next (Halts stop) f = record { texts = []; stop = stop }

-- what a machine with this death, which shows this table, answers there
abbrev pub StandsNext : Option Dead → State Table → ℕ → Cycled → Next → Type 0
StandsNext death c n cycled.GoesOn (Onward t) = (death ≡ None) × Shows c t
StandsNext death c n cycled.Asks (Halts (Asked k t)) = (k ≡ suc n) × (death ≡ None) × Shows c t
StandsNext death c n cycled.Over (Halts (Over being)) = IsBeing death c being
StandsNext death c n _ _ = ⊥

-- A call that adds what is said of a cycle, whatever follows it, and answers where it leads.
pub record PushesCycle {D E : Type 0} (host : Ghosts D) (death : Option Dead) (c : State Table) (n : ℕ) (r : (State Births → Stretch) → Stretch) (old new : D) (before after : List ℕ) (result : Result Cycled E) : Type 0 where
  pub texts : List (List ℕ)
  pub next : Next
  pub is : (f : State Births → Stretch) → r f ≡ saying texts (after_next next f)
  pub pushes : Pushes host (words_of texts) old new before after (went result)
  pub stands : IfOk result (λ x. StandsNext death c n x next)
