-- A step that was foreseen, and for which there is room, is done.
use Rattle.std.proofs.Common.{◌≡◌, false, refl, ◌∙◌, ap, sym}
use Rattle.std.specs.Prelude.{length}
use Rattle.st_model.specs.declared.dead.Dead.{Dead}
use Rattle.st_model.specs.Outcomes.{Outcome}
use Rattle.st_model.specs.Machine.{State, World, Head, Transition, Died, Went, used, is_over}
use Rattle.st_model.specs.Births.{Births, births}
use Rattle.st_model.specs.Table.{Table, apart, bounded_table}
use Rattle.st_model.specs.Bytecodes.{step}
use Rattle.st_model.specs.Show.{Shows, raised}
use Rattle.st_model.specs.inside.Foreseen.{Foretells}
use Rattle.st_model.specs.View.{View, IsWhole}
use Rattle.st_model.proofs.Raised.{raised_shown}
use Rattle.st_simulation.proofs.CyclesShown.{foretells, does_as_births}
use Rattle.st_frames.specs.declared.frame.Frame.{Frame}
use Rattle.st_frames.specs.inside.Shown.{shown, IsReady}
use Rattle.st_frames.proofs.Closed.{is_closed}
use Rattle.st_control.specs.inside.Foreseen.{IsForeseen}

abbrev pub Goes : State Table → Type 0
Goes c = (o : Outcome) × (d : State Table) × ((step bounded_table).run c ≡ Went o d)

module _ (c : State Table) (s : State Births) (w : Shows c s) (places : length c.memory ≡ 32768) (o : Outcome) (d : State Table) where
  goes_as : (p : Transition (State Births) Outcome) → (step births).run s ≡ p → Foretells (Went o d) p → is_over (used apart d.memory) c.head ≡ false → Goes c
  goes_as (Died cause) e h f = absurd h
  goes_as (Went q u) e h f =
      let head : is_over (used apart d.memory) c.head ≡ is_over (used apart d.memory) s.head = ap (λ (a : Head). is_over (used apart d.memory) a) w.head in
      let fits : is_over (used births u.memory) s.head ≡ false = ap (λ x. is_over x s.head) (sym h) ∙ (sym head ∙ f) in
      let does = does_as_births c s w places q u e fits in (does.outcome, does.state, does.does)

pub goes : (v : View) (f : Frame) (world : World) → IsWhole v → IsReady v f world → IsForeseen (shown v f world) → Goes (shown v f world)
goes v f world whole ready e =
    let c = shown v f world in
    let w = raised_shown c (is_closed v f world whole ready) in
    let h = foretells c (raised c) w whole.places in
    goes_as c (raised c) w whole.places e.outcome e.after ((step births).run (raised c)) refl (rw e.goes at h) e.fits

pub goes_dead : (c : State Table) → Goes c → (cause : Dead) → (step bounded_table).run c ≡ Died cause → ⊥
goes_dead c h cause e = let q = sym h.2 ∙ e in cc
