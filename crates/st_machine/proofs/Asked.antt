-- What an event and saving come to over a memory is shown beside the births.
use Rattle.std.proofs.Common.{◌≡◌, Ok, Err, Option, Some, None, sym, subst, ap, ◌∙◌}
use Rattle.std.specs.Prelude.{Result}
use Rattle.std.specs.Option.{option_map}
use Rattle.st_model.specs.declared.dead.Dead.{Dead}
use Rattle.st_model.specs.declared.event.Event.{Event}
use Rattle.st_model.specs.declared.event.InputFull.{InputFull}
use Rattle.st_model.specs.Objects.{nil}
use Rattle.st_model.specs.Machine.{World, State, Transition, Died, Went}
use Rattle.st_model.specs.Births.{Births, births}
use Rattle.st_model.specs.Table.{Table, table, bounded_table}
use Rattle.st_model.specs.Show.{Shows}
use Rattle.st_model.specs.inside.Foreseen.{IsSound, ShownIfTaken, ShownAgain}
use Rattle.st_model.specs.Events.{comes, event, in_world}
use Rattle.st_model.specs.Settled.{reclaim}
use Rattle.st_model.specs.Saving.{store_process, settled_after, save}
use Rattle.st_model.specs.View.{View, IsWhole}
use Rattle.st_simulation.proofs.Outside.{event_shown}
use Rattle.st_simulation.proofs.Between.{shows_settled}
use Rattle.st_simulation.proofs.CyclesSame.{store_process-same}
use Rattle.st_frames.specs.inside.Coming.{came}
use Rattle.st_frames.specs.declared.frame.Frame.{Frame}
use Rattle.st_frames.specs.inside.Shown.{shown, registers_of, IsReady}
use Rattle.st_frames.proofs.Closed.{is_closed}
use Rattle.st_machine.specs.inside.Asked.{TakenAs, SavedAs}

-- events

by_result : (result : Result (Unit {0}) InputFull) (c d : State Table) (w : World) (x : Option (State Births)) → in_world c w ≡ d → ShownIfTaken (option_map (in_world c) (came result w)) x → TakenAs result d x
by_result (Ok u) c d w None e h = h
by_result (Ok u) c d w (Some s) e h = subst (λ (y : State Table). Shows y s) e h
by_result (Err full) c d w None e h = tt
by_result (Err full) c d w (Some s) e h = h

pub taken : (v u : View) (f : Frame) (w x : World) (e : Event) (result : Result (Unit {0}) InputFull) (s : State Births) → Shows (shown v f w) s → comes nil e w ≡ came result x → u.objects ≡ v.objects → u.head ≡ v.head
    → TakenAs result (shown u f x) (event births e s)
unfolding event
taken v u f w x e result s h c objects head =
    let d : in_world (shown v f w) x ≡ shown u f x = λ i. record { memory = sym objects i; registers = registers_of f; world = x; head = sym head i } in
    by_result result (shown v f w) (shown u f x) x (event births e s) d
    (subst (λ y. ShownIfTaken (option_map (in_world (shown v f w)) y) (event births e s)) c (event_shown (shown v f w) s h e))

-- saving

module _ (v : View) (f : Frame) (w : World) (whole : IsWhole v) (ready : IsReady v f w) (s : State Births) (h : Shows (shown v f w) s) where
  beside : ShownAgain (settled_after table ((store_process bounded_table).run (shown v f w))) (save births s)
  unfolding save
  beside =
      let sound : IsSound (shown v f w) = record { places = whole.places; closed = is_closed v f w whole ready } in
      shows_settled (λ H m. store_process m) (λ H K M N sim. store_process-same sim) (shown v f w) s h sound whole.most_entries

  dead_as : (k : Dead) (o : Transition (State Births) (Unit {0})) (d : State Table) → ShownAgain (Died k) o → SavedAs (Err k) d o
  dead_as k (Died j) d e = sym e
  dead_as k (Went x t) d e = e

  shown_as : (d : State Table) (o : Transition (State Births) (Unit {0})) → ShownAgain (Went tt d) o → SavedAs (Ok tt) d o
  shown_as d (Died j) e = e
  shown_as d (Went x t) e = e.0

  pub save_dies : (k : Dead) (d : State Table) → (store_process bounded_table).run (shown v f w) ≡ Died k → SavedAs (Err k) d (save births s)
  save_dies k d e = dead_as k (save births s) d (subst (λ o. ShownAgain (settled_after table o) (save births s)) e beside)

  pub saved : (t d : State Table) → (store_process bounded_table).run (shown v f w) ≡ Went tt t → reclaim table t ≡ d → SavedAs (Ok tt) d (save births s)
  saved t d e r = shown_as d (save births s) (subst (λ y. ShownAgain (Went tt y) (save births s)) r (subst (λ o. ShownAgain (settled_after table o) (save births s)) e beside))
