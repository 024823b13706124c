-- A process sleeps in the list of its priority, by its parts.
use Rattle.std.proofs.Common.{◌≡◌, ℕ, Result, Err, refl}
use Rattle.std.specs.Prelude.{ℤ}
use Rattle.st_model.specs.declared.dead.Dead.{Dead}
use Rattle.st_model.specs.Values.{Value}
use Rattle.st_model.specs.Machine.{ObjectMemory, State, Transition, Died, Went, Step, after, ◌>>=◌}
use Rattle.st_model.specs.Table.{Table}
use Rattle.st_model.specs.inside.Calls.{Does}
use Rattle.st_model.specs.Steps.{fetch_field, fetch_integer}
use Rattle.st_model.specs.Processes.{list_number, ready_lists, add_last, sleep}
use Rattle.st_memory.specs.declared.objects.Objects.{Ghosts}
use Rattle.st_frames.specs.declared.registers.Registers.{Registers as Words}
use Rattle.st_frames.specs.inside.Rows.{state_of, RowDoes}

does_died : {A B : Type 0} (step : Step Table A) (f : B → A) (s t : State Table) (x : Result B Dead) (k : Dead) → x ≡ Err k → step.run s ≡ Died k → Does step f s x t
does_died step f s t x k e h = rw e h

-- a call that died
pub row-died : {M A B : Type 0} (o : Ghosts M) (step : Step Table A) (f : B → A) (m n : M) (r q : Words) (x : Result B Dead) (k : Dead) → x ≡ Err k → q.world.now ≡ r.world.now → step.run (state_of o m r) ≡ Died k
    → RowDoes o step f m r x n q
row-died o step f m n r q x k e w h = record { does = does_died step f (state_of o m r) (state_of o n q) x k e h; world = w }

module _ (m : ObjectMemory Table) (p : Value) (a b : ℤ) (s : State Table) (same : b ≡ a) (priority : (fetch_integer m p 2).run s ≡ Went a s) where
  pub sleep-unnumbered : (k : Dead) → (list_number b).run s ≡ Died k → (sleep m p).run s ≡ Died k
  unfolding sleep ◌>>=◌ after
  sleep-unnumbered k e = rw (priority, rw same at e) refl

  module _ (n : ℕ) (number : (list_number b).run s ≡ Went n s) where
    pub sleep-unready : (k : Dead) → (ready_lists m).run s ≡ Died k → (sleep m p).run s ≡ Died k
    unfolding sleep ◌>>=◌ after
    sleep-unready k e = rw (priority, rw same at number, e) refl

    module _ (l : Value) (ready : (ready_lists m).run s ≡ Went l s) where
      pub sleep-unlisted : (k : Dead) → (fetch_field m l n).run s ≡ Died k → (sleep m p).run s ≡ Died k
      unfolding sleep ◌>>=◌ after
      sleep-unlisted k e = rw (priority, rw same at number, ready, e) refl

      pub sleep-listed : (v : Value) (x : Transition (State Table) (Unit {0})) → (fetch_field m l n).run s ≡ Went v s → (add_last m p v).run s ≡ x → (sleep m p).run s ≡ x
      unfolding sleep ◌>>=◌ after
      sleep-listed v x e h = rw (priority, rw same at number, ready, e) h
