-- Primitives on processes whose conditions hold.
use Rattle.std.proofs.Common.{◌≡◌, Bool, refl}
use Rattle.std.specs.Prelude.{ℤ}
use Rattle.st_model.specs.declared.page.PageObject.TheVariants.{NilObject}
use Rattle.st_model.specs.Objects.{place_of}
use Rattle.st_model.specs.declared.dead.Dead.{Dead}
use Rattle.st_model.specs.declared.device.Device.TheVariants.{NewProcess}
use Rattle.st_model.specs.Surroundings.{Hold}
use Rattle.st_model.specs.Values.{Value, Ref}
use Rattle.st_model.specs.Machine.{ObjectMemory, State, Transition, Died, Went, after, ◌>>=◌, ◌>>◌}
use Rattle.st_model.specs.Table.{Table, IsTabular}
use Rattle.st_model.specs.Steps.{of_page, store_field, get_active, change_world, top}
use Rattle.st_model.specs.Processes.{check_fields, signal_and_answer, primitive_signal, excess_of, take_excess, wait_and_answer, scheduler, scheduled_process, let_wait, leave_process, primitive_wait, resume_and_answer, primitive_resume, suspend, check_active, suspend_and_answer, primitive_suspend}
use Rattle.st_frames.specs.inside.Answering.{succeed_by, succeed_with}
use Rattle.st_frames.proofs.Doing.{row-page}
use Rattle.st_frames.proofs.Tries.{primitive-done}

pub tried-signal : (m : ObjectMemory Table) (v : Value) (s : State Table) (y : Transition (State Table) Bool) → (top m).run s ≡ Went v s → (check_fields m v 3).run s ≡ Went tt s → (succeed_by m 0 (signal_and_answer m v)).run s ≡ y
    → (primitive_signal m).run s ≡ y
unfolding primitive_signal ◌>>=◌ after
tried-signal m v s y e0 h k = rw e0 (primitive-done m 0 (check_fields m v 3) (λ (u : Unit {0}). signal_and_answer m v) s tt y h k)

pub tried-wait : (m : ObjectMemory Table) (v : Value) (a b : ℤ) (s : State Table) (y : Transition (State Table) Bool) → b ≡ a → (top m).run s ≡ Went v s → (excess_of m v).run s ≡ Went a s
    → (succeed_by m 0 (wait_and_answer m v b)).run s ≡ y → (primitive_wait m).run s ≡ y
unfolding primitive_wait ◌>>=◌ after
tried-wait m v a b s y q e0 h k = rw e0 (primitive-done m 0 (excess_of m v) (λ (a : ℤ). wait_and_answer m v a) s a y h (rw q at k))

pub tried-resume : (m : ObjectMemory Table) (v : Value) (s : State Table) (y : Transition (State Table) Bool) → (top m).run s ≡ Went v s → (check_fields m v 4).run s ≡ Went tt s → (succeed_by m 0 (resume_and_answer m v)).run s ≡ y
    → (primitive_resume m).run s ≡ y
unfolding primitive_resume ◌>>=◌ after
tried-resume m v s y e0 h k = rw e0 (primitive-done m 0 (check_fields m v 4) (λ (u : Unit {0}). resume_and_answer m v) s tt y h k)

pub tried-suspend : (m : ObjectMemory Table) (v : Value) (s : State Table) (y : Transition (State Table) Bool) → (top m).run s ≡ Went v s → (check_active m v).run s ≡ Went tt s → (succeed_by m 0 (suspend_and_answer m)).run s ≡ y
    → (primitive_suspend m).run s ≡ y
unfolding primitive_suspend ◌>>=◌ after
tried-suspend m v s y e0 h k = rw e0 (primitive-done m 0 (check_active m v) (λ (u : Unit {0}). suspend_and_answer m) s tt y h k)

-- the answer is nil, whatever is left to be done
pub suspended-by : (m : ObjectMemory Table) → IsTabular m → (v : Value) (s t : State Table) (y : Transition (State Table) Bool) → v ≡ Ref (place_of NilObject) → (suspend m).run s ≡ Went tt t → (succeed_with m 0 v).run t ≡ y
    → (succeed_by m 0 (suspend_and_answer m)).run s ≡ y
unfolding succeed_by suspend_and_answer ◌>>=◌ ◌>>◌ after
suspended-by m tabular v s t y q e h = rw (e, row-page m tabular NilObject t) (rw q at h)

pub waited-died : (m : ObjectMemory Table) (v : Value) (a b : ℤ) (s : State Table) (k : Dead) → b ≡ a → (take_excess m v b).run s ≡ Died k → (succeed_by m 0 (wait_and_answer m v a)).run s ≡ Died k
unfolding succeed_by wait_and_answer ◌>>=◌ ◌>>◌ after
waited-died m v a b s k q e = rw (rw q at e) refl

-- the active context is kept, and the process takes the place of the one that the scheduler names
pub left-process : (m : ObjectMemory Table) (p active old v x : Value) (s t u : State Table) (y : Transition (State Table) (Unit {0})) → get_active.run s ≡ Went active s → (scheduled_process m).run s ≡ Went old s
    → (store_field m old 1 active).run s ≡ Went tt t → (scheduler m).run t ≡ Went v t → (store_field m v 1 p).run t ≡ Went tt u → (of_page m NilObject).run u ≡ Went x u
    → (change_world m (Hold NewProcess x)).run u ≡ y → (leave_process m p).run s ≡ y
unfolding leave_process let_wait ◌>>=◌ ◌>>◌ after
left-process m p active old v x s t u y e0 e1 e2 e3 e4 e5 h = rw (e0, e1, e2, e3, e4, e5) h
