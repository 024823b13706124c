-- The tenth row, and the state in which the machine begins.
use Rattle.std.proofs.Common.{◌≡◌, ℕ, ◌<◌, List, length, refl, sym, ap, ◌∙◌, subst, arith, inl, inr, Ok, Err}
use Rattle.st_model.specs.declared.dead.Dead.{Dead}
use Rattle.st_model.specs.declared.fault.ImageFault.{ImageFault}
use Rattle.st_model.specs.declared.fault.ImageFault.TheVariants.{Short, Scheduler}
use Rattle.st_model.specs.declared.head.ImageHead.{ImageHead}
use Rattle.st_model.specs.Objects.{nil}
use Rattle.st_model.specs.Machine.{State, Transition, Died, Went, empty_world}
use Rattle.st_model.specs.Births.{Births}
use Rattle.st_model.specs.Table.{Table, table}
use Rattle.st_model.specs.View.{View, IsComplete, no_devices, empty_view, nothing_held}
use Rattle.st_model.specs.Show.{Shows, IsClosed}
use Rattle.st_model.specs.inside.Foreseen.{ShownAgain}
use Rattle.st_model.specs.Contexts.{fetch_scheduled_registers}
use Rattle.st_model.specs.Start.{start_view, start, begin, idle_state, idle_registers}
use Rattle.st_model.specs.Faults.{Fails, row, Sooner, short_fails, IsImageFault, IsWellFormed}
use Rattle.st_simulation.proofs.Again.{begin_shown}
use Rattle.st_frames.specs.declared.frame.Frame.{Frame}
use Rattle.st_frames.specs.inside.Shown.{StaysFrame, FetchesFrame, shown}
use Rattle.st_frames.proofs.Closed.{closed_idle}
use Rattle.st_image.specs.declared.error.ReadImage.{ReadImage}
use Rattle.st_frames.proofs.Closed.{closed_idle}
use Rattle.st_image.specs.declared.error.ReadImage.TheVariants.{Fault, OutOfMemory}
use Rattle.st_image.specs.inside.Rows.{IsReadFault, IsCleanBelow}
use Rattle.st_image.specs.inside.Reading.{IsStart}
use Rattle.st_image.proofs.FaultRows.{short_first}
use Rattle.st_image.proofs.FaultOrder.{found_fault, clean_none, no_fault}
use Rattle.std.proofs.lemmas.Bool.{or_left, lt-ltb}

-- a file without a whole head is too short, whatever a head would say
pub headless : (h : ImageHead) (bytes : List ℕ) → length bytes < 512 → IsImageFault h bytes Short
unfolding short_fails
headless h bytes few = found_fault h bytes 1 Short (clean_none h bytes) (short_first h bytes (or_left _ _ (lt-ltb _ _ few)))

-- where all other rows are clean, and the registers cannot be fetched
pub scheduler_fault : (h : ImageHead) (bytes : List ℕ) (cause : Dead) → IsCleanBelow h bytes 10 → start h bytes ≡ Died cause → IsImageFault h bytes Scheduler
unfolding Fails
scheduler_fault h bytes cause clean died = found_fault h bytes 10 Scheduler clean (record { at = refl; fails = (cause, died); least = least })
  where
    least : (g : ImageFault) → row g ≡ 10 → Sooner g Scheduler → ¬ Fails h bytes g
    least Scheduler e (inl s) fails = omega (arith, s)
    least Scheduler e (inr s) fails = omega (arith, s.1)
    least g e s fails = absurd (omega arith)

-- where all other rows are clean, and the registers are fetched
pub is_well_formed : (h : ImageHead) (bytes : List ℕ) (s : State Table) → IsCleanBelow h bytes 10 → start h bytes ≡ Went tt s → IsWellFormed h bytes
unfolding Fails
is_well_formed h bytes s clean went Scheduler fails = let a = sym went ∙ fails.1 in cc
is_well_formed h bytes s clean went g fails = clean g (omega arith) fails

-- the registers that are fetched from the one memory are those of the other
abbrev Fetches : View → View → Frame → Type 0
Fetches v w f = FetchesFrame (fetch_scheduled_registers table) v (Ok f) w

-- the registers that are fetched from a memory of the image's objects are those of the start
pub start_went : (h : ImageHead) (bytes : List ℕ) (v w : View) (f : Frame) → v ≡ start_view h bytes
    → Fetches v w f → start h bytes ≡ Went tt (shown w f (empty_world nil))
unfolding start
start_went h bytes v w f e fetched = ap (λ (u : View). (fetch_scheduled_registers table).run (idle_state u)) (sym e) ∙ fetched idle_registers (empty_world nil)

pub start_died : (h : ImageHead) (bytes : List ℕ) (v : View) (cause : Dead) → v ≡ start_view h bytes
    → FetchesFrame (fetch_scheduled_registers table) v (Err cause) v → start h bytes ≡ Died cause
unfolding start
start_died h bytes v cause e fetched = ap (λ (u : View). (fetch_scheduled_registers table).run (idle_state u)) (sym e) ∙ fetched idle_registers (empty_world nil)

start_devices : (h : ImageHead) (bytes : List ℕ) → (start_view h bytes).held.devices ≡ no_devices
unfolding start_view empty_view nothing_held
start_devices h bytes = refl

-- the births with which the book's machine begins
abbrev pub Begins : ImageHead → List ℕ → State Table → Type 0
Begins h bytes c = (s : State Births) × (begin h bytes ≡ Went tt s) × Shows c s

begins_as : (h : ImageHead) (bytes : List ℕ) (c : State Table) (x : Transition (State Births) Unit) → begin h bytes ≡ x → ShownAgain (Went tt c) x → Begins h bytes c
begins_as h bytes c (Died cause) e shown = absurd shown
begins_as h bytes c (Went x s) e shown = (s, e, shown.0)

pub begins_with : (h : ImageHead) (bytes : List ℕ) (w : View) (c : State Table) → IsComplete w → w.objects ≡ (start_view h bytes).objects → w.head ≡ (start_view h bytes).head
    → start h bytes ≡ Went tt c → Begins h bytes c
begins_with h bytes w c complete objects head started =
    let idle : idle_state w ≡ idle_state (start_view h bytes) = λ i. record { memory = objects i; registers = idle_registers; world = empty_world nil; head = head i } in
    let again = begin_shown h bytes (subst IsClosed idle (closed_idle w complete)) in
    begins_as h bytes c (begin h bytes) refl (subst (λ x. ShownAgain x (begin h bytes)) started again)

pub is_start : (h : ImageHead) (bytes : List ℕ) (v w : View) (f : Frame) → IsComplete w → v ≡ start_view h bytes → w.objects ≡ v.objects → w.head ≡ v.head → StaysFrame v w f
    → Fetches v w f → IsStart h bytes w f
is_start h bytes v w f complete e same_objects same_head stays fetched =
    let objects = same_objects ∙ ap (λ (u : View). u.objects) e in
    let head = same_head ∙ ap (λ (u : View). u.head) e in
    let state = start_went h bytes v w f e fetched in
    let begins = begins_with h bytes w (shown w f (empty_world nil)) complete objects head state in
    record {
      objects = objects;
      head = head;
      devices = stays.devices ∙ (ap (λ (u : View). u.held.devices) e ∙ start_devices h bytes);
      frame = stays.frame;
      state = state;
      births = begins.0;
      begins = begins.1;
      shows = begins.2;
    }

-- the view of an image under another name of its head and its bytes
pub same_start : (h i : ImageHead) (bytes others : List ℕ) (v : View) → i ≡ h → others ≡ bytes → v ≡ start_view i others → v ≡ start_view h bytes
same_start h i bytes others v head same e = e ∙ (ap (λ (x : ImageHead). start_view x others) head ∙ ap (start_view h) same)

-- a well-formed image is refused for want of memory alone
pub accepted : (h : ImageHead) (bytes : List ℕ) (e : ReadImage) → IsReadFault h bytes e → IsWellFormed h bytes → e ≡ OutOfMemory
accepted h bytes (Fault f) is well = absurd (no_fault h bytes well f is)
accepted h bytes OutOfMemory is well = refl
