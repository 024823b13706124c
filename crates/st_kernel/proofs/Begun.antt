-- What the beginning of a machine comes to, call after call.
use Rattle.std.proofs.Common.{◌≡◌, ◌∙◌, ℕ, List, true, false, Result, Ok, Err, Bool, refl, ap}
use Rattle.std.specs.Prelude.{codes}
use Rattle.st_model.specs.declared.dead.Dead.{Dead}
use Rattle.st_model.specs.declared.oop.Oop.{Oop}
use Rattle.st_model.specs.declared.word.Word.{Word}
use Rattle.st_model.specs.Values.{Value, value, word, value_of}
use Rattle.st_model.specs.Objects.{nil}
use Rattle.st_model.specs.Machine.{State, Transition, Died, Went, empty_world, ◌>>=◌}
use Rattle.st_model.specs.Table.{Table, table, bounded_table}
use Rattle.st_model.specs.inside.Calls.{Reads, Does, itself, transition_of}
use Rattle.st_model.specs.View.{View}
use Rattle.st_model.specs.Start.{idle_registers, idle_state}
use Rattle.st_model.specs.Contexts.{fetch_scheduled_registers}
use Rattle.st_model.proofs.Runs.{run-then, run-next, after-went, after-died, run-answer}
use Rattle.st_frames.specs.declared.frame.Frame.{Frame}
use Rattle.st_frames.specs.declared.registers.Registers.{Registers as Words}
use Rattle.st_frames.specs.inside.Rows.{row_state, registers_in}
use Rattle.st_frames.specs.inside.Shown.{IsReady, registers_of, shown, FetchesFrame}
use Rattle.st_kernel_text.specs.Parts.{Start}
use Rattle.st_kernel.specs.Starting.{global_value, method_of, in_new_process, fetch_if, begin_by}
use Rattle.st_kernel.specs.inside.Answered.{IsBegun}
use Rattle.st_kernel.specs.inside.Following.{idle_frame, Ends}

pub died : (o : Transition (State Table) Bool) (k : Dead) (r : Result Bool Dead) (v : View) → o ≡ Died k → r ≡ Err k → Ends o r v
died o k r v e f = rw (e, f) tt

pub went : (o : Transition (State Table) Bool) (b : Bool) (c : State Table) (v : View) → o ≡ Went b c → c.memory ≡ v.objects → c.head ≡ v.head → Ends o (Ok b) v
went o b c v e objects head = rw e (refl, objects, head)

-- the registers of a row before they are fetched
pub row_idle : (v : View) (r : Words) → registers_in r ≡ registers_of idle_frame → r.world.now ≡ empty_world nil → row_state v.objects v.head r ≡ idle_state v
unfolding row_state value_of
row_idle v r registers world = λ i. record { memory = v.objects; registers = registers i; world = world i; head = v.head }

module _ (v : View) (s : Start) where
  abbrev pub begins : Transition (State Table) Bool
  begins = (begin_by v.head s).run (idle_state v)

  module _ (name : List ℕ) (same : name ≡ s.receiver) where
    pub no_receiver : (k : Dead) → Reads (global_value table v.head name) value v.objects (Err k) → begins ≡ Died k
    unfolding begin_by
    no_receiver k h = rw (← same) (simp (run-then, h (idle_state v) refl, after-died) refl)

    module _ (receiver : Oop) (found : Reads (global_value table v.head name) value v.objects (Ok receiver)) (selector : List ℕ) (same_selector : selector ≡ s.selector) where
      pub no_method : (k : Dead) → Reads (method_of table v.head (value receiver) selector) value v.objects (Err k) → begins ≡ Died k
      unfolding begin_by
      no_method k h = rw (← same, ← same_selector) (simp (run-then, found (idle_state v) refl, h (idle_state v) refl, after-went, after-died) refl)

      module _ (method : Oop) (has : Reads (method_of table v.head (value receiver) selector) value v.objects (Ok method)) where
        module _ (process : List ℕ) (same_process : process ≡ codes "Process") where
          pub no_class : (k : Dead) → Reads (global_value table v.head process) value v.objects (Err k) → begins ≡ Died k
          unfolding begin_by ◌>>=◌
          no_class k h = rw (← same, ← same_selector, ← same_process) (simp (run-then, found (idle_state v) refl, has (idle_state v) refl, h (idle_state v) refl, after-died) refl)

          module _ (class : Oop) (named : Reads (global_value table v.head process) value v.objects (Ok class)) where
            abbrev makes : Transition (State Table) Bool
            makes = (in_new_process bounded_table (value class) (value method) (value receiver)).run (idle_state v)

            pub no_process : (k : Dead) → makes ≡ Died k → begins ≡ Died k
            unfolding begin_by ◌>>=◌
            no_process k e = rw (← same, ← same_selector, ← same_process) (simp (run-then, found (idle_state v) refl, has (idle_state v) refl, named (idle_state v) refl, e, after-died) refl)

            pub no_room : (t : State Table) → makes ≡ Went false t → begins ≡ Went false t
            unfolding begin_by fetch_if ◌>>=◌
            no_room t e = rw (← same, ← same_selector, ← same_process) (simp (run-then, found (idle_state v) refl, has (idle_state v) refl, named (idle_state v) refl, e, after-went, run-answer) refl)

            pub no_registers : (t : State Table) (k : Dead) → makes ≡ Went true t → (fetch_scheduled_registers table).run t ≡ Died k → begins ≡ Died k
            unfolding begin_by fetch_if ◌>>=◌
            no_registers t k e h = rw (← same, ← same_selector, ← same_process) (simp (run-then, run-next, found (idle_state v) refl, has (idle_state v) refl, named (idle_state v) refl, e, h, after-died) refl)

            pub all_made : (t u : State Table) → makes ≡ Went true t → (fetch_scheduled_registers table).run t ≡ Went tt u → begins ≡ Went true u
            unfolding begin_by fetch_if ◌>>=◌
            all_made t u e h = rw (← same, ← same_selector, ← same_process) (simp (run-then, run-next, found (idle_state v) refl, has (idle_state v) refl, named (idle_state v) refl, e, h, after-went, run-answer) refl)

-- the registers were fetched
pub fetched_idle : (old new : View) (f : Frame) → FetchesFrame (fetch_scheduled_registers table) old (Ok f) new → (fetch_scheduled_registers table).run (idle_state old) ≡ Went tt (shown new f (empty_world nil))
fetched_idle old new f h = h idle_registers (empty_world nil)

pub begun_again : (old new : View) (f : Frame) → new.objects ≡ old.objects → new.head ≡ old.head → IsReady new f (empty_world nil) → FetchesFrame (fetch_scheduled_registers table) old (Ok f) new → IsBegun new
begun_again old new f objects head ready h =
    let idle : idle_state new ≡ idle_state old = λ i. record { memory = objects i; registers = idle_registers; world = empty_world nil; head = head i } in
    record { frame = f; held = ready; fetched = ap (fetch_scheduled_registers table).run idle ∙ fetched_idle old new f h }

pub lost_idle : (old new : View) (k : Dead) → FetchesFrame (fetch_scheduled_registers table) old (Err k) new → (fetch_scheduled_registers table).run (idle_state old) ≡ Died k
lost_idle old new k h = h idle_registers (empty_world nil)

-- what a row makes of idle registers
pub makes_row : (old new : View) (r : Words) → registers_in r ≡ registers_of idle_frame → r.world.now ≡ empty_world nil → (class method receiver : Word) (c m x : Value)
    → word class ≡ c → word method ≡ m → word receiver ≡ x → (result : Result Bool Dead)
    → Does (in_new_process bounded_table (word class) (word method) (word receiver)) itself (row_state old.objects old.head r) result (row_state new.objects new.head r)
    → (in_new_process bounded_table c m x).run (idle_state old) ≡ transition_of itself result (idle_state new)
makes_row old new r registers world class method receiver c m x e f g result does =
    let before = row_idle old r registers world in
    let behind = row_idle new r registers world in
    rw (← e, ← f, ← g, ← before, ← behind) does
