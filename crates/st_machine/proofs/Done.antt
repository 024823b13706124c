-- What a row over a memory does, with what it leaves to be done, is what the step does to the state that is shown.
use Rattle.std.proofs.Common.{◌≡◌, ℕ, suc, length, arith, Some, None, List, [], ◌∷◌, Bool, true, false, refl, sym, ap, subst, ◌∙◌}
use Rattle.std.specs.Prelude.{Result, not, slice_get, ◌-◌, ◌==◌, ◌&&◌, take}
use Rattle.std.proofs.lemmas.Bool.Decides.{nat_tests}
use Rattle.st_model.specs.declared.dead.Dead.{Dead}
use Rattle.st_model.specs.declared.deed.Deed.{Deed}
use Rattle.st_model.specs.Values.{Value, word}
use Rattle.st_model.specs.Objects.{nil}
use Rattle.st_model.specs.Machine.{Head, World, is_there, State, Transition, Died, Went, Step, answer, after, ◌>>=◌, ◌>>◌}
use Rattle.st_model.specs.Surroundings.{TakeSignal, newest_of, changed_world}
use Rattle.st_model.specs.Steps.{of_page, same_value, get_device, newest_signal, count_signals, change_world, world_changed}
use Rattle.st_model.specs.Table.{Table, table, bounded_table}
use Rattle.st_model.specs.Steps.{are_there}
use Rattle.st_model.specs.Contexts.{fetch_scheduled_registers}
use Rattle.st_model.specs.Saving.{store_active, store_process}
use Rattle.st_model.specs.inside.Foreseen.{IsSound}
use Rattle.st_simulation.proofs.Between.{as_table, switched_sound}
use Rattle.st_simulation.proofs.ContextsSame.{fetch_scheduled_registers-same}
use Rattle.st_frames.proofs.Closed.{is_closed}
use Rattle.st_model.specs.Events.{is_held}
use Rattle.st_model.specs.inside.Calls.{itself, transition_of}
use Rattle.st_model.specs.Deeds.{deed_done, world_done, with_deed}
use Rattle.st_model.specs.Processes.{signal, enter_process, leave_process, switch_to_process}
use Rattle.st_model.specs.Cycles.{signal_if_any, signal_next, signal_newest, switch_unless_nil, switch_if_waiting, check_process_switch}
use Rattle.st_model.specs.View.{View, IsWhole}
use Rattle.st_frames.specs.declared.frame.Frame.{Frame}
use Rattle.st_frames.specs.declared.registers.Registers.{Registers as Words}
use Rattle.st_frames.specs.inside.Rows.{row_state, registers_in}
use Rattle.st_frames.specs.inside.Shown.{shown, registers_of, IsReady}
use Rattle.st_frames.proofs.Stored.{loaded}
use Rattle.st_frames.proofs.There.{word_there, all_four}

abbrev Answers : Type 0
Answers = Transition (State Table) (Unit {0})

-- what a row leaves is done, and the registers are as before
left_is : (u z : View) (f : Frame) (w x : World) (r : Words) (d : Deed) → registers_in r ≡ registers_of f → r.world.now ≡ w
    → z.objects ≡ deed_done d u.objects → z.head ≡ u.head → x ≡ world_done d u.objects w → with_deed d (row_state u.objects u.head r) ≡ shown z f x
unfolding row_state
left_is u z f w x r d same world objects head changed =
    let c : x ≡ world_done d u.objects r.world.now = changed ∙ ap (world_done d u.objects) (sym world) in
    λ i. record { memory = sym objects i; registers = same i; world = sym c i; head = sym head i }

pub row_goes : (m : Value → Step Table (Unit {0})) (i j : Value) → i ≡ j → (v u z : View) (f : Frame) (w x : World) (r : Words) (d : Deed) → registers_in r ≡ registers_of f → r.world.now ≡ w
    → (m i).run (row_state v.objects v.head r) ≡ Went tt (with_deed d (row_state u.objects u.head r))
    → z.objects ≡ deed_done d u.objects → z.head ≡ u.head → x ≡ world_done d u.objects w → (m j).run (shown v f w) ≡ Went tt (shown z f x)
row_goes m i j is v u z f w x r d same world does objects head changed =
    let to : (m i).run (shown v f w) ≡ Went tt (shown z f x) = ap (λ (s : State Table). (m i).run s) (sym (loaded v f w r same world))
    ∙ (does ∙ ap (λ (s : State Table). Went tt s) (left_is u z f w x r d same world objects head changed)) in
    subst (λ (y : Value). (m y).run (shown v f w) ≡ Went tt (shown z f x)) is to

-- a row that leaves nothing to be done
pub row_does : (m : Step Table (Unit {0})) (v u : View) (f : Frame) (w : World) (r : Words) (x : Result (Unit {0}) Dead) → registers_in r ≡ registers_of f → r.world.now ≡ w
    → m.run (row_state v.objects v.head r) ≡ transition_of itself x (row_state u.objects u.head r) → m.run (shown v f w) ≡ transition_of itself x (shown u f w)
row_does m v u f w r x same world does =
    ap (λ (s : State Table). m.run s) (sym (loaded v f w r same world)) ∙ (does ∙ ap (λ (s : State Table). transition_of itself x s) (loaded u f w r same world))

pub row_dies : (m : Value → Step Table (Unit {0})) (i j : Value) → i ≡ j → (v : View) (f : Frame) (w : World) (r : Words) (k : Dead) → registers_in r ≡ registers_of f → r.world.now ≡ w
    → (m i).run (row_state v.objects v.head r) ≡ Died k → (m j).run (shown v f w) ≡ Died k
row_dies m i j is v f w r k same world does =
    let to : (m i).run (shown v f w) ≡ Died k = ap (λ (s : State Table). (m i).run s) (sym (loaded v f w r same world)) ∙ does in
    subst (λ (y : Value). (m y).run (shown v f w) ≡ Died k) is to

-- a row with a result of either sort, whose registers go on
pub row_ends : (m : Value → Step Table (Unit {0})) (i j : Value) → i ≡ j → (v u : View) (f : Frame) (w : World) (r q : Words) → registers_in r ≡ registers_of f → r.world.now ≡ w
    → (m i).run (row_state v.objects v.head r) ≡ Went tt (row_state u.objects u.head q) → (m j).run (shown v f w) ≡ Went tt (row_state u.objects u.head q)
row_ends m i j is v u f w r q same world does =
    let to : (m i).run (shown v f w) ≡ Went tt (row_state u.objects u.head q) = ap (λ (s : State Table). (m i).run s) (sym (loaded v f w r same world)) ∙ does in
    subst (λ (y : Value). (m y).run (shown v f w) ≡ Went tt (row_state u.objects u.head q)) is to

-- one step, and then another
pub next_dies : (m n : Step Table (Unit {0})) (s : State Table) (k : Dead) → m.run s ≡ Died k → (m >> n).run s ≡ Died k
unfolding ◌>>◌ ◌>>=◌ after
next_dies m n s k e = ap (λ (x : Answers). after x (λ a t. n.run t)) e

pub next_goes : (m n : Step Table (Unit {0})) (s t : State Table) → m.run s ≡ Went tt t → (m >> n).run s ≡ n.run t
unfolding ◌>>◌ ◌>>=◌ after
next_goes m n s t e = ap (λ (x : Answers). after x (λ a t. n.run t)) e

-- the newest pending signal

pub next_made : (v u : View) (f : Frame) (w : World) (x : Value) → u.objects ≡ v.objects → u.head ≡ v.head → newest_of w.devices.pending ≡ Some x
    → (signal_next bounded_table).run (shown v f w) ≡ (signal bounded_table x).run (shown u f (changed_world TakeSignal w))
unfolding signal_next signal_if_any newest_signal change_world world_changed ◌>>◌ ◌>>=◌ after
next_made v u f w x objects head e =
    let same : shown v f (changed_world TakeSignal w) ≡ shown u f (changed_world TakeSignal w) = λ i. record { memory = sym objects i; registers = registers_of f; world = changed_world TakeSignal w; head = sym head i } in
    rw e (ap (λ (s : State Table). (signal bounded_table x).run s) same)

has_newest : (x : Value) (xs : List Value) → (y : Value) × slice_get (x ∷ xs) (length xs) ≡ Some y
has_newest x [] = (x, refl)
has_newest x (y ∷ ys) = has_newest y ys

none_newest : (xs : List Value) → newest_of xs ≡ None → xs ≡ []
none_newest [] e = refl
none_newest (x ∷ xs) e =
    let n : length (x ∷ xs) - 1 ≡ length xs = omega arith in
    let h : None ≡ Some (has_newest x xs).0 = sym e ∙ (ap (slice_get (x ∷ xs)) n ∙ (has_newest x xs).1) in
    cc

untaken : (w : World) → w.devices.pending ≡ [] → changed_world TakeSignal w ≡ w
untaken w q =
    let none : List Value → World = λ ys. record w { devices = record w.devices { pending = take (length ys - 1) ys } } in
    let some : List Value → World = λ ys. record w { devices = record w.devices { pending = ys } } in
    ap none q ∙ sym (ap some q)

pub next_none : (v u : View) (f : Frame) (w x : World) → u.objects ≡ v.objects → u.head ≡ v.head → newest_of w.devices.pending ≡ None → x ≡ changed_world TakeSignal w
    → (signal_next bounded_table).run (shown v f w) ≡ Went tt (shown u f x)
unfolding signal_next signal_if_any newest_signal answer ◌>>◌ ◌>>=◌ after
next_none v u f w x objects head e c =
    let same : w ≡ x = sym (untaken w (none_newest w.devices.pending e)) ∙ sym c in
    rw e (λ i. Went tt (record { memory = sym objects i; registers = registers_of f; world = same i; head = sym head i }))

pub newest_first : (n : ℕ) (s t : State Table) → (signal_next bounded_table).run s ≡ Went tt t → (signal_newest bounded_table (suc n)).run s ≡ (signal_newest bounded_table n).run t
unfolding signal_newest
newest_first n s t e = next_goes (signal_next bounded_table) (signal_newest bounded_table n) s t e

pub newest_dies : (n : ℕ) (s : State Table) (k : Dead) → (signal_next bounded_table).run s ≡ Died k → (signal_newest bounded_table (suc n)).run s ≡ Died k
unfolding signal_newest
newest_dies n s k e = next_dies (signal_next bounded_table) (signal_newest bounded_table n) s k e

pub none_left : (s : State Table) → (signal_newest bounded_table 0).run s ≡ Went tt s
unfolding signal_newest answer
none_left s = refl

-- a switch to a process

pub switched : (p : Value) (s t : State Table) → (leave_process bounded_table p).run s ≡ Went tt t → (switch_to_process bounded_table p).run s ≡ (enter_process bounded_table p).run t
unfolding switch_to_process
switched p s t e = next_goes (leave_process bounded_table p) (enter_process bounded_table p) s t e

pub not_left : (p : Value) (s : State Table) (k : Dead) → (leave_process bounded_table p).run s ≡ Died k → (switch_to_process bounded_table p).run s ≡ Died k
unfolding switch_to_process
not_left p s k e = next_dies (leave_process bounded_table p) (enter_process bounded_table p) s k e

by_waiting : (p : Value) (s : State Table) (b : Bool) → not b ≡ true → (switch_unless_nil bounded_table p b).run s ≡ (switch_to_process bounded_table p).run s
unfolding switch_unless_nil
by_waiting p s true e = cc
by_waiting p s false e = refl

none_waiting : (p : Value) (s : State Table) (b : Bool) → not b ≡ false → (switch_unless_nil bounded_table p b).run s ≡ Went tt s
unfolding switch_unless_nil answer
none_waiting p s true e = refl
none_waiting p s false e = cc

pub waits : (s : State Table) → not (same_value s.world.devices.new_process nil) ≡ true → (switch_if_waiting bounded_table).run s ≡ (switch_to_process bounded_table s.world.devices.new_process).run s
unfolding switch_if_waiting get_device of_page ◌>>=◌ after
waits s e = by_waiting s.world.devices.new_process s (same_value s.world.devices.new_process nil) e

pub waits_not : (s : State Table) → not (same_value s.world.devices.new_process nil) ≡ false → (switch_if_waiting bounded_table).run s ≡ Went tt s
unfolding switch_if_waiting get_device of_page ◌>>=◌ after
waits_not s e = none_waiting s.world.devices.new_process s (same_value s.world.devices.new_process nil) e

pub there_after : (p : Value) (v : View) (f : Frame) (w : World) (t : Table) (a : Head) (r : Words) → IsWhole v → IsReady v f w
    → (switch_to_process bounded_table p).run (shown v f w) ≡ Went tt (row_state t a r) → are_there table t (registers_in r) ≡ true
unfolding row_state
there_after p v f w t a r whole ready e =
    let start : IsSound (shown v f w) = record { places = whole.places; closed = is_closed v f w whole ready } in
    let roots = (switched_sound (shown v f w) (row_state t a r) p start whole.most_entries e).0.closed.roots in
    all_four (is_there table t (word r.active)) (is_there table t (word r.home)) (is_there table t (word r.method)) (is_there table t (word r.receiver))
    (word_there t r.active roots.0 r.active_narrow) (word_there t r.home roots.1.0 r.home_narrow)
    (word_there t r.method roots.1.1.0 r.method_narrow) (word_there t r.receiver roots.1.1.1.0 r.receiver_narrow)

pub held_again : (v u : View) (f : Frame) (w : World) (r : Words) → registers_of f ≡ registers_in r → r.world.now ≡ w → u.objects ≡ v.objects → u.head ≡ v.head
    → row_state v.objects v.head r ≡ shown u f w
unfolding row_state
held_again v u f w r e q o h = λ i. record { memory = sym o i; registers = sym e i; world = q i; head = sym h i }

-- a process that is stored

pub not_switched : (s : State Table) (k : Dead) → (switch_if_waiting bounded_table).run s ≡ Died k → (store_process bounded_table).run s ≡ Died k
unfolding store_process
not_switched s k e = next_dies (switch_if_waiting bounded_table) (store_active bounded_table >> fetch_scheduled_registers bounded_table) s k e

pub not_stored : (s t : State Table) (k : Dead) → (switch_if_waiting bounded_table).run s ≡ Went tt t → (store_active bounded_table).run t ≡ Died k → (store_process bounded_table).run s ≡ Died k
unfolding store_process
not_stored s t k e f = next_goes (switch_if_waiting bounded_table) (store_active bounded_table >> fetch_scheduled_registers bounded_table) s t e
    ∙ next_dies (store_active bounded_table) (fetch_scheduled_registers bounded_table) t k f

pub stored : (s t u : State Table) → (switch_if_waiting bounded_table).run s ≡ Went tt t → (store_active bounded_table).run t ≡ Went tt u
    → (store_process bounded_table).run s ≡ (fetch_scheduled_registers bounded_table).run u
unfolding store_process
stored s t u e f = next_goes (switch_if_waiting bounded_table) (store_active bounded_table >> fetch_scheduled_registers bounded_table) s t e
    ∙ next_goes (store_active bounded_table) (fetch_scheduled_registers bounded_table) t u f

pub fetched_bounded : (s : State Table) → (fetch_scheduled_registers bounded_table).run s ≡ (fetch_scheduled_registers table).run s
fetched_bounded s = as_table (λ H m. fetch_scheduled_registers m) (λ H K M N sim. fetch_scheduled_registers-same sim) s

-- what comes before a bytecode

pub signals_die : (s : State Table) (k : Dead) → (signal_newest bounded_table (length s.world.devices.pending)).run s ≡ Died k → (check_process_switch bounded_table).run s ≡ Died k
unfolding check_process_switch count_signals ◌>>=◌ after
signals_die s k e = next_dies (signal_newest bounded_table (length s.world.devices.pending)) (switch_if_waiting bounded_table) s k e

pub signals_made : (s t : State Table) → (signal_newest bounded_table (length s.world.devices.pending)).run s ≡ Went tt t → (check_process_switch bounded_table).run s ≡ (switch_if_waiting bounded_table).run t
unfolding check_process_switch count_signals ◌>>=◌ after
signals_made s t e = next_goes (signal_newest bounded_table (length s.world.devices.pending)) (switch_if_waiting bounded_table) s t e

quiet_parts : (a b c : Bool) → (a && (b && c)) ≡ true → (a ≡ true) × (b ≡ true)
quiet_parts true true c e = (refl, refl)
quiet_parts true false c e = cc
quiet_parts false b c e = cc

pub no_signals : (xs : List Value) → (length xs == 0) ≡ true → length xs ≡ 0
no_signals [] e = refl
no_signals (x ∷ xs) e = grind (arith, nat_tests, e)

-- nothing comes before a bytecode where nothing is asked
pub quiet_goes : (s : State Table) → (length s.world.devices.pending == 0 && (not (is_held nil s.world.devices.new_process) && not (is_held nil s.world.devices.low_space))) ≡ true
    → (check_process_switch bounded_table).run s ≡ Went tt s
quiet_goes s e =
    let p = quiet_parts (length s.world.devices.pending == 0) (not (is_held nil s.world.devices.new_process)) (not (is_held nil s.world.devices.low_space)) e in
    let none : (signal_newest bounded_table (length s.world.devices.pending)).run s ≡ Went tt s =
    ap (λ (n : ℕ). (signal_newest bounded_table n).run s) (no_signals s.world.devices.pending p.0) ∙ none_left s in
    signals_made s s none ∙ waits_not s (held_not (is_held nil s.world.devices.new_process) p.1)
  where
    held_not : (b : Bool) → not b ≡ true → b ≡ false
    held_not true f = cc
    held_not false f = refl
