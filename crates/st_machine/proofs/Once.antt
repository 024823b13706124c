-- After what comes before a bytecode no signal is pending and no process waits, and so done again it does nothing.
use Rattle.std.proofs.Common.{◌≡◌, ℕ, zero, suc, List, [], ◌∷◌, length, Option, Some, None, Bool, true, false, refl, sym, ◌∙◌, ap, subst, arith}
use Rattle.std.specs.Prelude.{◌-◌, slice_get, take}
use Rattle.std.proofs.lemmas.List.{length-take}
use Rattle.st_model.specs.declared.device.Device.{Device}
use Rattle.st_model.specs.declared.device.Device.TheVariants as device
use Rattle.st_model.specs.declared.device.Device.TheVariants.{NewProcess}
use Rattle.st_model.specs.declared.page.PageObject.{PageObject}
use Rattle.st_model.specs.declared.page.PageObject.TheVariants.{NilObject}
use Rattle.st_model.specs.Values.{Value, Ref}
use Rattle.st_model.specs.Objects.{place_of}
use Rattle.st_model.specs.Machine.{World, State, Transition, Died, Went, Step, answer, after, ◌>>=◌, ◌>>◌}
use Rattle.st_model.specs.Births.{Births, births}
use Rattle.st_model.specs.Surroundings.{Hold, TakeSignal, newest_of, changed_world}
use Rattle.st_model.specs.Steps.{of_page, same_value, get_device, newest_signal, count_signals, change_world, world_changed}
use Rattle.st_model.specs.Processes.{signal, let_wait, leave_process, enter_process, switch_to_process}
use Rattle.st_model.specs.Cycles.{signal_if_any, signal_next, signal_newest, switch_unless_nil, switch_if_waiting, check_process_switch, cycle, cycle_from, run, run_of, finished, finished_of, and_on, counted}
use Rattle.st_machine.specs.Prepared.{prepared, PreparesOnce, CycleGoesOn, CycleDies, RunGoesOn, CountGoesOn}
use Rattle.st_machine.proofs.Keeping as keeping
use Rattle.st_model.proofs.SameValues.{same_ref}
use Rattle.st_model.proofs.BirthLemmas.{bearer-replaced}

abbrev Over : Type 0
Over = State Births

-- two steps, one after the other, that go on
record Halves {A B : Type 0} (m : Step Births A) (f : A → Step Births B) (s t : Over) (b : B) : Type 0 where
  value : A
  middle : Over
  first : m.run s ≡ Went value middle
  second : (f value).run middle ≡ Went b t

module _ {A B : Type 0} (m : Step Births A) (f : A → Step Births B) (s t : Over) (b : B) where
  halves_of : (x : Transition Over A) → m.run s ≡ x → after x (λ a u. (f a).run u) ≡ Went b t → Halves m f s t b
  unfolding after
  halves_of (Died k) p e = cc
  halves_of (Went a u) p e = record { value = a; middle = u; first = p; second = e }

  halves : (m >>= f).run s ≡ Went b t → Halves m f s t b
  unfolding ◌>>=◌
  halves e = halves_of (m.run s) refl e

next_halves : {A B : Type 0} (m : Step Births A) (n : Step Births B) (s t : Over) (b : B) → (m >> n).run s ≡ Went b t → Halves m (λ a. n) s t b
unfolding ◌>>◌
next_halves m n s t b e = halves m (λ a. n) s t b e

went_state : {A : Type 0} (a b : Over) (x y : A) → (let z : Transition Over A = Went x a in z ≡ Went y b) → a ≡ b
went_state a b x y e = cc

went_value : {A : Type 0} (a b : Over) (x y : A) → (let z : Transition Over A = Went x a in z ≡ Went y b) → x ≡ y
went_value a b x y e = cc

-- WHAT STAYS

-- the signals that are pending
abbrev SamePending : Over → Over → Type 0
SamePending s t = t.world.devices.pending ≡ s.world.devices.pending

-- what lies round the machine, and the names of the page
abbrev SameRound : Over → Over → Type 0
SameRound s t = (t.world ≡ s.world) × ((q : PageObject) → births.named t.memory q ≡ births.named s.memory q)

held_pending : (a : Over) (d : Device) (x : Value) → SamePending a (record a { world = changed_world (Hold d x) a.world })
held_pending a device.NewProcess x = refl
held_pending a device.Display x = refl
held_pending a device.Cursor x = refl
held_pending a device.InputSemaphore x = refl
held_pending a device.Timer x = refl
held_pending a device.LowSpace x = refl

signal_pending : (v : Value) (s t : Over) (u : Unit) → (signal births v).run s ≡ Went u t → SamePending s t
signal_pending v s t u e = (keeping.signal-keeps births SamePending (λ a. refl) (λ a b c p q. q ∙ p) (λ a n o. refl) (λ a r. refl) held_pending v).keeps s t u e

pub switched_pending : (p : Value) (s t : Over) (u : Unit) → (switch_to_process births p).run s ≡ Went u t → SamePending s t
switched_pending p s t u e = (keeping.switch_to_process-keeps births SamePending (λ a. refl) (λ a b c p q. q ∙ p) (λ a n o. refl) (λ a r. refl) held_pending p).keeps s t u e

pub entered_round : (p : Value) (s t : Over) (u : Unit) → (enter_process births p).run s ≡ Went u t → SameRound s t
entered_round p s t u e =
    (keeping.enter_process-keeps births SameRound (λ a. (refl, λ q. refl)) (λ a b c p q. (q.0 ∙ p.0, λ k. q.1 k ∙ p.1 k))
    (λ a n o. (refl, λ q. bearer-replaced a.memory n (place_of q) o)) (λ a r. (refl, λ q. refl)) p).keeps s t u e

-- SIGNALS

none_newest : (xs : List Value) → newest_of xs ≡ None → length xs ≡ 0
none_newest [] e = refl
none_newest (x ∷ xs) e = let h = some_newest x xs in cc
  where
    has : (x : Value) (xs : List Value) → (y : Value) × slice_get (x ∷ xs) (length xs) ≡ Some y
    has x [] = (x, refl)
    has x (y ∷ ys) = has y ys

    some_newest : (x : Value) (xs : List Value) → newest_of (x ∷ xs) ≡ Some (has x xs).0
    some_newest x xs = let n : length (x ∷ xs) - 1 ≡ length xs = omega arith in ap (slice_get (x ∷ xs)) n ∙ (has x xs).1

-- one signal less is pending
abbrev IsOneLess : Over → Over → Type 0
IsOneLess s t = length t.world.devices.pending ≡ length s.world.devices.pending - 1

if_any : (v : Option Value) (s t : Over) → newest_of s.world.devices.pending ≡ v → (signal_if_any births v).run s ≡ Went tt t → IsOneLess s t
unfolding signal_if_any answer change_world world_changed
if_any None s t p e =
    let same = went_state s t tt tt e in
    let none = none_newest s.world.devices.pending p in
    let k : length t.world.devices.pending ≡ length s.world.devices.pending = ap (λ (x : Over). length x.world.devices.pending) (sym same) in
    omega (arith, k, none)
if_any (Some v) s t p e =
    let h = next_halves (change_world births TakeSignal) (signal births v) s t tt e in
    let taken : record s { world = changed_world TakeSignal s.world } ≡ h.middle = went_state _ h.middle tt h.value h.first in
    let k : t.world.devices.pending ≡ take (length s.world.devices.pending - 1) s.world.devices.pending =
    signal_pending v h.middle t tt h.second ∙ ap (λ (x : Over). x.world.devices.pending) (sym taken) in
    let l = ap length k in
    let m = length-take (length s.world.devices.pending - 1) s.world.devices.pending in
    omega (arith, l, m)

next_less : (s t : Over) → (signal_next births).run s ≡ Went tt t → IsOneLess s t
unfolding signal_next newest_signal
next_less s t e =
    let h = halves newest_signal (signal_if_any births) s t tt e in
    let same : s ≡ h.middle = went_state s h.middle _ h.value h.first in
    let v : newest_of s.world.devices.pending ≡ h.value = went_value s h.middle _ h.value h.first in
    if_any h.value s t v (subst (λ (x : Over). (signal_if_any births h.value).run x ≡ Went tt t) (sym same) h.second)

pub newest_less : (n : ℕ) (s t : Over) → (signal_newest births n).run s ≡ Went tt t → length t.world.devices.pending ≡ length s.world.devices.pending - n
unfolding signal_newest answer
newest_less zero s t e =
    let k = ap (λ (x : Over). length x.world.devices.pending) (sym (went_state s t tt tt e)) in
    omega (arith, k)
newest_less (suc n) s t e =
    let h = next_halves (signal_next births) (signal_newest births n) s t tt e in
    let a = next_less s h.middle h.first in
    let b = newest_less n h.middle t h.second in
    omega (arith, a, b)

-- THE SWITCH

-- no process waits
abbrev NoneWaits : Over → Type 0
NoneWaits s = same_value s.world.devices.new_process (Ref (births.named s.memory NilObject)) ≡ true

held_state : (v : Value) (s t : Over) (there : Bool) → world_changed (Hold NewProcess v) s there ≡ Went tt t → record s { world = changed_world (Hold NewProcess v) s.world } ≡ t
unfolding world_changed
held_state v s t true e = went_state _ t tt tt e
held_state v s t false e = cc

-- the process that waited is left behind, and none waits
left_none : (p : Value) (s t : Over) → (leave_process births p).run s ≡ Went tt t → t.world.devices.new_process ≡ Ref (births.named t.memory NilObject)
unfolding leave_process of_page let_wait change_world world_changed
left_none p s t e =
    let a = halves _ _ s t tt e in
    let b = halves _ _ a.middle t tt a.second in
    let c = next_halves _ _ b.middle t tt b.second in
    let d = halves _ _ c.middle t tt c.second in
    let f = next_halves _ _ d.middle t tt d.second in
    let g = halves _ _ f.middle t tt f.second in
    let nil : Ref (births.named f.middle.memory NilObject) ≡ g.value = went_value f.middle g.middle _ g.value g.first in
    let same : f.middle ≡ g.middle = went_state f.middle g.middle _ g.value g.first in
    let last : record g.middle { world = changed_world (Hold NewProcess g.value) g.middle.world } ≡ t = held_state g.value g.middle t _ g.second in
    ap (λ (x : Over). x.world.devices.new_process) (sym last) ∙ (sym nil ∙ (ap (λ (x : Over). Ref (births.named x.memory NilObject)) same ∙ ap (λ (x : Over). Ref (births.named x.memory NilObject)) last))

switched_none : (p : Value) (s t : Over) → (switch_to_process births p).run s ≡ Went tt t → NoneWaits t
unfolding switch_to_process
switched_none p s t e =
    let h = next_halves (leave_process births p) (enter_process births p) s t tt e in
    let k = entered_round p h.middle t tt h.second in
    let l = left_none p s h.middle h.first in
    let m : t.world.devices.new_process ≡ Ref (births.named t.memory NilObject) =
    ap (λ (w : World). w.devices.new_process) k.0 ∙ (l ∙ ap (λ n. Ref n) (sym (k.1 NilObject))) in
    ap (λ v. same_value v (Ref (births.named t.memory NilObject))) m ∙ same_ref (births.named t.memory NilObject)

unless_none : (p : Value) (b : Bool) (s t : Over) → (b ≡ true → NoneWaits s) → (switch_unless_nil births p b).run s ≡ Went tt t → NoneWaits t
unfolding switch_unless_nil answer
unless_none p true s t h e = subst NoneWaits (went_state s t tt tt e) (h refl)
unless_none p false s t h e = switched_none p s t e

waiting_none : (s t : Over) → (switch_if_waiting births).run s ≡ Went tt t → NoneWaits t
unfolding switch_if_waiting get_device of_page ◌>>=◌ after
waiting_none s t e = unless_none s.world.devices.new_process (same_value s.world.devices.new_process (Ref (births.named s.memory NilObject))) s t (λ h. h) e

unless_pending : (p : Value) (b : Bool) (s t : Over) → (switch_unless_nil births p b).run s ≡ Went tt t → SamePending s t
unfolding switch_unless_nil answer
unless_pending p true s t e = ap (λ (x : Over). x.world.devices.pending) (sym (went_state s t tt tt e))
unless_pending p false s t e = switched_pending p s t tt e

waiting_pending : (s t : Over) → (switch_if_waiting births).run s ≡ Went tt t → SamePending s t
unfolding switch_if_waiting get_device of_page ◌>>=◌ after
waiting_pending s t e = unless_pending s.world.devices.new_process (same_value s.world.devices.new_process (Ref (births.named s.memory NilObject))) s t e

-- ONCE

-- nothing comes before a bytecode
record Calm (s : Over) : Type 0 where
  signals : length s.world.devices.pending ≡ 0
  none : NoneWaits s

calm_after : (s t : Over) → prepared s ≡ Went tt t → Calm t
unfolding check_process_switch count_signals
calm_after s t e =
    let h = halves count_signals _ s t tt e in
    let n : length s.world.devices.pending ≡ h.value = went_value s h.middle _ h.value h.first in
    let same : s ≡ h.middle = went_state s h.middle _ h.value h.first in
    let k = next_halves (signal_newest births h.value) (switch_if_waiting births) h.middle t tt h.second in
    let l = newest_less h.value h.middle k.middle k.first in
    let m = ap (λ (x : Over). length x.world.devices.pending) same in
    let p = ap length (waiting_pending k.middle t k.second) in
    record { signals = omega (arith, n, l, m, p); none = waiting_none k.middle t k.second }

unless_still : (p : Value) (b : Bool) (s : Over) → b ≡ true → (switch_unless_nil births p b).run s ≡ Went tt s
unfolding switch_unless_nil answer
unless_still p true s h = refl
unless_still p false s h = cc

newest_still : (n : ℕ) (s : Over) → n ≡ 0 → (signal_newest births n >> switch_if_waiting births).run s ≡ (switch_if_waiting births).run s
unfolding signal_newest answer ◌>>◌ ◌>>=◌ after
newest_still zero s e = refl
newest_still (suc n) s e = cc

waiting_still : (s : Over) → NoneWaits s → (switch_if_waiting births).run s ≡ Went tt s
unfolding switch_if_waiting get_device of_page ◌>>=◌ after
waiting_still s h = unless_still s.world.devices.new_process (same_value s.world.devices.new_process (Ref (births.named s.memory NilObject))) s h

calm_still : (s : Over) → Calm s → prepared s ≡ Went tt s
unfolding check_process_switch count_signals ◌>>=◌ after
calm_still s c = newest_still (length s.world.devices.pending) s c.signals ∙ waiting_still s c.none

pub prepares_once : PreparesOnce
prepares_once s t e = calm_still t (calm_after s t e)

pub cycle_goes_on : CycleGoesOn
unfolding cycle
cycle_goes_on s t e = ap (cycle_from births) (prepares_once s t e ∙ sym e)

pub cycle_dies : CycleDies
unfolding cycle
cycle_dies s k e = ap (cycle_from births) e

pub run_goes_on : RunGoesOn
unfolding run run_of
run_goes_on n s t e = ap (λ x. and_on x (λ u. run_of (cycle births) n u)) (cycle_goes_on s t e)

pub count_goes_on : CountGoesOn
unfolding finished finished_of
count_goes_on n s t e = ap (λ x. counted x (λ u. finished_of (cycle births) n u)) (cycle_goes_on s t e)
