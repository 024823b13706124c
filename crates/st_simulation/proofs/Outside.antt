-- What lies round a machine over a table that shows births is what lies round them, with references written as pointers; also
-- once an event has come, or space is low.
use Rattle.std.proofs.Common.{◌≡◌, ℕ, length, Option, Some, None, Bool, true, false, refl, sym, ◌∙◌, ap, subst, arith}
use Rattle.std.specs.Prelude.{◌==◌, ◌&&◌, not, nat_lt, nat_le, if◌then◌else◌}
use Rattle.std.specs.Option.{option_map}
use Rattle.std.proofs.lemmas.Bool.Decides.{nat_tests}
use Rattle.st_model.specs.declared.device.Device.{Device}
use Rattle.st_model.specs.declared.device.Device.TheVariants.{InputSemaphore, Timer, LowSpace}
use Rattle.st_model.specs.declared.event.Event.{Event}
use Rattle.st_model.specs.declared.event.Event.TheVariants as events
use Rattle.st_model.specs.declared.demand.Demand.{Demand}
use Rattle.st_model.specs.Values.{Value, Small, Ref, renamed, IsLive, AllLive}
use Rattle.st_model.specs.declared.page.PageObject.TheVariants.{NilObject}
use Rattle.st_model.specs.Objects.{place_of}
use Rattle.st_model.specs.Machine.{World, State, less, capacity_of, free_space, device_roots, head_roots}
use Rattle.st_model.specs.Steps.{same_value}
use Rattle.st_model.specs.Births.{Births, births, bearer, borne}
use Rattle.st_model.specs.Table.{Table, table}
use Rattle.st_model.specs.Show.{Shows, IsKept, IsUsed, renamed_world}
use Rattle.st_model.specs.Births.{pointer_of}
use Rattle.st_model.specs.Surroundings.{Hold, AddSignal, AddWord, MoveMouse, SetSecondClock, SetMillisecondClock, held_by, changed_world}
use Rattle.st_model.specs.Events.{is_held, signalled_once, has_signal_room, word_comes, is_due, time_comes, comes, in_world, event}
use Rattle.st_model.specs.Cycles.{is_low, warned_if_low, warned}
use Rattle.st_model.specs.inside.Foreseen.{IsSound, ShownIfTaken}
use Rattle.st_simulation.proofs.Same.{length-renamed}
use Rattle.st_simulation.proofs.Surrounding.{held_live, held-renamed, changed_live, changed-renamed}
use Rattle.st_model.proofs.Names.{device_part, with_devices}
use Rattle.st_model.proofs.BirthLemmas.{pointer_of-borne}
use Rattle.st_simulation.proofs.HeapsSame.{same_used}
use Rattle.st_simulation.proofs.Started.{naming, heaps_start}

-- a table under another world is as sound, where what that world holds is there
in_world_sound : (c : State Table) (w : World) → IsSound c → AllLive (IsUsed c.memory) (device_roots w.devices) → IsSound (in_world c w)
in_world_sound c w k h =
    let r = k.closed.roots in
    record {
      places = k.places;
      closed = record { objects = k.closed.objects; page = k.closed.page; roots = (r.0, (r.1.0, (r.1.1.0, (r.1.1.1.0, with_devices _ (head_roots c.head) _ _ r.1.1.1.1 h)))) };
    }

once_live : (P : ℕ → Type 0) (nil : Value) (d : Device) (w : World) → IsLive P nil → AllLive P (device_roots w.devices) → AllLive P (device_roots (signalled_once nil d w).devices)
once_live P nil d w n h =
    changed_live P (Hold d nil) (changed_world (AddSignal (held_by w.devices d)) w) (n, tt) (changed_live P (AddSignal (held_by w.devices d)) w (held_live P d w.devices h, tt) h)

warned_live : (P : ℕ → Type 0) (nil : Value) (free : Demand) (w : World) → IsLive P nil → AllLive P (device_roots w.devices) → AllLive P (device_roots (warned_if_low nil free w).devices)
warned_live P nil free w n h = by_test (is_held nil w.devices.low_space && (is_low free w && nat_lt (length w.devices.pending) 4096))
  where
    by_test : (b : Bool) → AllLive P (device_roots (if b then signalled_once nil LowSpace w else w).devices)
    by_test true = once_live P nil LowSpace w n h
    by_test false = h

pub warned_sound : (c : State Table) → IsSound c → IsSound (warned table c)
warned_sound c k =
    let h = device_part _ (head_roots c.head) _ k.closed.roots.1.1.1.1 in
    in_world_sound c (warned_if_low (Ref (place_of NilObject)) (free_space table c) c.world) k
    (warned_live (IsUsed c.memory) (Ref (place_of NilObject)) (free_space table c) c.world (k.closed.page NilObject) h)

same_test : (m n a b : ℕ) → (a ≡ b → m ≡ n) → (m ≡ n → a ≡ b) → (a == b) ≡ (m == n)
same_test m n a b f g = grind (arith, nat_tests)

module _ (c : State Table) (s : State Births) (w : Shows c s) where
  abbrev pointer : ℕ → ℕ
  pointer = pointer_of s.memory

  abbrev nil_born : Value
  nil_born = Ref (bearer s.memory (place_of NilObject))

  abbrev nil_there : Value
  nil_there = Ref (place_of NilObject)

  nil_kept : IsKept s.memory (bearer s.memory (place_of NilObject))
  nil_kept = (place_of NilObject, w.page NilObject)

  nil_shown : renamed pointer nil_born ≡ nil_there
  nil_shown = ap (λ n. Ref n) (pointer_of-borne s.memory (bearer s.memory (place_of NilObject)) (place_of NilObject) (w.page NilObject))

  held_live_now : AllLive (IsKept s.memory) (device_roots s.world.devices)
  held_live_now = device_part _ (head_roots s.head) _ w.roots.1.1.1.1

  -- a name is that of nil in both, or in neither
  same_nil : (v : Value) → IsLive (IsKept s.memory) v → same_value (renamed pointer v) nil_there ≡ same_value v nil_born
  same_nil (Small n) l = refl
  same_nil (Ref n) l =
      let b = bearer s.memory (place_of NilObject) in
      let p : pointer n ≡ l.0 = pointer_of-borne s.memory n l.0 l.1 in
      same_test n b (pointer n) (place_of NilObject)
      (λ e. w.distinct n b (place_of NilObject) (subst (λ x. borne s.memory n ≡ Some x) (sym p ∙ e) l.1) (w.page NilObject))
      (λ e. ap pointer e ∙ pointer_of-borne s.memory b (place_of NilObject) (w.page NilObject))

  same_held : (v : Value) → IsLive (IsKept s.memory) v → is_held nil_there (renamed pointer v) ≡ is_held nil_born v
  same_held v l = ap (λ b. not b) (same_nil v l)

  -- under another world, the births under the world that stands for it are shown
  world_shown : (a b : World) → a ≡ renamed_world pointer b → AllLive (IsKept s.memory) (device_roots b.devices) → Shows (in_world c a) (in_world s b)
  world_shown a b e h =
      let r = w.roots in
      record {
        objects = w.objects;
        only = w.only;
        distinct = w.distinct;
        closed = w.closed;
        page = w.page;
        roots = (r.0, (r.1.0, (r.1.1.0, (r.1.1.1.0, with_devices _ (head_roots s.head) _ _ r.1.1.1.1 h))));
        registers = w.registers;
        world = e;
        head = w.head;
      }

  once-renamed : (d : Device) (a : World) → signalled_once nil_there d (renamed_world pointer a) ≡ renamed_world pointer (signalled_once nil_born d a)
  once-renamed d a =
      let x = changed_world (AddSignal (held_by a.devices d)) a in
      let e : changed_world (AddSignal (held_by (renamed_world pointer a).devices d)) (renamed_world pointer a) ≡ renamed_world pointer x =
      ap (λ v. changed_world (AddSignal v) (renamed_world pointer a)) (held-renamed pointer d a.devices) ∙ changed-renamed pointer (AddSignal (held_by a.devices d)) a in
      (λ i. changed_world (Hold d (sym nil_shown i)) (e i)) ∙ changed-renamed pointer (Hold d nil_born) x

  pending-renamed : (a : World) → length (renamed_world pointer a).devices.pending ≡ length a.devices.pending
  pending-renamed a = length-renamed pointer a.devices.pending

  same_free : free_space table c ≡ free_space births s
  same_free =
      let e = same_used (naming c s w) s.memory c.memory (heaps_start c s w) in
      λ i. less (capacity_of (w.head i)) (e i)

  if_renamed : (x y : Bool) (a b : World) → x ≡ y → a ≡ renamed_world pointer b → (if x then a else renamed_world pointer s.world) ≡ renamed_world pointer (if y then b else s.world)
  if_renamed x true a b e f = rw e f
  if_renamed x false a b e f = rw e refl

  warned-renamed : (free : Demand) → warned_if_low nil_there free (renamed_world pointer s.world) ≡ renamed_world pointer (warned_if_low nil_born free s.world)
  warned-renamed free =
      let held = same_held s.world.devices.low_space (held_live _ LowSpace s.world.devices held_live_now) in
      let few = pending-renamed s.world in
      if_renamed _ _ _ _ (λ i. held i && (is_low free s.world && nat_lt (few i) 4096)) (once-renamed LowSpace s.world)

  pub warned_shown : Shows (warned table c) (warned births s)
  warned_shown =
      let e : warned_if_low nil_there (free_space table c) c.world ≡ renamed_world pointer (warned_if_low nil_born (free_space births s) s.world) =
      (λ i. warned_if_low nil_there (same_free i) (w.world i)) ∙ warned-renamed (free_space births s) in
      world_shown _ _ e (warned_live (IsKept s.memory) nil_born (free_space births s) s.world nil_kept held_live_now)

  -- events

  if_all : (x y : Bool) (a : Option World) (b : Option World) (p q : Option World) → x ≡ y → a ≡ option_map (renamed_world pointer) b → p ≡ option_map (renamed_world pointer) q
      → (if x then a else p) ≡ option_map (renamed_world pointer) (if y then b else q)
  if_all x true a b p q e f g = rw e f
  if_all x false a b p q e f g = rw e g

  word-renamed : (n : ℕ) → word_comes nil_there n (renamed_world pointer s.world) ≡ option_map (renamed_world pointer) (word_comes nil_born n s.world)
  word-renamed n =
      let held = same_held s.world.devices.input_semaphore (held_live _ InputSemaphore s.world.devices held_live_now) in
      let few = pending-renamed s.world in
      let added = changed-renamed pointer (AddSignal s.world.devices.input_semaphore) (changed_world (AddWord n) s.world) in
      if_all _ _ _ _ _ _ refl
      (if_all _ _ _ _ _ _ held (if_all _ _ _ _ _ _ (λ i. nat_lt (few i) 4096) (ap (λ x. Some x) added) refl) refl)
      refl

  time-renamed : (time : ℕ) → time_comes nil_there time (renamed_world pointer s.world) ≡ option_map (renamed_world pointer) (time_comes nil_born time s.world)
  time-renamed time =
      let held = same_held s.world.devices.timer (held_live _ Timer s.world.devices held_live_now) in
      let few = pending-renamed s.world in
      let set = changed_world (SetMillisecondClock time) s.world in
      if_all _ _ _ _ _ _ (λ i. held i && nat_le s.world.timer_due time)
      (if_all _ _ _ _ _ _ (λ i. nat_lt (few i) 4096) (ap (λ x. Some x) (once-renamed Timer set)) refl) refl

  comes-renamed : (e : Event) → comes nil_there e (renamed_world pointer s.world) ≡ option_map (renamed_world pointer) (comes nil_born e s.world)
  comes-renamed (events.Word n) = word-renamed n
  comes-renamed (events.Mouse x y) = refl
  comes-renamed (events.Clock time) = refl
  comes-renamed (events.Tick time) = time-renamed time

  word_live : (n : ℕ) (b : World) → word_comes nil_born n s.world ≡ Some b → AllLive (IsKept s.memory) (device_roots b.devices)
  word_live n b e = by_tests (nat_lt (length s.world.waiting) 256) (is_held nil_born s.world.devices.input_semaphore) (has_signal_room s.world) e
    where
      live : AllLive (IsKept s.memory) (device_roots (changed_world (AddSignal s.world.devices.input_semaphore) (changed_world (AddWord n) s.world)).devices)
      live = changed_live (IsKept s.memory) (AddSignal s.world.devices.input_semaphore) (changed_world (AddWord n) s.world) (held_live _ InputSemaphore s.world.devices held_live_now, tt) held_live_now

      is : (a : World) → Some a ≡ Some b → AllLive (IsKept s.memory) (device_roots a.devices) → AllLive (IsKept s.memory) (device_roots b.devices)
      is a f h = let q : a ≡ b = cc in subst (λ (x : World). AllLive (IsKept s.memory) (device_roots x.devices)) q h

      by_tests : (x y z : Bool)
          → (if x then (if y then (if z then Some (changed_world (AddSignal s.world.devices.input_semaphore) (changed_world (AddWord n) s.world)) else None) else Some (changed_world (AddWord n) s.world)) else None) ≡ Some b
          → AllLive (IsKept s.memory) (device_roots b.devices)
      by_tests false y z f = cc
      by_tests true false z f = is _ f held_live_now
      by_tests true true false f = cc
      by_tests true true true f = is _ f live

  time_live : (time : ℕ) (b : World) → time_comes nil_born time s.world ≡ Some b → AllLive (IsKept s.memory) (device_roots b.devices)
  time_live time b e = by_tests (is_due nil_born time s.world) (has_signal_room s.world) e
    where
      set : World
      set = changed_world (SetMillisecondClock time) s.world

      is : (a : World) → Some a ≡ Some b → AllLive (IsKept s.memory) (device_roots a.devices) → AllLive (IsKept s.memory) (device_roots b.devices)
      is a f h = let q : a ≡ b = cc in subst (λ (x : World). AllLive (IsKept s.memory) (device_roots x.devices)) q h

      by_tests : (x y : Bool) → (if x then (if y then Some (signalled_once nil_born Timer (changed_world (SetMillisecondClock time) s.world)) else None) else Some (changed_world (SetMillisecondClock time) s.world)) ≡ Some b
          → AllLive (IsKept s.memory) (device_roots b.devices)
      by_tests false y f = is _ f held_live_now
      by_tests true false f = cc
      by_tests true true f = is _ f (once_live (IsKept s.memory) nil_born Timer (changed_world (SetMillisecondClock time) s.world) nil_kept held_live_now)

  comes_live : (e : Event) (b : World) → comes nil_born e s.world ≡ Some b → AllLive (IsKept s.memory) (device_roots b.devices)
  comes_live (events.Word n) b f = word_live n b f
  comes_live (events.Mouse x y) b f = let q : changed_world (MoveMouse x y) s.world ≡ b = cc in subst (λ (x : World). AllLive (IsKept s.memory) (device_roots x.devices)) q held_live_now
  comes_live (events.Clock time) b f = let q : changed_world (SetSecondClock time) s.world ≡ b = cc in subst (λ (x : World). AllLive (IsKept s.memory) (device_roots x.devices)) q held_live_now
  comes_live (events.Tick time) b f = time_live time b f

  came : (x y : Option World) → x ≡ option_map (renamed_world pointer) y → ((b : World) → y ≡ Some b → AllLive (IsKept s.memory) (device_roots b.devices))
      → ShownIfTaken (option_map (in_world c) x) (option_map (in_world s) y)
  came x None e k = rw e tt
  came x (Some b) e k = rw e (world_shown (renamed_world pointer b) b refl (k b refl))

  -- what an event makes of the table shows what it makes of the births
  pub event_shown : (e : Event) → ShownIfTaken (event table e c) (event births e s)
  unfolding event
  event_shown e = came _ _ (ap (comes nil_there e) w.world ∙ comes-renamed e) (comes_live e)
