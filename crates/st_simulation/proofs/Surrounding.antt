-- What lies round the machine: what it holds lives through each change, and stands for the same over pointers.
use Rattle.std.proofs.Common.{◌≡◌, ℕ, List, [], ◌∷◌, zero, suc, refl, ap, ◌∙◌, length}
use Rattle.std.specs.Prelude.{◌-◌, ◌++◌, take, slice_get}
use Rattle.st_model.specs.declared.device.Device.{Device}
use Rattle.st_model.specs.declared.device.Device.TheVariants as device
use Rattle.st_model.specs.Values.{Value, renamed, renamed_all, IsLive, AllLive}
use Rattle.st_model.specs.Machine.{ObjectMemory, Devices, World, device_roots}
use Rattle.st_model.specs.Show.{renamed_devices, renamed_world, renamed_option}
use Rattle.st_model.specs.Surroundings.{Change, Hold, AddSignal, TakeSignal, SetDue, SetLow, MoveMouse, AddWord, TakeWord, SetSecondClock, SetMillisecondClock, held_by, holding, newest_of, changed_world, named_by, renamed_change}
use Rattle.st_simulation.proofs.Same.{Simulation, length-renamed, get-renamed}

module _ (P : ℕ → Type 0) where
  pub held_live : (d : Device) (ds : Devices) → AllLive P (device_roots ds) → IsLive P (held_by ds d)
  held_live device.NewProcess ds h = h.0
  held_live device.Display ds h = h.1.0
  held_live device.Cursor ds h = h.1.1.0
  held_live device.InputSemaphore ds h = h.1.1.1.0
  held_live device.Timer ds h = h.1.1.1.1.0
  held_live device.LowSpace ds h = h.1.1.1.1.1.0

  holding_live : (d : Device) (ds : Devices) (v : Value) → AllLive P (device_roots ds) → IsLive P v → AllLive P (device_roots (holding ds d v))
  holding_live device.NewProcess ds v h l = (l, h.1)
  holding_live device.Display ds v h l = (h.0, (l, h.1.1))
  holding_live device.Cursor ds v h l = (h.0, (h.1.0, (l, h.1.1.1)))
  holding_live device.InputSemaphore ds v h l = (h.0, (h.1.0, (h.1.1.0, (l, h.1.1.1.1))))
  holding_live device.Timer ds v h l = (h.0, (h.1.0, (h.1.1.0, (h.1.1.1.0, (l, h.1.1.1.1.1)))))
  holding_live device.LowSpace ds v h l = (h.0, (h.1.0, (h.1.1.0, (h.1.1.1.0, (h.1.1.1.1.0, (l, h.1.1.1.1.1.1))))))

  joined_live : (vs : List Value) (v : Value) → AllLive P vs → IsLive P v → AllLive P (vs ++ v ∷ [])
  joined_live [] v h l = (l, tt)
  joined_live (w ∷ vs) v h l = (h.0, joined_live vs v h.1 l)

  taken_live : (n : ℕ) (vs : List Value) → AllLive P vs → AllLive P (take n vs)
  taken_live zero vs h = tt
  taken_live (suc n) [] h = tt
  taken_live (suc n) (v ∷ vs) h = (h.0, taken_live n vs h.1)

  with_pending : (ds : Devices) (vs : List Value) → AllLive P (device_roots ds) → AllLive P vs → AllLive P (device_roots (record ds { pending = vs }))
  with_pending ds vs h l = (h.0, (h.1.0, (h.1.1.0, (h.1.1.1.0, (h.1.1.1.1.0, (h.1.1.1.1.1.0, l))))))

  -- what the world holds after a change lives, as what it held and what the change names
  pub changed_live : (c : Change) (w : World) → AllLive P (named_by c) → AllLive P (device_roots w.devices) → AllLive P (device_roots (changed_world c w).devices)
  changed_live (Hold d v) w l h = holding_live d w.devices v h l.0
  changed_live (AddSignal v) w l h = with_pending w.devices (w.devices.pending ++ v ∷ []) h (joined_live w.devices.pending v h.1.1.1.1.1.1 l.0)
  changed_live TakeSignal w l h = with_pending w.devices (take (length w.devices.pending - 1) w.devices.pending) h (taken_live (length w.devices.pending - 1) w.devices.pending h.1.1.1.1.1.1)
  changed_live (SetDue t) w l h = h
  changed_live (SetLow a b) w l h = h
  changed_live (MoveMouse x y) w l h = h
  changed_live (AddWord n) w l h = h
  changed_live TakeWord w l h = h
  changed_live (SetSecondClock n) w l h = h
  changed_live (SetMillisecondClock n) w l h = h

module _ (f : ℕ → ℕ) where
  pub held-renamed : (d : Device) (ds : Devices) → held_by (renamed_devices f ds) d ≡ renamed f (held_by ds d)
  held-renamed device.NewProcess ds = refl
  held-renamed device.Display ds = refl
  held-renamed device.Cursor ds = refl
  held-renamed device.InputSemaphore ds = refl
  held-renamed device.Timer ds = refl
  held-renamed device.LowSpace ds = refl

  holding-renamed : (d : Device) (ds : Devices) (v : Value) → holding (renamed_devices f ds) d (renamed f v) ≡ renamed_devices f (holding ds d v)
  holding-renamed device.NewProcess ds v = refl
  holding-renamed device.Display ds v = refl
  holding-renamed device.Cursor ds v = refl
  holding-renamed device.InputSemaphore ds v = refl
  holding-renamed device.Timer ds v = refl
  holding-renamed device.LowSpace ds v = refl

  joined-renamed : (vs : List Value) (v : Value) → renamed_all f vs ++ renamed f v ∷ [] ≡ renamed_all f (vs ++ v ∷ [])
  joined-renamed [] v = refl
  joined-renamed (w ∷ vs) v = ap (λ ws. renamed f w ∷ ws) (joined-renamed vs v)

  taken-renamed : (n : ℕ) (vs : List Value) → take n (renamed_all f vs) ≡ renamed_all f (take n vs)
  taken-renamed zero vs = refl
  taken-renamed (suc n) [] = refl
  taken-renamed (suc n) (v ∷ vs) = ap (λ ws. renamed f v ∷ ws) (taken-renamed n vs)

  pub changed-renamed : (c : Change) (w : World) → changed_world (renamed_change f c) (renamed_world f w) ≡ renamed_world f (changed_world c w)
  changed-renamed (Hold d v) w = ap (λ ds. record w { devices = ds }) (holding-renamed d w.devices v)
  changed-renamed (AddSignal v) w = ap (λ vs. record w { devices = record (renamed_devices f w.devices) { pending = vs } }) (joined-renamed w.devices.pending v)
  changed-renamed TakeSignal w =
      let n = ap (λ n. take (n - 1) (renamed_all f w.devices.pending)) (length-renamed f w.devices.pending) in
      ap (λ vs. record w { devices = record (renamed_devices f w.devices) { pending = vs } }) (n ∙ taken-renamed (length w.devices.pending - 1) w.devices.pending)
  changed-renamed (SetDue t) w = refl
  changed-renamed (SetLow a b) w = refl
  changed-renamed (MoveMouse x y) w = refl
  changed-renamed (AddWord n) w = refl
  changed-renamed TakeWord w = refl
  changed-renamed (SetSecondClock n) w = refl
  changed-renamed (SetMillisecondClock n) w = refl

  pub named-renamed : (c : Change) → named_by (renamed_change f c) ≡ renamed_all f (named_by c)
  named-renamed (Hold d v) = refl
  named-renamed (AddSignal v) = refl
  named-renamed TakeSignal = refl
  named-renamed (SetDue t) = refl
  named-renamed (SetLow a b) = refl
  named-renamed (MoveMouse x y) = refl
  named-renamed (AddWord n) = refl
  named-renamed TakeWord = refl
  named-renamed (SetSecondClock n) = refl
  named-renamed (SetMillisecondClock n) = refl

pub newest-renamed : {H K : Type 0} {M : ObjectMemory H} {N : ObjectMemory K} (sim : Simulation M N) (vs : List Value)
    → newest_of (renamed_all sim.name vs) ≡ renamed_option sim.name (newest_of vs)
newest-renamed sim vs = ap (λ n. slice_get (renamed_all sim.name vs) (n - 1)) (length-renamed sim.name vs) ∙ get-renamed sim.name vs (length vs - 1)
