-- A memory holds what the world names, and goes on so where both change.
use Rattle.std.proofs.Common.{◌≡◌, ℕ, suc, ◌+◌, ◌-◌, ◌<◌, ◌≤◌, List, [], ◌∷◌, ◌++◌, length, take, replicate, Some, refl, sym, ap, ◌∙◌, subst, arith}
use Rattle.std.specs.Prelude.{get_or, slice_set, slice_index_or}
use Rattle.std.proofs.Math.Seq.{set-append_seam, take-length}
use Rattle.std.proofs.lemmas.List.{length-append, append_assoc, take_more, length-take-le, get_or_append_left}
use Rattle.std.proofs.lemmas.Option.{get_or_from_slice_get}
use Rattle.st_model.specs.declared.device.Device.{Device}
use Rattle.st_model.specs.declared.device.Device.TheVariants as device
use Rattle.st_model.specs.declared.place.RootPlace.TheVariants as place
use Rattle.st_model.specs.Values.{Value, value_of}
use Rattle.st_model.specs.Objects.{nil}
use Rattle.st_model.specs.declared.page.PageObject.TheVariants.{NilObject}
use Rattle.st_model.specs.Machine.{Devices, World}
use Rattle.st_model.specs.Surroundings.{held_by, holding, newest_of, changed_world, Hold, AddSignal, TakeSignal}
use Rattle.st_model.specs.View.{View, Held, IsKnown, IsWhole, with_held}
use Rattle.st_model.proofs.Words.{value_of-nil}
use Rattle.st_frames.specs.Naming.{filled, IsNaming, naming}

pub known_nil : {v : View} → IsWhole v → IsKnown v.objects (value_of 2)
known_nil {v} whole = subst (λ (x : Value). IsKnown v.objects x) (sym value_of-nil) (λ big. whole.complete.page NilObject)

-- devices

filled_holding : (d : Devices) (k : Device) (x : Value) → holding (filled d) k x ≡ filled (holding d k x)
filled_holding d device.NewProcess x = refl
filled_holding d device.Display x = refl
filled_holding d device.Cursor x = refl
filled_holding d device.InputSemaphore x = refl
filled_holding d device.Timer x = refl
filled_holding d device.LowSpace x = refl

pub device_named : (h : Held) (w : World) (k : Device) (x : Value) → IsNaming h w → record h { devices = holding h.devices k x } ≡ naming h (changed_world (Hold k x) w)
device_named h w k x e = ap (λ d. record h { devices = d }) (ap (λ d. holding d k x) e ∙ filled_holding w.devices k x)

held_known : (v : View) (w : World) → IsWhole v → IsNaming v.held w → (k : Device) → IsKnown v.objects (held_by w.devices k)
held_known v w whole e device.NewProcess = subst (λ (d : Devices). IsKnown v.objects d.new_process) e (whole.held place.NewProcess)
held_known v w whole e device.Display = subst (λ (d : Devices). IsKnown v.objects d.display) e (whole.held place.Display)
held_known v w whole e device.Cursor = subst (λ (d : Devices). IsKnown v.objects d.cursor) e (whole.held place.Cursor)
held_known v w whole e device.InputSemaphore = subst (λ (d : Devices). IsKnown v.objects d.input_semaphore) e (whole.held place.InputSemaphore)
held_known v w whole e device.Timer = subst (λ (d : Devices). IsKnown v.objects d.timer) e (whole.held place.Timer)
held_known v w whole e device.LowSpace = subst (λ (d : Devices). IsKnown v.objects d.low_space) e (whole.held place.LowSpace)

-- what a device holds is there
pub known_device : {v : View} {x : Value} (w : World) (k : Device) → IsWhole v → IsNaming v.held w → x ≡ held_by w.devices k → IsKnown v.objects x
known_device {v} {x} w k whole e same = subst (λ (y : Value). IsKnown v.objects y) (sym same) (held_known v w whole e k)

-- pending signals

module _ {A : Type 0} (n : ℕ) (xs : List A) (d : A) where
  added : (x : A) → length xs < n
      → slice_set (xs ++ replicate (n - length xs) d) (length xs) x ≡ (xs ++ x ∷ []) ++ replicate (n - length (xs ++ x ∷ [])) d
  added x l =
      let k = n - length (xs ++ x ∷ []) in
      let more = length-append xs (x ∷ []) in
      let e : n - length xs ≡ suc k = omega (arith, more, l) in
      ap (λ j. slice_set (xs ++ replicate j d) (length xs) x) e ∙ set-append_seam xs d (replicate k d) x ∙ sym (append_assoc xs (x ∷ []) (replicate k d))

  taken : 0 < length xs → length xs ≤ n
      → slice_set (xs ++ replicate (n - length xs) d) (length xs - 1) d ≡ take (length xs - 1) xs ++ replicate (n - length (take (length xs - 1) xs)) d
  taken some few =
      let i = length xs - 1 in
      let ys = take i xs in
      let z = get_or xs i d in
      let k = n - length xs in
      let inside : i < length xs = omega (arith, some) in
      let all : i + 1 ≡ length xs = omega (arith, some) in
      let short = length-take-le i xs (omega (arith, some)) in
      let whole : xs ≡ ys ++ z ∷ [] = sym (take-length xs) ∙ ap (λ j. take j xs) (sym all) ∙ take_more xs i d inside in
      let room : n - length ys ≡ suc k = omega (arith, short, some, few) in
      ap (λ us. slice_set (us ++ replicate k d) i d) whole ∙ ap (λ us. slice_set us i d) (append_assoc ys (z ∷ []) (replicate k d))
      ∙ ap (λ j. slice_set (ys ++ z ∷ replicate k d) j d) (sym short) ∙ set-append_seam ys z (replicate k d) d ∙ ap (λ j. ys ++ replicate j d) (sym room)

-- one more is pending, at the place of that number
pub signal_named : (h : Held) (w : World) (x : Value) → IsNaming h w → length w.devices.pending < 4096
    → with_held h (place.Pending (length w.devices.pending)) x ≡ naming h (changed_world (AddSignal x) w)
signal_named h w x e l =
    let n = length w.devices.pending in
    ap (λ d. record h { devices = record d { pending = slice_set d.pending n x } }) e
    ∙ ap (λ p. record h { devices = record w.devices { pending = p } }) (added 4096 w.devices.pending nil x l)

-- one fewer is pending
pub signal_gone : (h : Held) (w : World) → IsNaming h w → 0 < length w.devices.pending → length w.devices.pending ≤ 4096
    → with_held h (place.Pending (length w.devices.pending - 1)) nil ≡ naming h (changed_world TakeSignal w)
signal_gone h w e some few =
    let n = length w.devices.pending - 1 in
    ap (λ d. record h { devices = record d { pending = slice_set d.pending n nil } }) e
    ∙ ap (λ p. record h { devices = record w.devices { pending = p } }) (taken 4096 w.devices.pending nil some few)

pub any_newest : (xs : List Value) (x : Value) → newest_of xs ≡ Some x → 0 < length xs
any_newest [] x e = cc
any_newest (y ∷ ys) x e = omega arith

-- the newest signal's semaphore is there
pub known_newest : {v : View} {x : Value} (w : World) → IsWhole v → IsNaming v.held w → newest_of w.devices.pending ≡ Some x → IsKnown v.objects x
known_newest {v} {x} w whole e newest =
    let xs = w.devices.pending in
    let some = any_newest xs x newest in
    let n = length xs - 1 in
    let inside : n < length xs = omega (arith, some) in
    let at : get_or (xs ++ replicate (4096 - length xs) nil) n nil ≡ x =
    get_or_append_left xs (replicate (4096 - length xs) nil) nil n inside ∙ get_or_from_slice_get xs n x nil newest in
    subst (λ (y : Value). IsKnown v.objects y) at (subst (λ (d : Devices). IsKnown v.objects (slice_index_or d.pending n nil)) e (whole.held (place.Pending n)))

pub ruleset knowns = (known_nil, known_device, known_newest)

pub ruleset signals = (signal_named, signal_gone)
