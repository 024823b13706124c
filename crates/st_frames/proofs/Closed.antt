-- What a memory says of itself makes the state that it shows closed.
use Rattle.std.proofs.Common.{◌≡◌, ℕ, suc, List, [], ◌∷◌, ◌++◌, Option, Some, None, true, refl, subst}
use Rattle.std.specs.Prelude.{◌-◌, length, replicate, slice_index_or}
use Rattle.st_model.specs.Values.{Value, Small, Ref, value, AllLive, IsLive}
use Rattle.st_model.specs.Objects.{nil, place_of}
use Rattle.st_model.specs.declared.page.PageObject.TheVariants.{NilObject}
use Rattle.st_model.specs.declared.place.RootPlace.TheVariants as place
use Rattle.st_model.specs.Machine.{Registers, Devices, World, table_root, head_roots, device_roots, empty_world}
use Rattle.st_model.specs.Table.{Table}
use Rattle.st_model.specs.Show.{IsUsed, IsClosed}
use Rattle.st_model.specs.Start.{idle_registers, idle_state}
use Rattle.st_model.specs.View.{View, is_live, IsKnown, IsComplete, IsWhole}
use Rattle.st_frames.specs.declared.frame.Frame.{Frame}
use Rattle.st_frames.specs.inside.Shown.{shown, registers_of, with_registers, filled, IsReady}
use Rattle.st_frames.proofs.Known.{known_active, known_home, known_method, known_receiver}
use Rattle.st_model.proofs.WholeLemmas.{live_used as used, known_live}

live_used : (t : Table) (x : Value) → is_live t x ≡ true → IsLive (IsUsed t) x
live_used t (Small n) e = tt
live_used t (Ref n) e = used t n e

both_live : (live : ℕ → Type 0) (xs ys : List Value) → AllLive live xs → AllLive live ys → AllLive live (xs ++ ys)
both_live live [] ys h k = k
both_live live (x ∷ xs) ys h k = (h.0, both_live live xs ys h.1 k)

root_live : (t : Table) (r : Option Value) → ((x : Value) → r ≡ Some x → is_live t x ≡ true) → AllLive (IsUsed t) (table_root r)
root_live t None f = tt
root_live t (Some x) f = (live_used t x (f x refl), tt)

-- what stands before others in a list of what is known
all_live : (t : Table) (xs ys : List Value) → ((k : ℕ) → IsKnown t (slice_index_or (xs ++ ys) k nil)) → AllLive (IsUsed t) xs
all_live t [] ys h = tt
all_live t (x ∷ xs) ys h = (known_live t x (h 0), all_live t xs ys (λ k. h (suc k)))

-- what the memory holds for the devices is there
devices_live : (v : View) (d : Devices) → IsWhole v → v.held.devices ≡ filled d → AllLive (IsUsed v.objects) (device_roots d)
devices_live v d w e =
    let t = v.objects in
    let at : (p : Devices → Value) → IsKnown t (p v.held.devices) → IsLive (IsUsed t) (p (filled d)) = λ p k. known_live t (p (filled d)) (subst (λ (x : Devices). IsKnown t (p x)) e k) in (
      at (λ x. x.new_process) (w.held place.NewProcess),
      (
        at (λ x. x.display) (w.held place.Display),
        (
          at (λ x. x.cursor) (w.held place.Cursor),
          (
            at (λ x. x.input_semaphore) (w.held place.InputSemaphore),
            (
              at (λ x. x.timer) (w.held place.Timer),
              (
                at (λ x. x.low_space) (w.held place.LowSpace),
                all_live t d.pending (replicate (4096 - length d.pending) nil)
                    (λ k. subst (λ (x : Devices). IsKnown t (slice_index_or x.pending k nil)) e (w.held (place.Pending k))),
              ),
            ),
          ),
        ),
      ),
    )

module _ (v : View) (c : IsComplete v) where
  is_used : (n : ℕ) → is_live v.objects (Ref n) ≡ true → IsUsed v.objects n
  is_used = used v.objects

  -- a memory under registers and a world that name nothing but what is there
  closed_with : (r : Registers) (w : World) → AllLive (IsUsed v.objects) (r.active ∷ r.home ∷ r.method ∷ r.receiver ∷ []) → AllLive (IsUsed v.objects) (device_roots w.devices)
      → IsClosed (with_registers v r w)
  closed_with r w there devices =
      let t = v.objects in
      let tables = both_live (IsUsed t) (table_root v.head.globals) (table_root v.head.symbols) (root_live t v.head.globals c.globals) (root_live t v.head.symbols c.symbols) in
      let others = both_live (IsUsed t) (head_roots v.head) (device_roots w.devices) tables devices in
      record {
        objects = c.objects;
        page = λ q. is_used (place_of q) (c.page q);
        roots = (there.0, (there.1.0, (there.1.1.0, (there.1.1.1.0, others))));
      }

  -- before the registers are fetched
  pub closed_idle : IsClosed (idle_state v)
  closed_idle =
      let empty = is_used (place_of NilObject) (c.page NilObject) in
      closed_with idle_registers (empty_world nil) (empty, (empty, (empty, (empty, tt)))) (empty, (empty, (empty, (empty, (empty, (empty, tt))))))

pub is_closed : (v : View) (f : Frame) (w : World) → IsWhole v → IsReady v f w → IsClosed (shown v f w)
is_closed v f w whole ready =
    let frame = ready.frame in
    let t = v.objects in
    closed_with v whole.complete (registers_of f) w (
      known_live t (value f.active) (known_active whole frame),
      (known_live t (value f.home) (known_home whole frame), (known_live t (value f.method) (known_method whole frame), (known_live t (value f.receiver) (known_receiver whole frame), tt))),
    ) (devices_live v w.devices whole ready.devices)
