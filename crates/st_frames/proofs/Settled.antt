-- What the memory's settling leaves is what the definition reclaims: the memory holds what the world names, and nil besides,
-- which is on the root page.
use Rattle.std.proofs.Common.{◌≡◌, ℕ, List, ◌∷◌, ◌++◌, sym, ap, ◌∙◌, subst, inl, inr, ◌⊎◌, replicate}
use Rattle.std.specs.Prelude.{◌-◌, length}
use mathlib.Core.Path.{fun_ext}
use Rattle.st_model.specs.declared.page.PageObject.TheVariants.{NilObject}
use Rattle.st_model.specs.Values.{Value, value}
use Rattle.st_model.specs.Objects.{nil}
use Rattle.st_model.specs.Machine.{Devices, World, Head, head_roots, device_roots, roots_of}
use Rattle.st_model.specs.Table.{Table, table, settled_table}
use Rattle.st_model.specs.Settled.{AnyRefTo, IsRefTo, IsRoot, held_root, page_root, IsSettled, settled_set, reclaim}
use Rattle.st_model.specs.View.{View, SettlesTo, view_roots}
use Rattle.st_model.proofs.SettledIs.{settled_is, settled_once}
use Rattle.st_model.proofs.Roots.{any_either, any_left, any_right, any_replicate, settled_alike}
use Rattle.st_frames.specs.declared.frame.Frame.{Frame}
use Rattle.st_frames.specs.inside.Shown.{shown, registers_of, filled, IsReady}
use Rattle.st_model.proofs.Reclaiming.{table_finite}

-- what a memory holds for devices is what they name, or nil

names_with : (d : Devices) (ps qs : List Value) (n : ℕ) → (AnyRefTo n ps → AnyRefTo n qs ⊎ IsRefTo n nil)
    → AnyRefTo n (device_roots (record d { pending = ps })) → AnyRefTo n (device_roots (record d { pending = qs })) ⊎ IsRefTo n nil
names_with d ps qs n f (inl h) = inl (inl h)
names_with d ps qs n f (inr (inl h)) = inl (inr (inl h))
names_with d ps qs n f (inr (inr (inl h))) = inl (inr (inr (inl h)))
names_with d ps qs n f (inr (inr (inr (inl h)))) = inl (inr (inr (inr (inl h))))
names_with d ps qs n f (inr (inr (inr (inr (inl h))))) = inl (inr (inr (inr (inr (inl h)))))
names_with d ps qs n f (inr (inr (inr (inr (inr (inl h)))))) = inl (inr (inr (inr (inr (inr (inl h))))))
names_with d ps qs n f (inr (inr (inr (inr (inr (inr h)))))) = elim (f h) [ inl x ↦ inl (inr (inr (inr (inr (inr (inr x)))))) | inr x ↦ inr x ]

filled_names : (d : Devices) (n : ℕ) → AnyRefTo n (device_roots (filled d)) → AnyRefTo n (device_roots d) ⊎ IsRefTo n nil
filled_names d n = names_with d (d.pending ++ replicate (4096 - length d.pending) nil) d.pending n (λ h. elim (any_either n d.pending (replicate (4096 - length d.pending) nil) h) [
  | inl x ↦ inl x
  | inr x ↦ inr (any_replicate n (4096 - length d.pending) nil x)
])

names_filled : (d : Devices) (n : ℕ) → AnyRefTo n (device_roots d) → AnyRefTo n (device_roots (filled d)) ⊎ IsRefTo n nil
names_filled d n = names_with d d.pending (d.pending ++ replicate (4096 - length d.pending) nil) n (λ h. inl (any_left n d.pending (replicate (4096 - length d.pending) nil) h))

abbrev roots_with : Value → Value → Value → Value → Head → Devices → List Value
roots_with a h m r head d = a ∷ h ∷ m ∷ r ∷ (head_roots head ++ device_roots d)

module _ (t : Table) (a h m r : Value) (head : Head) (d e : Devices) (n : ℕ) (f : AnyRefTo n (device_roots d) → AnyRefTo n (device_roots e) ⊎ IsRefTo n nil) where
  roots_among : AnyRefTo n (roots_with a h m r head d) → AnyRefTo n (roots_with a h m r head e) ⊎ IsRefTo n nil
  roots_among (inl x) = inl (inl x)
  roots_among (inr (inl x)) = inl (inr (inl x))
  roots_among (inr (inr (inl x))) = inl (inr (inr (inl x)))
  roots_among (inr (inr (inr (inl x)))) = inl (inr (inr (inr (inl x))))
  roots_among (inr (inr (inr (inr x)))) = elim (any_either n (head_roots head) (device_roots d) x) [
    | inl y ↦ inl (inr (inr (inr (inr (any_left n (head_roots head) (device_roots e) y)))))
    | inr y ↦ elim (f y) [
      | inl z ↦ inl (inr (inr (inr (inr (any_right n (head_roots head) (device_roots e) z)))))
      | inr z ↦ inr z
    ]
  ]

  root_among : IsRoot table t (roots_with a h m r head d) n → IsRoot table t (roots_with a h m r head e) n
  root_among (held_root k) = elim (roots_among k) [ inl x ↦ held_root x | inr x ↦ page_root NilObject x ]
  root_among (page_root q x) = page_root q x

-- the registers are what is held
view_roots_are : (u : View) (f : Frame) (w : World) → IsReady u f w → view_roots u ≡ roots_with (value f.active) (value f.home) (value f.method) (value f.receiver) u.head (filled w.devices)
view_roots_are u f w ready = λ i. sym ready.frame.active i ∷ sym ready.frame.home i ∷ sym ready.frame.method i ∷ sym ready.frame.receiver i ∷ (head_roots u.head ++ device_roots (ready.devices i))

settled_shown : (u : View) (f : Frame) (w : World) (set : ℕ → _) → IsReady u f w → IsSettled table u.objects (view_roots u) set → IsSettled table u.objects (roots_of (shown u f w)) set
settled_shown u f w set ready s =
    let with_devices : Devices → List Value = roots_with (value f.active) (value f.home) (value f.method) (value f.receiver) u.head in
    let among = root_among u.objects (value f.active) (value f.home) (value f.method) (value f.receiver) u.head in
    settled_alike table u.objects (with_devices (filled w.devices)) (with_devices w.devices)
    (λ n. among (filled w.devices) w.devices n (filled_names w.devices n)) (λ n. among w.devices (filled w.devices) n (names_filled w.devices n)) set
    (subst (λ xs. IsSettled table u.objects xs set) (view_roots_are u f w ready) s)

pub settled_same : (u v : View) (f : Frame) (w : World) → IsReady u f w → SettlesTo u v → reclaim table (shown u f w) ≡ shown v f w
unfolding reclaim
settled_same u v f w ready r =
    let roots = roots_of (shown u f w) in
    let mine = settled_shown u f w r.set ready r.is_settled in
    let set : settled_set table u.objects roots ≡ r.set =
    fun_ext (settled_once table u.objects roots (settled_set table u.objects roots) r.set (settled_is table u.objects roots (table_finite u.objects)) mine) in
    let objects : settled_table u.objects (settled_set table u.objects roots) ≡ v.objects = ap (settled_table u.objects) set ∙ sym r.objects in
    λ i. record { memory = objects i; registers = registers_of f; world = w; head = sym r.head i }
