-- How often what is held refers, and how many references there can be.
use Rattle.std.proofs.Common.{◌≡◌, ℕ, suc, ◌+◌, ◌/◌, ◌<◌, ◌≤◌, Bool, true, false, cond, List, [], ◌∷◌, length, get_or, refl, sym, ap, subst, is_some, arith}
use Rattle.std.specs.Prelude.{◌==◌, Option, Some, None, if◌then◌else◌}
use Rattle.std.proofs.lemmas.List.{set-get_or}
use Rattle.std.proofs.lemmas.Option.{slice_get-get_or}
use Rattle.st_model.specs.Limits.{most_words}
use Rattle.st_model.specs.declared.place.RootPlace.{RootPlace}
use Rattle.st_model.specs.declared.place.RootPlace.TheVariants as place
use Rattle.st_model.specs.declared.kind.Kind.{Kind}
use Rattle.st_model.specs.declared.kind.Kind.TheVariants as kind
use Rattle.st_model.specs.Values.{Value}
use Rattle.st_model.specs.Objects.{Object, page, nil, words_of, is_words, holds_fields}
use Rattle.st_model.specs.Formed.{IsFormed}
use Rattle.st_model.specs.Machine.{Head, table_root, head_roots, device_roots}
use Rattle.st_model.specs.Table.{Table, entry, total_used}
use Rattle.st_model.specs.Settled.{names}
use Rattle.st_model.specs.View.{View, Held, view_roots, held_at, with_held, IsPlace, IsWhole}
use Rattle.st_counted.specs.inside.Counts.{number_at}
use Rattle.st_counted.specs.inside.References.{times, object_uses, uses, page_values, all_roots, references, IsCounted}
use Rattle.st_counted.proofs.Tallying.{counted_alike, tally_most}
use Rattle.st_counted.proofs.Referring.{times_append, times_set}

abbrev pub register_roots : Held → List Value
register_roots h = h.active ∷ h.home ∷ h.method ∷ h.receiver ∷ []

-- how often the places of the registers and the devices name k
abbrev pub held_times : ℕ → Held → ℕ
held_times k h = times k (register_roots h) + times k (device_roots h.devices)

pub roots_parts : (v : View) (k : ℕ) → times k (all_roots v) ≡ times k (page_values page) + (times k (head_roots v.head) + held_times k v.held)
roots_parts v k =
    let a = times_append k (page_values page) (view_roots v) in
    let b = times_append k (head_roots v.head) (device_roots v.held.devices) in omega (arith, a, b)

-- what a place holds is held there already
pub held_already : (h : Held) (p : RootPlace) → with_held h p (held_at h p) ≡ h
held_already h place.Active = refl
held_already h place.Home = refl
held_already h place.Method = refl
held_already h place.Receiver = refl
held_already h place.NewProcess = refl
held_already h place.Display = refl
held_already h place.Cursor = refl
held_already h place.InputSemaphore = refl
held_already h place.Timer = refl
held_already h place.LowSpace = refl
held_already h (place.Pending k) = λ i. record h { devices = record h.devices { pending = set-get_or h.devices.pending k nil i } }

-- a place takes a reference, and gives what it held
held_moves : (h : Held) (p : RootPlace) (x : Value) (k : ℕ) → IsPlace p → length h.devices.pending ≡ 4096 → held_times k (with_held h p x) + times k (held_at h p ∷ []) ≡ held_times k h + times k (x ∷ [])
held_moves h place.Active x k is long = omega arith
held_moves h place.Home x k is long = omega arith
held_moves h place.Method x k is long = omega arith
held_moves h place.Receiver x k is long = omega arith
held_moves h place.NewProcess x k is long = omega arith
held_moves h place.Display x k is long = omega arith
held_moves h place.Cursor x k is long = omega arith
held_moves h place.InputSemaphore x k is long = omega arith
held_moves h place.Timer x k is long = omega arith
held_moves h place.LowSpace x k is long = omega arith
held_moves h (place.Pending j) x k is long =
    let pending = h.devices.pending in
    let a = times_set k pending j x (get_or pending j nil) (slice_get-get_or pending j nil (subst (λ n. j < n) (sym long) is)) in omega (arith, a)

pub counted_held : (v w : View) (hand : List Value) (cs : List (Option ℕ)) (p : RootPlace) (x : Value) → IsCounted v.objects (all_roots v) (x ∷ hand) cs → IsPlace p → length v.held.devices.pending ≡ 4096
    → w.objects ≡ v.objects → w.held ≡ with_held v.held p x → w.head ≡ v.head → IsCounted w.objects (all_roots w) (held_at v.held p ∷ hand) cs
counted_held v w hand cs p x h is long objects held head =
    counted_alike v.objects w.objects (all_roots v) (all_roots w) (x ∷ hand) (held_at v.held p ∷ hand) cs h
    (λ k. ap (λ (t : Table). is_some (entry t k)) objects)
    (λ k.
    let a = roots_parts v k in
    let b = roots_parts w k in
    let c : times k (head_roots w.head) ≡ times k (head_roots v.head) = ap (λ (g : Head). times k (head_roots g)) head in
    let d : held_times k w.held ≡ held_times k (with_held v.held p x) = ap (held_times k) held in
    let e = held_moves v.held p x k is long in
    let f : uses k w.objects ≡ uses k v.objects = ap (uses k) objects in omega (arith, a, b, c, d, e, f))

pub times_few : (k : ℕ) (xs : List Value) → times k xs ≤ length xs
times_few k [] = omega arith
times_few k (x ∷ xs) = let s = times_few k xs in by_case (names x k) s
  where
    by_case : (b : Bool) → times k xs ≤ length xs → cond b 1 0 + times k xs ≤ length (x ∷ xs)
    by_case true s = omega (arith, s)
    by_case false s = omega (arith, s)

pub object_few : (k : ℕ) (o : Object) → IsFormed o → object_uses k (Some o) ≤ words_of o
object_few k o formed = by_kind o.kind (λ h. ap length (formed.fieldless h)) (times_few k o.fields) (class_few (k == o.class))
  where
    class_few : (b : Bool) → cond b 1 0 ≤ 1
    class_few true = omega arith
    class_few false = omega arith

    by_kind : (kd : Kind) → (holds_fields kd ≡ false → length o.fields ≡ 0) → times k o.fields ≤ length o.fields → cond (k == o.class) 1 0 ≤ 1
        → cond (k == o.class) 1 0 + times k o.fields ≤ (if is_words kd then 2 + length o.units else 2 + length o.fields + (length o.units + 1) / 2)
    by_kind kind.Pointers none a b = omega (arith, a, b)
    by_kind kind.Words none a b = let z = none refl in omega (arith, a, b, z)
    by_kind kind.Bytes none a b = omega (arith, a, b)
    by_kind kind.Method none a b = omega (arith, a, b)

pub uses_few : (k : ℕ) (t : Table) → ((j : ℕ) (o : Object) → entry t j ≡ Some o → IsFormed o) → uses k t ≤ total_used words_of t
uses_few k [] formed = omega arith
uses_few k (None ∷ t) formed = let s = uses_few k t (λ j. formed (suc j)) in omega (arith, s)
uses_few k (Some o ∷ t) formed = let s = uses_few k t (λ j. formed (suc j)) in let a = object_few k o (formed 0 o refl) in omega (arith, s, a)

table_few : (k : ℕ) (x : Option Value) → times k (table_root x) ≤ 1
table_few k None = omega arith
table_few k (Some v) = let a = times_few k (v ∷ []) in omega (arith, a)

pub roots_few : (v : View) (k : ℕ) → length v.held.devices.pending ≡ 4096 → times k (all_roots v) ≤ 4200
roots_few v k long =
    let a = roots_parts v k in
    let b = times_few k (page_values page) in
    let c = times_append k (table_root v.head.globals) (table_root v.head.symbols) in
    let d = table_few k v.head.globals in
    let e = table_few k v.head.symbols in
    let f = times_few k (register_roots v.held) in
    let g = times_few k (device_roots v.held.devices) in omega (arith, a, b, c, d, e, f, g, long)

-- no count comes near its end
pub references_few : (v : View) (hand : List Value) (k : ℕ) → IsWhole v → references v.objects (all_roots v) hand k ≤ most_words + 4200 + length hand
references_few v hand k whole =
    let a = roots_few v k whole.pending in
    let b = uses_few k v.objects whole.formed in
    let c = whole.words in
    let d = whole.most_words in
    let e = times_few k hand in omega (arith, a, b, c, d, e)

pub counted_few : (v : View) (hand : List Value) (cs : List (Option ℕ)) (k : ℕ) → IsWhole v → IsCounted v.objects (all_roots v) hand cs → number_at cs k ≤ most_words + 4200 + length hand
counted_few v hand cs k whole h =
    let a = references_few v hand k whole in
    let b = tally_most v.objects (references v.objects (all_roots v) hand) cs k h.tallied in omega (arith, a, b)
