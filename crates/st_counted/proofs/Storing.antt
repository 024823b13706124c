-- Counts while something is stored, held or made.
use Rattle.std.proofs.Common.{◌≡◌, ◌≢◌, ℕ, zero, suc, ◌+◌, ◌/◌, ◌<◌, ◌≤◌, true, false, cond, List, [], ◌∷◌, ◌++◌, length, drop, get_or, replicate, set, refl, sym, ap, ◌∙◌, subst, is_some, arith}
use Rattle.std.specs.Prelude.{◌==◌, Option, Some, slice_get}
use Rattle.std.proofs.lemmas.Option.{get_or_from_slice_get}
use Rattle.st_model.specs.declared.kind.Kind.{Kind}
use Rattle.st_model.specs.declared.kind.Kind.TheVariants as kind
use Rattle.std.proofs.lemmas.List.{length-replicate}
use Rattle.st_model.specs.declared.oop.Oop.{Oop}
use Rattle.st_model.specs.declared.place.RootPlace.{RootPlace}
use Rattle.st_model.specs.Values.{Value, Small, Ref, value, value_of, is_small}
use Rattle.st_model.specs.Objects.{nil}
use Rattle.st_model.specs.Formed.{fresh, IsMakeable}
use Rattle.st_model.specs.Settled.{names}
use Rattle.st_model.specs.Table.{Table, entry, first_free, placed}
use Rattle.st_model.specs.View.{View, is_live, object_of, with_stored, with_held, held_at, IsKnown, IsPlace}
use Rattle.st_model.proofs.Pointers.{value_of-even}
use Rattle.st_model.proofs.TableLemmas.{first_free-none}
use Rattle.st_counted.specs.inside.Counts.{is_counted, number_at, raised, lowered}
use Rattle.st_heap.specs.inside.Tables.{objects_of}
use Rattle.st_counted.specs.declared.contents.Contents.{Contents}
use Rattle.st_counted.specs.inside.Counted.{counted_view, numbers_of, AllCounted}
use Rattle.st_counted.specs.inside.References.{all_roots, nils_of, references, IsCounted, raised_by, lowered_by}
use Rattle.st_counted.proofs.Linked.{test_same, test_other}
use Rattle.st_counted.proofs.Tallying.{known_counted, times_replicate, hand_known, live_known, counted_raised, counted_lowered, counted_less, counted_alike, tally_entered, tally_number}
use Rattle.st_counted.proofs.Rooting.{counted_held}
use Rattle.st_counted.proofs.Referring.{counted_stored, counted_placed, uses_fresh}

pub nil_is : value_of 2 ≡ nil
unfolding value_of
nil_is = refl

-- a word of a name is twice its place
pub place_of_ref : (w n : ℕ) → value_of w ≡ Ref n → w / 2 ≡ n
place_of_ref w n e = half (sym (value_of-even w (ap is_small e)) ∙ e)
  where
    name : Value → ℕ
    name (Small x) = 0
    name (Ref x) = x

    half : Ref (w / 2) ≡ Ref n → w / 2 ≡ n
    half q = ap name q

pub raised_to : (t : Table) (roots hand : List Value) (cs cs1 : List (Option ℕ)) (v : Value) (n : ℕ) → IsCounted t roots hand cs → IsKnown t v → cs1 ≡ raised_by cs v n → IsCounted t roots (replicate n v ++ hand) cs1
raised_to t roots hand cs cs1 v n h known e = subst (λ ns. IsCounted t roots (replicate n v ++ hand) ns) (sym e) (counted_raised t roots hand cs v n h known)

pub lowered_to : (t : Table) (roots hand : List Value) (cs cs1 : List (Option ℕ)) (v : Value) → IsCounted t roots (v ∷ hand) cs → cs1 ≡ lowered_by cs v → IsCounted t roots hand cs1
lowered_to t roots hand cs cs1 v h e = subst (λ ns. IsCounted t roots hand ns) (sym e) (counted_lowered t roots hand cs v h)

-- what is stored or held is counted
pub name_counted : (m : Contents) (o : Oop) → AllCounted m → IsKnown (objects_of m.objects) (value o) → is_small (value o) ≡ false → is_counted (numbers_of m) (o.0 / 2) ≡ true
name_counted m o h = let v = counted_view m in known_counted v.objects (references v.objects (all_roots v) []) (numbers_of m) o.0 h.tallied

-- what a place held is in hand
pub held : (v w : View) (cs cs1 : List (Option ℕ)) (p : RootPlace) (x old : Value) → IsCounted v.objects (all_roots v) [] cs → IsKnown v.objects x → IsPlace p → length v.held.devices.pending ≡ 4096
    → cs1 ≡ raised_by cs x 1 → w.objects ≡ v.objects → w.held ≡ with_held v.held p x → w.head ≡ v.head → old ≡ held_at v.held p → IsCounted w.objects (all_roots w) (old ∷ []) cs1
held v w cs cs1 p x old h known is long raise objects place head was =
    subst (λ (y : Value). IsCounted w.objects (all_roots w) (y ∷ []) cs1) (sym was) (counted_held v w [] cs1 p x (raised_to v.objects (all_roots v) [] cs cs1 x 1 h known raise) is long objects place head)

-- the old value of a field is in hand
pub stored : (v : View) (cs cs1 : List (Option ℕ)) (t1 : Table) (o : Value) (i : ℕ) (x old : Value) → IsCounted v.objects (all_roots v) [] cs → IsKnown v.objects x → is_live v.objects o ≡ true
    → slice_get (object_of v.objects o).fields i ≡ Some old → cs1 ≡ raised_by cs x 1 → t1 ≡ with_stored v.objects o i x → IsCounted t1 (all_roots v) (old ∷ []) cs1
stored v cs cs1 t1 o i x old h known live there raise store =
    subst (λ (t : Table). IsCounted t (all_roots v) (old ∷ []) cs1) (sym store)
    (counted_stored v.objects (all_roots v) [] cs1 o i x old (raised_to v.objects (all_roots v) [] cs cs1 x 1 h known raise) live there)

-- a new object is counted, and so are its class and nil
pub made : (t t1 : Table) (roots : List Value) (cs cs1 cs2 : List (Option ℕ)) (class : ℕ) (k : Kind) (size literals n : ℕ) → IsCounted t roots (replicate (nils_of k size literals) nil ++ (Ref class ∷ [])) cs1
    → first_free t < length cs1 → n ≡ first_free t → cs2 ≡ set cs1 n (Some 0) → t1 ≡ placed t (fresh class k size literals) → IsCounted t1 roots [] cs2
made t t1 roots cs cs1 cs2 class k size literals n h within place enter make =
    let o = fresh class k size literals in
    subst (λ (u : Table). IsCounted u roots [] cs2) (sym make) (subst (λ ns. IsCounted (placed t o) roots [] ns) (sym (enter ∙ ap (λ m. set cs1 m (Some 0)) place))
    (counted_placed t roots (replicate (nils_of k size literals) nil ++ (Ref class ∷ [])) cs1 o h (λ j. sym (uses_fresh j class k size literals)) within (first_free-none t)))

pub absent : (t : Table) (roots hand : List Value) (cs : List (Option ℕ)) (n : ℕ) → IsCounted t roots hand cs → n ≡ first_free t → is_counted cs n ≡ false
absent t roots hand cs n h place = tally_entered t (references t roots hand) cs h.tallied n ∙ ap (λ j. is_some (entry t j)) place ∙ ap is_some (first_free-none t)

drop_suc : (xs : List Value) (i : ℕ) (d : Value) → i < length xs → drop i xs ≡ get_or xs i d ∷ drop (suc i) xs
drop_suc [] i d h = absurd (omega (arith, h))
drop_suc (x ∷ xs) zero d h = refl
drop_suc (x ∷ xs) (suc i) d h = drop_suc xs i d (omega (arith, h))

-- the next of the fields is the first in hand
pub next_in_hand : (xs : List Value) (i : ℕ) (x : Value) → i < length xs → slice_get xs i ≡ Some x → drop i xs ≡ x ∷ drop (i + 1) xs
next_in_hand xs i x h is =
    let e : suc i ≡ i + 1 = omega arith in drop_suc xs i nil h ∙ ap (λ y. y ∷ drop (suc i) xs) (get_or_from_slice_get xs i x nil is) ∙ ap (λ n. x ∷ drop n xs) e

pub dropped_all : (xs : List Value) (n : ℕ) → n ≡ length xs → drop n xs ≡ []
dropped_all [] n h = nothing n
  where
    nothing : (m : ℕ) → drop {A = Value} m [] ≡ []
    nothing zero = refl
    nothing (suc m) = refl
dropped_all (x ∷ xs) zero h = absurd (omega (arith, h))
dropped_all (x ∷ xs) (suc n) h = dropped_all xs n (omega (arith, h))

-- it comes before nil that was met
pub taken_in_hand : (t : Table) (roots : List Value) (cs : List (Option ℕ)) (nils : ℕ) (xs : List Value) (i : ℕ) (x : Value) → i < length xs → slice_get xs i ≡ Some x
    → IsCounted t roots (replicate nils nil ++ drop i xs) cs → IsCounted t roots (x ∷ (replicate nils nil ++ drop (i + 1) xs)) cs
taken_in_hand t roots cs nils xs i x within is h =
    counted_alike t t roots roots (replicate nils nil ++ (x ∷ drop (i + 1) xs)) (x ∷ (replicate nils nil ++ drop (i + 1) xs)) cs
    (subst (λ ys. IsCounted t roots (replicate nils nil ++ ys) cs) (next_in_hand xs i x within is) h) (λ k. refl)
    (λ k. let a = times_replicate k nils nil (x ∷ drop (i + 1) xs) in let b = times_replicate k nils nil (drop (i + 1) xs) in omega (arith, a, b))

-- nil is met once more
pub nil_more : (t : Table) (roots : List Value) (cs : List (Option ℕ)) (nils : ℕ) (hand : List Value) (x : Value) → x ≡ nil → IsCounted t roots (x ∷ (replicate nils nil ++ hand)) cs → IsCounted t roots (replicate (nils + 1) nil ++ hand) cs
nil_more t roots cs nils hand x is h =
    let e : suc nils ≡ nils + 1 = omega arith in
    subst (λ n. IsCounted t roots (replicate n nil ++ hand) cs) e (subst (λ y. IsCounted t roots (y ∷ (replicate nils nil ++ hand)) cs) is h)

-- where nil is in hand, it is counted as often at least
module _ (t : Table) (roots : List Value) (cs : List (Option ℕ)) where
  nil_there : (n : ℕ) → n ≢ 0 → IsCounted t roots (replicate n nil ++ []) cs → IsKnown t nil
  nil_there zero some h = absurd (some refl)
  nil_there (suc n) some h = hand_known t roots (replicate n nil ++ []) cs nil h

  pub nils_counted : (n : ℕ) → n ≢ 0 → IsCounted t roots (replicate n nil ++ []) cs → is_counted cs 1 ≡ true
  nils_counted n some h = tally_entered t (references t roots (replicate n nil ++ [])) cs h.tallied 1 ∙ live_known t 1 (nil_there n some h)

  pub nils_few : (n : ℕ) → n ≢ 0 → IsCounted t roots (replicate n nil ++ []) cs → n ≤ number_at cs 1
  nils_few n some h =
      let is = tally_number t (references t roots (replicate n nil ++ [])) cs 1 h.tallied (live_known t 1 (nil_there n some h)) in
      let all = times_replicate 1 n nil [] in
      let one : cond (names nil 1) n 0 ≡ n = ap (λ b. cond b n 0) (test_same 1) in
      omega (arith, is, all, one)

  pub without_nils : (n : ℕ) → n ≢ 0 → IsCounted t roots (replicate n nil ++ []) cs → IsCounted t roots [] (lowered cs 1 n)
  without_nils n some h = counted_less t roots [] cs 1 n h (nil_there n some h)

pub with_nils : (t : Table) (roots hand : List Value) (cs cs1 : List (Option ℕ)) (n : ℕ) → IsCounted t roots hand cs → IsKnown t nil → cs1 ≡ cond (n == 0) cs (raised cs 1 n) → IsCounted t roots (replicate n nil ++ hand) cs1
with_nils t roots hand cs cs1 zero h known e = subst (λ ns. IsCounted t roots hand ns) (sym e) h
with_nils t roots hand cs cs1 (suc n) h known e = raised_to t roots hand cs cs1 nil (suc n) h known (e ∙ ap (λ b. cond b cs (raised cs 1 (suc n))) (test_other (suc n) 0 (λ q. absurd (omega (arith, q)))))

-- what a new object refers to is in hand
pub new_hand : (t : Table) (roots : List Value) (cs : List (Option ℕ)) (w : ℕ) (k : Kind) (size literals n : ℕ) → IsCounted t roots (replicate n nil ++ (value_of w ∷ [])) cs → n ≡ nils_of k size literals → is_small (value_of w) ≡ false
    → IsCounted t roots (replicate (nils_of k size literals) nil ++ (Ref (w / 2) ∷ [])) cs
new_hand t roots cs w k size literals n h is even =
    subst (λ m. IsCounted t roots (replicate m nil ++ (Ref (w / 2) ∷ [])) cs) is (subst (λ v. IsCounted t roots (replicate n nil ++ (v ∷ [])) cs) (value_of-even w even) h)

pub few_nils : (class : ℕ) (k : Kind) (size literals : ℕ) → IsMakeable class k size literals → nils_of k size literals ≤ 65535
few_nils class kind.Pointers size literals m = let a = m.body in let b = length-replicate {A = Value} size nil in omega (arith, a, b)
few_nils class kind.Words size literals m = omega arith
few_nils class kind.Bytes size literals m = omega arith
few_nils class kind.Method size literals m = let a = m.few in omega (arith, a)
