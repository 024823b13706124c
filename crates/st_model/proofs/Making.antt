-- A memory stays whole where an object is made at the least free pointer and the capacities have room for it.
use Rattle.std.proofs.Common.{◌≡◌, ℕ, ◌+◌, ◌<◌, ◌≤◌, zero, suc, true, false, [], ◌∷◌, length, set, replicate, refl, sym, ap, ◌∙◌, subst, arith, inl, inr, length-set, is_some}
use Rattle.std.specs.Prelude.{Some, None, nat_le}
use Rattle.std.proofs.lemmas.Bool.{cases_eq, cases_lt, and_parts}
use Rattle.std.proofs.lemmas.Bool.Decides.{nat_tests}
use Rattle.st_model.specs.declared.demand.Demand.{Demand}
use Rattle.st_model.specs.Values.{Value, Small, Ref, is_small, AllLive}
use Rattle.st_model.specs.declared.kind.Kind.{Kind}
use Rattle.st_model.specs.declared.kind.Kind.TheVariants as kind
use Rattle.st_model.specs.Objects.{Object, NilObject, nil, one, words_of, place_of, IsLiveObject}
use Rattle.st_model.specs.Formed.{IsFormed, IsMakeable, fresh}
use Rattle.st_model.specs.Table.{Table, entry, first_none, filled_first, first_free, placed, total_used}
use Rattle.st_model.specs.Show.{IsUsed}
use Rattle.st_model.specs.View.{View, IsKnown, IsWhole, is_live, held_at, with_object, demand_of, fits}
use Rattle.st_model.proofs.TableLemmas.{first_free-start, first_free-none, below_first_free, placed-first, placed-other}
use Rattle.st_model.proofs.FormedLemmas.{formed_fresh}
use Rattle.st_model.proofs.WholeLemmas.{named, used_live, live_used, live_all, whole_as}

-- the least free place is where there is no object and before which there is none free

pub first_free_is : (t : Table) (k : ℕ) → 1 ≤ k → entry t k ≡ None → ((j : ℕ) → 1 ≤ j → j < k → is_some (entry t j) ≡ true) → first_free t ≡ k
first_free_is t k start none full = elim (cases_lt (first_free t) k) [
  | inl l ↦
      let some = full (first_free t) (first_free-start t) l in
      let e = ap is_some (first_free-none t) in
      absurd (cc)
  | inr l ↦ elim (cases_lt k (first_free t)) [
    | inl m ↦ absurd (below_first_free t k start m none)
    | inr m ↦ omega (arith, l, m)
  ]
]

filled_first_set : (t : Table) (o : Object) → first_none t < length t → filled_first t o ≡ set t (first_none t) (Some o)
filled_first_set [] o l = absurd (omega (arith, l))
filled_first_set (None ∷ t) o l = refl
filled_first_set (Some a ∷ t) o l = ap (λ u. Some a ∷ u) (filled_first_set t o (omega (arith, l)))

pub placed_set : (t : Table) (o : Object) → first_free t < length t → placed t o ≡ set t (first_free t) (Some o)
placed_set [] o l = absurd (omega (arith, l))
placed_set (e ∷ t) o l = ap (λ u. e ∷ u) (filled_first_set t o (omega (arith, l)))

pub placed_object : (t : Table) (o : Object) → first_free t < length t → placed t o ≡ with_object t (Ref (first_free t)) o
unfolding with_object
placed_object t o l = placed_set t o l

-- the sums

total_used-filled_first : (weight : Object → ℕ) (t : Table) (o : Object) → total_used weight (filled_first t o) ≡ total_used weight t + weight o
total_used-filled_first weight [] o = omega arith
total_used-filled_first weight (None ∷ t) o = omega arith
total_used-filled_first weight (Some a ∷ t) o = let r = total_used-filled_first weight t o in omega (arith, r)

pub total_used-placed : (weight : Object → ℕ) (t : Table) (o : Object) → total_used weight (placed t o) ≡ total_used weight t + weight o
total_used-placed weight [] o = omega arith
total_used-placed weight (None ∷ t) o = total_used-filled_first weight t o
total_used-placed weight (Some a ∷ t) o = let r = total_used-filled_first weight t o in omega (arith, r)

-- a table of so many objects has a place for one more

first_none_most : (t : Table) → first_none t ≤ total_used one t
first_none_most [] = omega arith
first_none_most (None ∷ t) = omega arith
first_none_most (Some a ∷ t) = let r = first_none_most t in omega (arith, r)

pub first_free_most : (t : Table) → first_free t ≤ total_used one t + 1
first_free_most [] = omega arith
first_free_most (None ∷ t) = let r = first_none_most t in omega (arith, r)
first_free_most (Some a ∷ t) = let r = first_none_most t in omega (arith, r)

pub room_entries : (v : View) (d : Demand) → fits v d ≡ true → total_used one v.objects + d.entries ≤ v.head.entries
room_entries v d h = let a = (and_parts (nat_le (total_used one v.objects + d.entries) v.head.entries) (nat_le (total_used words_of v.objects + d.words) v.head.words) h).0 in grind (arith, nat_tests)

pub room_words : (v : View) (d : Demand) → fits v d ≡ true → total_used words_of v.objects + d.words ≤ v.head.words
room_words v d h = let a = (and_parts (nat_le (total_used one v.objects + d.entries) v.head.entries) (nat_le (total_used words_of v.objects + d.words) v.head.words) h).1 in grind (arith, nat_tests)

-- what was there is there

module _ (t : Table) (o : Object) where
  used_placed : (k : ℕ) → IsUsed t k → IsUsed (placed t o) k
  used_placed k u = elim (cases_eq k (first_free t)) [
    | inl e ↦ let none = first_free-none t in let some : entry t (first_free t) ≡ Some u.0 = subst (λ j. entry t j ≡ Some u.0) e u.1 in absurd (cc)
    | inr d ↦ (u.0, placed-other t k o d ∙ u.1)
  ]

  pub live_placed : (x : Value) → is_live t x ≡ true → is_live (placed t o) x ≡ true
  live_placed x h =
      let r = named t x h in
      let u = used_placed r.0 (r.1, r.3) in
      subst (λ y. is_live (placed t o) y ≡ true) (sym r.2) (used_live (placed t o) r.0 u)

  pub known_placed : (x : Value) → IsKnown t x → IsKnown (placed t o) x
  known_placed x h = λ big. live_placed x (h big)

  pub live_new : is_live (placed t o) (Ref (first_free t)) ≡ true
  live_new = used_live (placed t o) (first_free t) (o, placed-first t o)

  placed_is : (P : Object → Type 0) → P o → ((k : ℕ) (b : Object) → entry t k ≡ Some b → P b) → (k : ℕ) (b : Object) → entry (placed t o) k ≡ Some b → P b
  placed_is P new old k b h = elim (cases_eq k (first_free t)) [
    | inl e ↦
        let z = placed-first t o in
        let y : entry (placed t o) (first_free t) ≡ Some b = subst (λ j. entry (placed t o) j ≡ Some b) e h in
        let q : o ≡ b = cc in subst P q new
    | inr d ↦ old k b (sym (placed-other t k o d) ∙ h)
  ]

module _ (v : View) (whole : IsWhole v) (o : Object) (room : fits v (demand_of o) ≡ true) where
  entries_left : total_used one v.objects + 1 ≤ v.head.entries
  entries_left = room_entries v (demand_of o) room

  -- the least free pointer is one
  pub first_free_within : first_free v.objects < 32768
  first_free_within = let a = first_free_most v.objects in let b = whole.most_entries in let c = entries_left in omega (arith, a, b, c)

  in_table : first_free v.objects < length v.objects
  in_table = let a = whole.places in let b = first_free_within in omega (arith, a, b)

  abbrev t : Table
  t = placed v.objects o

  still_live : (b : Object) → IsLiveObject (IsUsed v.objects) b → IsLiveObject (IsUsed t) b
  still_live b was = record { class = used_placed v.objects o b.class was.class; fields = live_all (IsUsed v.objects) (IsUsed t) (used_placed v.objects o) b.fields was.fields }

  pub whole_placed : (w : View) → IsFormed o → IsLiveObject (IsUsed v.objects) o → w.objects ≡ placed v.objects o → w.held ≡ v.held → w.head ≡ v.head → IsWhole w
  whole_placed w formed live objects held head = whole_as (record { objects = t; held = v.held; head = v.head }) w objects held head (record {
    places = ap length (placed_set v.objects o in_table) ∙ length-set v.objects (first_free v.objects) (Some o) ∙ whole.places;
    unused = let s = first_free-start v.objects in placed-other v.objects 0 o (omega (arith, s)) ∙ whole.unused;
    complete = record {
      objects = placed_is v.objects o (IsLiveObject (IsUsed t)) (still_live o live) (λ k b e. still_live b (whole.complete.objects k b e));
      page = λ q. live_placed v.objects o (Ref (place_of q)) (whole.complete.page q);
      globals = λ y e. live_placed v.objects o y (whole.complete.globals y e);
      symbols = λ y e. live_placed v.objects o y (whole.complete.symbols y e);
    };
    formed = placed_is v.objects o IsFormed formed whole.formed;
    held = λ p. known_placed v.objects o (held_at v.held p) (whole.held p);
    pending = whole.pending;
    entries = let a = total_used-placed one v.objects o in let b = entries_left in omega (arith, a, b);
    words = let a = total_used-placed words_of v.objects o in let b = room_words v (demand_of o) room in omega (arith, a, b);
    most_entries = whole.most_entries;
    most_words = whole.most_words;
  })

-- a new object refers to its class and to nil

all_nil : (P : ℕ → Type 0) (n : ℕ) → P 1 → AllLive P (replicate n nil)
all_nil P zero h = tt
all_nil P (suc n) h = (h, all_nil P n h)

live_fresh : (P : ℕ → Type 0) (class : ℕ) (k : Kind) (size literals : ℕ) → P class → P 1 → IsLiveObject P (fresh class k size literals)
live_fresh P class kind.Pointers size literals c h = record { class = c; fields = all_nil P size h }
live_fresh P class kind.Words size literals c h = record { class = c; fields = tt }
live_fresh P class kind.Bytes size literals c h = record { class = c; fields = tt }
live_fresh P class kind.Method size literals c h = record { class = c; fields = (tt, all_nil P literals h) }

pub whole_made : (v w : View) (class : ℕ) (k : Kind) (size literals : ℕ) → IsWhole v → is_live v.objects (Ref class) ≡ true → IsMakeable class k size literals
    → fits v (demand_of (fresh class k size literals)) ≡ true → w.objects ≡ placed v.objects (fresh class k size literals) → w.held ≡ v.held → w.head ≡ v.head → IsWhole w
whole_made v w class k size literals whole live makeable room =
    whole_placed v whole (fresh class k size literals) room w (formed_fresh class k size literals makeable)
    (live_fresh (IsUsed v.objects) class k size literals (live_used v.objects class live) (live_used v.objects 1 (whole.complete.page NilObject)))

-- what is live is no SmallInteger
pub live_even : (t : Table) (x : Value) → is_live t x ≡ true → is_small x ≡ false
unfolding is_live
live_even t (Small n) h = cc
live_even t (Ref n) h = refl
