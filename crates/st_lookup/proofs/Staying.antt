-- What is remembered stays so while no watched object is changed, and while a memory settles.
use Rattle.std.proofs.Common.{◌≡◌, ◌≢◌, ℕ, zero, suc, Option, Some, None, Bool, true, false, List, [], ◌∷◌, refl, sym, ap, ◌∙◌, subst, is_some, inl, inr, ◌⊎◌, arith}
use Rattle.std.specs.Prelude.{slice_get, IsTrue, ◌==◌, ◌<◌, length, replicate}
use Rattle.std.proofs.lemmas.Bool.Decides.{nat_tests}
use Rattle.std.proofs.lemmas.Option.{slice_get_within, get_or_from_slice_get}
use Rattle.std.proofs.lemmas.List.{get_or-replicate, length-replicate}
use Rattle.st_model.specs.Values.{Value, Small, Ref, value, value_of, AllLive}
use Rattle.st_model.specs.Objects.{Object}
use Rattle.st_model.specs.Settled.{IsRefTo, AnyRefTo, Refers, IsRoot, IsReferredFrom, IsSettled, or}
use Rattle.st_model.specs.Show.{IsUsed}
use Rattle.st_model.specs.Table.{Table, table, entry, changed, exchanged_objects, placed, first_free}
use Rattle.st_model.specs.View.{View, IsWhole, SettlesTo, is_live, view_roots, with_stored, with_unit, with_exchanged}
use Rattle.st_model.proofs.TableLemmas.{changed-other, placed-other}
use Rattle.st_model.proofs.SettledLemmas.{settled-entry, entry-settled, is_some-of, some_is}
use Rattle.st_memory.specs.inside.Copied.{with_units_in}
use Rattle.st_memory.specs.inside.Searched.{Finds}
use Rattle.st_lookup.specs.declared.entry.CachedLookup.{CachedLookup}
use Rattle.st_lookup.specs.declared.entry.TheConstants.CachedLookup.{NONE}
use Rattle.st_lookup.specs.inside.Remembered.{on, IsOn, IsOff, watched, IsRemembered, AllRemembered, Grows, SameWatched, StaysIfOff}
use Rattle.st_lookup.proofs.Carried.{IsOf, SameHalf, found_carried_on, selector_met}
use Rattle.st_model.proofs.SettledIs.{or_left, or_right, or_cases}

-- what stands under a watched pointer
module _ (bits : List ℕ) (t : Table) where
  pub watched-entry : (k : ℕ) (o : Object) → entry (watched bits t) k ≡ Some o → (entry t k ≡ Some o) × (on bits k ≡ true)
  unfolding watched
  watched-entry k o e = settled-entry t (on bits) k o e

  pub entry-watched : (k : ℕ) (o : Object) → entry t k ≡ Some o → on bits k ≡ true → entry (watched bits t) k ≡ Some o
  unfolding watched
  entry-watched k o e h = entry-settled t (on bits) k o e h

  some_watched : (k : ℕ) (x y : Option Object) → entry t k ≡ x → entry (watched bits t) k ≡ y → on bits k ≡ true → is_some y ≡ is_some x
  some_watched k None None e f h = refl
  some_watched k None (Some o) e f h = let g = (watched-entry k o f).0 in cc
  some_watched k (Some o) None e f h = let g = entry-watched k o e h in cc
  some_watched k (Some o) (Some p) e f h = refl

  pub half_watched : (v : Value) → IsOn bits v → SameHalf (watched bits t) t v
  half_watched (Small n) h = tt
  half_watched (Ref n) h = sym (some_watched n (entry t n) (entry (watched bits t) n) refl refl h)

anything : (v : Value) → IsOf (λ n. Unit {0}) v
anything (Small n) = tt
anything (Ref n) = tt

half_then : (t u w : Table) (v : Value) → SameHalf t u v → SameHalf u w v → SameHalf t w v
half_then t u w (Small n) e f = tt
half_then t u w (Ref n) e f = f ∙ e

half_itself : (t : Table) (v : Value) → SameHalf t t v
half_itself t (Small n) = tt
half_itself t (Ref n) = refl

half_back : (t u : Table) (v : Value) → SameHalf t u v → SameHalf u t v
half_back t u (Small n) e = tt
half_back t u (Ref n) e = sym e

-- what is remembered is so of the whole table
pub finds_all : (bits : List ℕ) (t : Table) (e : CachedLookup) → IsRemembered bits t e → is_live t (value e.class) ≡ true
    → Finds t (value e.class) (value e.selector) (value e.method)
finds_all bits t e r live =
    found_carried_on (λ n. Unit {0}) (watched bits t) t
    (record { has = λ k o p f. (watched-entry bits t k o f).0; closed = λ k o i v p f g. anything v })
    (value e.class) (value e.selector) (value e.method) (anything (value e.class)) (half_watched bits t (value e.selector) r.selector) (r.finds live)

-- MORE IS WATCHED

pub on_grown : (old new : List ℕ) (v : Value) → Grows old new → IsOn old v → IsOn new v
on_grown old new (Small n) g h = refl
on_grown old new (Ref n) g h = g n h

pub remembered_grown : (old new : List ℕ) (t : Table) (e : CachedLookup) → Grows old new → IsRemembered old t e → IsRemembered new t e
remembered_grown old new t e g r =
    let x = value e.selector in
    let more = on_grown old new x g r.selector in
    record {
      class = on_grown old new (value e.class) g r.class;
      selector = more;
      finds = λ live.
          found_carried_on (λ n. Unit {0}) (watched old t) (watched new t)
          (record { has = λ k o p f. let w = watched-entry old t k o f in entry-watched new t k o w.0 (g k w.1); closed = λ k o i v p f h. anything v })
          (value e.class) x (value e.method) (anything (value e.class))
          (half_then (watched old t) t (watched new t) x (half_watched old t x r.selector) (half_back (watched new t) t x (half_watched new t x more)))
          (r.finds live);
    }

-- NO WATCHED OBJECT IS CHANGED

live_same : (bits : List ℕ) (t u : Table) (v : Value) → SameWatched bits t u → IsOn bits v → is_live u v ≡ true → is_live t v ≡ true
unfolding is_live
live_same bits t u (Small n) s h l = cc
live_same bits t u (Ref n) s h l = ap is_some (sym (s n h)) ∙ l

half_same : (bits : List ℕ) (t u : Table) (v : Value) → SameWatched bits t u → IsOn bits v → SameHalf t u v
half_same bits t u (Small n) s h = tt
half_same bits t u (Ref n) s h = ap is_some (s n h)

pub remembered_same : (bits : List ℕ) (t u : Table) (e : CachedLookup) → SameWatched bits t u → IsRemembered bits t e → IsRemembered bits u e
remembered_same bits t u e s r =
    let x = value e.selector in
    record {
      class = r.class;
      selector = r.selector;
      finds = λ live.
          found_carried_on (λ n. Unit {0}) (watched bits t) (watched bits u)
          (record { has = λ k o p f. let w = watched-entry bits t k o f in entry-watched bits u k o (s k w.1 ∙ w.0) w.1; closed = λ k o i v p f h. anything v })
          (value e.class) x (value e.method) (anything (value e.class))
          (half_then (watched bits t) t (watched bits u) x (half_watched bits t x r.selector)
          (half_then t u (watched bits u) x (half_same bits t u x s r.selector) (half_back (watched bits u) u x (half_watched bits u x r.selector))))
          (r.finds (live_same bits t u (value e.class) s r.class live));
    }

-- the table that is known to stay so
pub stays_as : (bits : List ℕ) (v : Value) (t u w : Table) → w ≡ u → StaysIfOff bits v t u → StaysIfOff bits v t w
stays_as bits v t u w e s off k h = ap (λ x. entry x k) e ∙ s off k h

pub all_same : (bits : List ℕ) (t u : Table) (es : List CachedLookup) → SameWatched bits t u → AllRemembered bits t es → AllRemembered bits u es
all_same bits t u es s r = λ i e f. remembered_same bits t u e s (r i e f)

pub all_grown : (old new : List ℕ) (t : Table) (es : List CachedLookup) → Grows old new → AllRemembered old t es → AllRemembered new t es
all_grown old new t es g r = λ i e f. remembered_grown old new t e g (r i e f)

-- a name that isn't watched
pub unwatched : (bits : List ℕ) (n k : ℕ) → on bits n ≡ false → on bits k ≡ true → k ≢ n
unwatched bits n k off h e = let g : on bits k ≡ false = ap (on bits) e ∙ off in cc

pub same_changed : (bits : List ℕ) (t : Table) (n : ℕ) (o : Object) → on bits n ≡ false → SameWatched bits t (changed t n o)
same_changed bits t n o off = λ k h. changed-other t n k o (unwatched bits n k off h)

pub same_stored : (bits : List ℕ) (t : Table) (v : Value) (i : ℕ) (x : Value) → IsOff bits v → SameWatched bits t (with_stored t v i x)
unfolding with_stored
same_stored bits t (Small n) i x off = λ k h. refl
same_stored bits t (Ref n) i x off = same_changed bits t n _ off

pub same_unit : (bits : List ℕ) (t : Table) (v : Value) (i x : ℕ) → IsOff bits v → SameWatched bits t (with_unit t v i x)
unfolding with_unit
same_unit bits t (Small n) i x off = λ k h. refl
same_unit bits t (Ref n) i x off = same_changed bits t n _ off

pub same_placed : (bits : List ℕ) (t : Table) (o : Object) → on bits (first_free t) ≡ false → SameWatched bits t (placed t o)
same_placed bits t o off = λ k h. placed-other t k o (unwatched bits (first_free t) k off h)

same_objects : (bits : List ℕ) (t : Table) (a b : ℕ) (x y : Option Object) → on bits a ≡ false → on bits b ≡ false → SameWatched bits t (exchanged_objects t a b x y)
same_objects bits t a b None y p q = λ k h. refl
same_objects bits t a b (Some o) None p q = λ k h. refl
same_objects bits t a b (Some o) (Some c) p q = λ k h.
    changed-other (changed t a c) b k o (unwatched bits b k q h) ∙ changed-other t a k c (unwatched bits a k p h)

pub same_exchanged : (bits : List ℕ) (t : Table) (v w : Value) → IsOff bits v → IsOff bits w → SameWatched bits t (with_exchanged t v w)
unfolding with_exchanged
same_exchanged bits t (Small a) w p q = λ k h. refl
same_exchanged bits t (Ref a) (Small b) p q = λ k h. refl
same_exchanged bits t (Ref a) (Ref b) p q = same_objects bits t a b (entry t a) (entry t b) p q

-- A MEMORY SETTLES

same_number : (j n : ℕ) → IsTrue (j == n) → j ≡ n
same_number j n e = grind (arith, nat_tests)

number_same : (n : ℕ) → IsTrue (n == n)
number_same n = grind (arith, nat_tests)

-- a kept object to which a member refers is a member
module _ (t : Table) (roots : List Value) (set : ℕ → Bool) (s : IsSettled table t roots set) (k : ℕ) (o : Object) (is : entry t k ≡ Some o) (member : IsTrue (set k)) (n : ℕ)
    (refers : Refers o n) (kept : IsTrue (table.kept t n)) where
  with_it : ℕ → Bool
  with_it j = or (set j) (j == n)

  kept_with : (j : ℕ) → IsTrue (with_it j) → IsTrue (table.kept t j)
  unfolding with_it
  kept_with j h = elim (or_cases (set j) (j == n) h) [
    | inl g ↦ s.supports.kept j g
    | inr g ↦ subst (λ i. IsTrue (table.kept t i)) (sym (same_number j n g)) kept
  ]

  from_with : (j : ℕ) → IsReferredFrom table t set j → IsReferredFrom table t with_it j
  unfolding with_it
  from_with j r = record { from = r.from; object = r.object; member = or_left (set r.from) (r.from == n) r.member; is = r.is; refers = r.refers }

  supported_with : (j : ℕ) → IsTrue (with_it j) → IsRoot table t roots j ⊎ IsReferredFrom table t with_it j
  unfolding with_it
  supported_with j h = elim (or_cases (set j) (j == n) h) [
    | inl g ↦ elim (s.supports.supported j g) [
      | inl r ↦ inl r
      | inr r ↦ inr (from_with j r)
    ]
    | inr g ↦ inr (record { from = k; object = o; member = or_left (set k) (k == n) member; is = is; refers = subst (λ i. Refers o i) (sym (same_number j n g)) refers })
  ]

  pub member_too : IsTrue (set n)
  unfolding with_it
  member_too = s.largest with_it (record { kept = kept_with; supported = supported_with }) n (or_right (set n) (n == n) (number_same n))

-- a field refers
field_refers : (vs : List Value) (i n : ℕ) → slice_get vs i ≡ Some (Ref n) → AnyRefTo n vs
field_refers [] i n e = cc
field_refers (v ∷ vs) zero n e = let f : v ≡ Ref n = cc in subst (λ w. IsRefTo n w ⊎ AnyRefTo n vs) (sym f) (inl refl)
field_refers (v ∷ vs) (suc i) n e = inr (field_refers vs i n e)

-- what stands in a field is there
field_used : (t : Table) (vs : List Value) (n : ℕ) → AllLive (IsUsed t) vs → AnyRefTo n vs → IsTrue (table.kept t n)
field_used t [] n l r = absurd r
field_used t (Small m ∷ vs) n l r = elim r [ inl q ↦ absurd q | inr q ↦ field_used t vs n l.1 q ]
field_used t (Ref m ∷ vs) n l r = elim r [
  | inl q ↦ is_some-of (entry t n) l.0.0 (ap (entry t) q ∙ l.0.1)
  | inr q ↦ field_used t vs n l.1 q
]

module _ (v w : View) (whole : IsWhole v) (s : SettlesTo v w) where
  settled_off : (k : ℕ) (o : Object) → entry w.objects k ≡ Some o → (entry v.objects k ≡ Some o) × IsTrue (s.set k)
  settled_off k o e = settled-entry v.objects s.set k o (subst (λ t. entry t k ≡ Some o) s.objects e)

  settled_on : (k : ℕ) (o : Object) → entry v.objects k ≡ Some o → IsTrue (s.set k) → entry w.objects k ≡ Some o
  settled_on k o e h = subst (λ t. entry t k ≡ Some o) (sym s.objects) (entry-settled v.objects s.set k o e h)

  live_member : (x : Value) → is_live w.objects x ≡ true → (is_live v.objects x ≡ true) × IsOf (λ n. IsTrue (s.set n)) x
  unfolding is_live
  live_member (Small n) l = cc
  live_member (Ref n) l = let o = some_is (entry w.objects n) l in let h = settled_off n o.0 o.1 in (is_some-of (entry v.objects n) o.0 h.0, h.1)

  names_members : (k : ℕ) (o : Object) (i : ℕ) (x : Value) → IsTrue (s.set k) → entry v.objects k ≡ Some o → slice_get o.fields i ≡ Some x → IsOf (λ n. IsTrue (s.set n)) x
  names_members k o i (Small n) h e f = tt
  names_members k o i (Ref n) h e f =
      let refers = field_refers o.fields i n f in
      member_too v.objects (view_roots v) s.set s.is_settled k o e h n (inr refers) (field_used v.objects o.fields n (whole.complete.objects k o e).fields refers)

  same_member : (x : Value) → IsOf (λ n. IsTrue (s.set n)) x → SameHalf v.objects w.objects x
  same_member (Small n) h = tt
  same_member (Ref n) h = some_settled (entry v.objects n) (entry w.objects n) refl refl
    where
      some_settled : (a b : Option Object) → entry v.objects n ≡ a → entry w.objects n ≡ b → is_some b ≡ is_some a
      some_settled None None e f = refl
      some_settled None (Some o) e f = let g = (settled_off n o f).0 in cc
      some_settled (Some o) None e f = let g = settled_on n o e h in cc
      some_settled (Some o) (Some p) e f = refl

  -- what a search among watched objects that are members meets is there still, with the selector
  pub remembered_settled : (bits : List ℕ) (e : CachedLookup) → IsRemembered bits v.objects e → IsRemembered bits w.objects e
  remembered_settled bits e r =
      let x = value e.selector in
      let old = watched bits v.objects in
      let new = watched bits w.objects in
      let closed : (k : ℕ) (o : Object) (i : ℕ) (z : Value) → IsTrue (s.set k) → entry old k ≡ Some o → slice_get o.fields i ≡ Some z → IsOf (λ n. IsTrue (s.set n)) z =
      λ k o i z p f h. names_members k o i z p (watched-entry bits v.objects k o f).0 h in
      record {
        class = r.class;
        selector = r.selector;
        finds = λ live.
            let c = live_member (value e.class) live in
            let finds = r.finds c.0 in
            let met = selector_met (λ n. IsTrue (s.set n)) old old (record { has = λ k o p f. f; closed = closed }) (value e.class) x (value e.method) c.1 (half_itself old x) finds in
            found_carried_on (λ n. IsTrue (s.set n)) old new
            (record { has = λ k o p f. let g = watched-entry bits v.objects k o f in entry-watched bits w.objects k o (settled_on k o g.0 p) g.1; closed = closed })
            (value e.class) x (value e.method) c.1
            (half_then old v.objects new x (half_watched bits v.objects x r.selector)
            (half_then v.objects w.objects new x (same_member x met) (half_back new w.objects x (half_watched bits w.objects x r.selector))))
            finds;
      }

  pub all_settled : (bits : List ℕ) (es : List CachedLookup) → AllRemembered bits v.objects es → AllRemembered bits w.objects es
  all_settled bits es r = λ i e f. remembered_settled bits e (r i e f)

-- NOTHING IS REMEMBERED

pub none_remembered : (bits : List ℕ) (t : Table) → IsRemembered bits t NONE
unfolding value_of is_live
none_remembered bits t = record { class = refl; selector = refl; finds = λ live. cc }

pub nothing_remembered : (bits : List ℕ) (t : Table) (es : List CachedLookup) (n : ℕ) → es ≡ replicate n NONE → AllRemembered bits t es
nothing_remembered bits t es n q i e f =
    let g : slice_get (replicate n NONE) i ≡ Some e = subst (λ (xs : List CachedLookup). slice_get xs i ≡ Some e) q f in
    let l : i < length (replicate n NONE) = slice_get_within (replicate n NONE) i e g in
    let s : e ≡ NONE = sym (get_or_from_slice_get (replicate n NONE) i e NONE g) ∙ get_or-replicate n i NONE NONE (subst (λ (k : ℕ). i < k) (length-replicate n NONE) l) in
    subst (λ (x : CachedLookup). IsRemembered bits t x) (sym s) (none_remembered bits t)

-- the pointer of a value that is a name
pub off_name : (bits : List ℕ) (v : Value) (n : ℕ) → v ≡ Ref n → IsOff bits v → on bits n ≡ false
off_name bits (Small m) n e h = cc
off_name bits (Ref m) n e h = let q : m ≡ n = cc in ap (on bits) (sym q) ∙ h

pub same_units : (bits : List ℕ) (t : Table) (v : Value) (us : List ℕ) → IsOff bits v → SameWatched bits t (with_units_in t v us)
unfolding with_units_in
same_units bits t (Small n) us off = λ k h. refl
same_units bits t (Ref n) us off = same_changed bits t n _ off
