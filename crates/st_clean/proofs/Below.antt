-- The objects of a table below a place that are of a set.
use Rattle.std.proofs.Common.{◌≡◌, ℕ, zero, suc, ◌+◌, ◌≤◌, List, [], ◌∷◌, Bool, true, false, Option, Some, None, IsTrue, length, replicate, inl, inr, refl, sym, ap, ◌∙◌, subst, arith}
use Rattle.std.specs.Prelude.{slice_set, if◌then◌else◌}
use Rattle.st_model.specs.Values.{Value, Small, Ref, AllLive}
use Rattle.st_model.specs.Objects.{Object, one, words_of, place_of}
use Rattle.st_model.specs.Machine.{table_root}
use Rattle.st_model.specs.Settled.{AnyRefTo}
use Rattle.st_model.specs.Show.{IsUsed}
use Rattle.st_model.specs.Table.{Table, entry, settled_table, total_used}
use Rattle.st_model.specs.View.{View, IsWhole, IsComplete, is_live, object_of, with_object, nothing_held}
use Rattle.st_model.proofs.Roots.{any_left, any_right}
use Rattle.st_model.proofs.SettledLemmas.{settled-entry, entry-settled}
use Rattle.st_model.proofs.WholeLemmas.{live_used, used_live}
use Rattle.st_clean.specs.Reach.{IsClosed}
use Rattle.st_clean.specs.Filling.{below, FilledBelow, HasRoom, Puts, only}
use Rattle.st_clean.proofs.Places.{with-ref, free_ref, object-ref}
use Rattle.st_model.proofs.Reclaiming.{length-settled}
use Rattle.st_model.proofs.Making.{live_even}

none_of : (e : Option Object) → e ≡ None → (b : Bool) → (if b then e else None) ≡ None
none_of e h true = h
none_of e h false = refl

settled_none : (t : Table) (set : ℕ → Bool) → settled_table t (below 0 set) ≡ replicate (length t) None
settled_none [] set = refl
settled_none (e ∷ t) set = ap (λ (u : Table). None ∷ u) (settled_none t (λ m. set (suc m)))

pub settled_skip : (t : Table) (k : ℕ) (set : ℕ → Bool) → set k ≡ false → settled_table t (below (suc k) set) ≡ settled_table t (below k set)
settled_skip [] k set h = refl
settled_skip (e ∷ t) zero set h = ap (λ b. (if b then e else None) ∷ settled_table t (below 0 (λ m. set (suc m)))) h
settled_skip (e ∷ t) (suc k) set h = ap (λ (u : Table). (if set 0 then e else None) ∷ u) (settled_skip t k (λ m. set (suc m)) h)

pub settled_step : (t : Table) (k : ℕ) (set : ℕ → Bool) (o : Object) → set k ≡ true → entry t k ≡ Some o → settled_table t (below (suc k) set) ≡ slice_set (settled_table t (below k set)) k (Some o)
settled_step [] k set o h e = cc
settled_step (a ∷ t) zero set o h e = ap (λ b. (if b then a else None) ∷ settled_table t (below 0 (λ m. set (suc m)))) h ∙ ap (λ x. x ∷ settled_table t (below 0 (λ m. set (suc m)))) e
settled_step (a ∷ t) (suc k) set o h e = ap (λ (u : Table). (if set 0 then a else None) ∷ u) (settled_step t k (λ m. set (suc m)) o h e)

settled_free : (t : Table) (k : ℕ) (set : ℕ → Bool) → entry (settled_table t (below k set)) k ≡ None
settled_free [] k set = refl
settled_free (a ∷ t) zero set = refl
settled_free (a ∷ t) (suc k) set = settled_free t k (λ m. set (suc m))

pub settled_full : (t : Table) (k : ℕ) (set : ℕ → Bool) → length t ≤ k → settled_table t (below k set) ≡ settled_table t set
settled_full [] k set l = refl
settled_full (a ∷ t) zero set l = absurd (omega (arith, l))
settled_full (a ∷ t) (suc k) set l = ap (λ (u : Table). (if set 0 then a else None) ∷ u) (settled_full t k (λ m. set (suc m)) (omega (arith, l)))

more : (weight : Object → ℕ) (a : Option Object) (b : Bool) (t u : Table) (n : ℕ) → total_used weight t + n ≤ total_used weight u → total_used weight ((if b then a else None) ∷ t) + n ≤ total_used weight (a ∷ u)
more weight None true t u n l = l
more weight None false t u n l = l
more weight (Some o) true t u n l = omega (arith, l)
more weight (Some o) false t u n l = omega (arith, l)

pub total-settled : (weight : Object → ℕ) (t : Table) (keep : ℕ → Bool) → total_used weight (settled_table t keep) + 0 ≤ total_used weight t
total-settled weight [] keep = omega arith
total-settled weight (a ∷ t) keep = more weight a (keep 0) (settled_table t (λ k. keep (suc k))) t 0 (total-settled weight t (λ k. keep (suc k)))

total_step : (weight : Object → ℕ) (t : Table) (k : ℕ) (set : ℕ → Bool) (o : Object) → entry t k ≡ Some o → total_used weight (settled_table t (below k set)) + weight o ≤ total_used weight t
total_step weight [] k set o e = cc
total_step weight (None ∷ t) zero set o e = cc
total_step weight (Some a ∷ t) zero set o e =
    let l = total-settled weight t (below 0 (λ m. set (suc m))) in
    let w : weight a ≡ weight o = ap weight (same_some a o e) in
    omega (arith, l, w)
  where
    same_some : (a o : Object) → Some a ≡ Some o → a ≡ o
    same_some a o e = cc
total_step weight (a ∷ t) (suc k) set o e = more weight a (set 0) (settled_table t (below k (λ m. set (suc m)))) t (weight o) (total_step weight t k (λ m. set (suc m)) o e)

-- THE LOOP

one_more : (k : ℕ) → suc k ≡ k + 1
one_more k = omega arith

pub fills_none : (set : ℕ → Bool) (v w : View) → w.objects ≡ replicate (length v.objects) None → w.held ≡ nothing_held → w.head ≡ v.head → FilledBelow set 0 v w
fills_none set v w o h e = record { objects = o ∙ sym (settled_none v.objects set); held = h; head = e }

module _ (set : ℕ → Bool) (k : ℕ) (v w : View) (f : FilledBelow set k v w) where
  pub fills_skip : set k ≡ false → FilledBelow set (k + 1) v w
  fills_skip h = subst (λ n. FilledBelow set n v w) (one_more k) (record { objects = f.objects ∙ sym (settled_skip v.objects k set h); held = f.held; head = f.head })

  module _ (whole : IsWhole v) (x : Value) (is : x ≡ Ref k) (o : Object) (there : entry v.objects k ≡ Some o) where
    abbrev at : object_of v.objects x ≡ o
    at = ap (object_of v.objects) is ∙ object-ref v.objects k o there

    pub has_room : HasRoom w x (object_of v.objects x)
    has_room = record {
      places = ap length f.objects ∙ (length-settled v.objects (below k set) ∙ whole.places);
      free = ap (is_live w.objects) is ∙ (free_ref w.objects k (ap (λ t. entry t k) f.objects ∙ settled_free v.objects k set));
      entries =
          let l = total_step one v.objects k set o there in
          let e = ap (total_used one) f.objects in
          let m = whole.entries in
          let h = ap (λ d. d.entries) f.head in
          omega (arith, l, e, m, h);
      words =
          let l = total_step words_of v.objects k set o there in
          let e = ap (total_used words_of) f.objects in
          let m = whole.words in
          let h = ap (λ d. d.words) f.head in
          let a = ap words_of at in
          omega (arith, l, e, m, h, a);
    }

    pub fills_more : (b : View) → set k ≡ true → Puts w b x (object_of v.objects x) → FilledBelow set (k + 1) v b
    fills_more b h p = subst (λ n. FilledBelow set n v b) (one_more k) (record {
      objects = p.objects ∙ (ap (with_object w.objects x) at ∙ (ap (λ y. with_object w.objects y o) is ∙ (with-ref w.objects k o
          ∙ (ap (λ (t : Table). slice_set t k (Some o)) f.objects ∙ sym (settled_step v.objects k set o h there)))));
      held = p.held ∙ f.held;
      head = p.head ∙ f.head;
    })

pub fills_all : (set : ℕ → Bool) (k : ℕ) (v w : View) → length v.objects ≤ k → FilledBelow set k v w → w ≡ only v.objects v.head set
fills_all set k v w l f =
    let o = f.objects ∙ settled_full v.objects k set l in
    λ t. record { objects = o t; held = f.held t; head = f.head t }

-- THE SET

module _ (v : View) (set : ℕ → Bool) (whole : IsWhole v) (c : IsClosed v.objects v.head set) where
  abbrev t : Table
  t = settled_table v.objects set

  stays : (n : ℕ) → IsTrue (set n) → IsUsed v.objects n → IsUsed t n
  stays n h u = (u.0, entry-settled v.objects set n u.0 u.1 h)

  all_stay : (xs : List Value) → ((n : ℕ) → AnyRefTo n xs → IsTrue (set n)) → AllLive (IsUsed v.objects) xs → AllLive (IsUsed t) xs
  all_stay [] f h = tt
  all_stay (Small n ∷ xs) f h = (tt, all_stay xs (λ m r. f m (inr r)) h.1)
  all_stay (Ref n ∷ xs) f h = (stays n (f n (inl refl)) h.0, all_stay xs (λ m r. f m (inr r)) h.1)

  live_stays : (n : ℕ) → IsTrue (set n) → is_live v.objects (Ref n) ≡ true → is_live t (Ref n) ≡ true
  live_stays n h l = used_live t n (stays n h (live_used v.objects n l))

  table_stays : (r : Option Value) → ((n : ℕ) → AnyRefTo n (table_root r) → IsTrue (set n)) → ((x : Value) → r ≡ Some x → is_live v.objects x ≡ true) → (x : Value) → r ≡ Some x → is_live t x ≡ true
  table_stays None f h x e = cc
  table_stays (Some (Small n)) f h x e = let l = live_even v.objects (Small n) (h (Small n) refl) in cc
  table_stays (Some (Ref n)) f h x e = subst (λ y. is_live t y ≡ true) (same_some (Ref n) x e) (live_stays n (f n (inl refl)) (h (Ref n) refl))
    where
      same_some : (a b : Value) → Some a ≡ Some b → a ≡ b
      same_some a b q = cc

  pub complete_only : IsComplete (only v.objects v.head set)
  complete_only = record {
    objects = λ k o e.
        let a = settled-entry v.objects set k o e in
        let was = whole.complete.objects k o a.0 in
        record {
          class = stays o.class (c.onward k o.class o a.1 a.0 (inl refl)) was.class;
          fields = all_stay o.fields (λ m r. c.onward k m o a.1 a.0 (inr r)) was.fields;
        };
    page = λ q. live_stays (place_of q) (c.page q) (whole.complete.page q);
    globals = table_stays v.head.globals (λ n h. c.tables n (any_left n (table_root v.head.globals) _ h)) whole.complete.globals;
    symbols = table_stays v.head.symbols (λ n h. c.tables n (any_right n (table_root v.head.globals) _ h)) whole.complete.symbols;
  }
