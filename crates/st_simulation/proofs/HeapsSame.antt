-- Births and a table that shows them stay so through one cycle.
use Rattle.std.proofs.Common.{◌≡◌, ◌≢◌, ℕ, ◌+◌, ◌<◌, ◌≤◌, suc, Option, Some, None, refl, sym, ◌∙◌, ap, subst, arith, length, inl, inr, ◌⊎◌}
use Rattle.st_model.specs.Objects.{Object, place_of, renamed_object, IsLiveObject, one, words_of}
use Rattle.st_model.specs.declared.page.PageObject.{PageObject}
use Rattle.st_model.specs.Machine.{used}
use Rattle.st_simulation.proofs.Totals.{total_matches, words_of-renamed}
use Rattle.std.specs.Option.{option_map}
use Rattle.std.specs.Prelude.{Bool, true, false, is_some, if◌then◌else◌}
use Rattle.st_model.specs.Births.{Birth, Births, births, object_born, replaced, exchanged_births, is_borne, bearer, least_free, born, borne, total_kept}
use Rattle.st_model.specs.Table.{Table, table, entry, changed, exchanged, first_free, placed, total_used}
use Rattle.st_simulation.proofs.Same.{never_beyond, OptionSame, Simulation}
use Rattle.st_model.proofs.Names.{any_object}
use Rattle.st_model.proofs.TableLemmas.{changed-some, changed-none, changed-other, changed-from, first_free-none, below_first_free, placed-first, placed-other, shape, to_come, shape-changed, next_to_come, first_free-shape, first_free-start}
use Rattle.st_model.proofs.BirthLemmas.{pointer_of-borne, object_within, object_there, borne_before, replaced-born, replaced-other, length-replaced, borne-replaced, bearer-replaced, object_past, object_before, length-born, born-last, born-other, borne-last, borne-other, borne_past, bearer-born, is_borne-of, of-is_borne, least_free-free, below_least_free, least_free-start, borne_before, borne-bearer}

-- the births that live through a cycle, with those still to come, and the pointer that each bears
pub record Naming : Type 1 where
  pub live : ℕ → Type 0
  pub name : ℕ → ℕ
  pub injective : (m n : ℕ) → live m → live n → name m ≡ name n → m ≡ n

pub record HeapSame (w : Naming) (h : Births) (c : Table) : Type 0 where
  pub objects : (n : ℕ) → w.live n → OptionSame w.live w.name (object_born h n) (entry c (w.name n))
  pub later : (n : ℕ) → length h ≤ n → w.live n
  pub later_names : (i : ℕ) → w.name (length h + i) ≡ to_come (shape c) i
  pub kept : (n : ℕ) → w.live n → n < length h → borne h n ≡ Some (w.name n)
  pub bears : (n p : ℕ) → borne h n ≡ Some p → w.live n × (w.name n ≡ p)
  pub covered : (k : ℕ) (o : Object) → entry c k ≡ Some o → (n : ℕ) × w.live n × (n < length h) × (w.name n ≡ k)
  pub page : (q : PageObject) → (bearer h (place_of q) < length h) × w.live (bearer h (place_of q)) × (place_of q ≡ w.name (bearer h (place_of q)))

pub number_cases : (m n : ℕ) → (m ≡ n) ⊎ (m ≢ n)
number_cases m n = grind arith

pub order_cases : (m n : ℕ) → (m < n) ⊎ (n ≤ m)
order_cases m n = grind arith

some_or_none : (o : Option Object) → (o ≡ None) ⊎ ((a : Object) × o ≡ Some a)
some_or_none None = inl refl
some_or_none (Some a) = inr (a, refl)

-- what stands in the table for an object that was made
shown : (live : ℕ → Type 0) (f : ℕ → ℕ) (a b : Option Object) → OptionSame live f a b → a ≢ None → (o : Object) × b ≡ Some o
shown live f None b s n = absurd (n refl)
shown live f (Some a) b s n = (renamed_object f a, s.1)

not_shown : (live : ℕ → Type 0) (f : ℕ → ℕ) (a b : Option Object) → OptionSame live f a b → a ≡ None → b ≡ None
not_shown live f None b s n = s
not_shown live f (Some a) b s n = cc

-- the objects of all births that live are in the table, under their names
abbrev pub ObjectsSame : Naming → Births → Table → Type 0
ObjectsSame w h c = (n : ℕ) → w.live n → OptionSame w.live w.name (object_born h n) (entry c (w.name n))

module _ (w : Naming) (h : Births) (c : Table) (objects : ObjectsSame w h c) where
  pub entry_shown : (n : ℕ) → w.live n → n < length h → (o : Object) × entry c (w.name n) ≡ Some o
  entry_shown n l b = shown w.live w.name (object_born h n) (entry c (w.name n)) (objects n l) (object_before h n b)

  replaced_here : (n : ℕ) (o : Object) → w.live n → IsLiveObject w.live o
      → OptionSame w.live w.name (object_born (replaced h n o) n) (entry (changed c (w.name n) (renamed_object w.name o)) (w.name n))
  replaced_here n o l lo = elim (order_cases n (length h)) [
    | inl b ↦ let e = entry_shown n l b in
        rw (replaced-born h n o b, changed-some c (w.name n) (renamed_object w.name o) e.0 e.1) (lo, refl)
    | inr p ↦
        let gone : object_born (replaced h n o) n ≡ None = object_past (replaced h n o) n (omega (arith, length-replaced h n o)) in
        let none : entry c (w.name n) ≡ None = not_shown w.live w.name (object_born h n) (entry c (w.name n)) (objects n l) (object_past h n p) in
        rw (gone, changed-none c (w.name n) (renamed_object w.name o) none) refl
  ]

  pub replaced-objects : (n : ℕ) (o : Object) → w.live n → IsLiveObject w.live o → ObjectsSame w (replaced h n o) (changed c (w.name n) (renamed_object w.name o))
  replaced-objects n o l lo m k = elim (number_cases m n) [
    | inl e ↦ rw e (replaced_here n o l lo)
    | inr d ↦ rw (replaced-other h n m o d, changed-other c (w.name n) (w.name m) (renamed_object w.name o) (λ e. d (w.injective m n k l e))) (objects m k)
  ]

module _ (w : Naming) (h : Births) (c : Table) (s : HeapSame w h c) where
  pub first-name : first_free c ≡ w.name (length h)
  first-name = let e : length h + 0 ≡ length h = omega arith in
      first_free-shape c ∙ (sym (s.later_names 0) ∙ ap w.name e)

  pub next_is_live : w.live (length h)
  next_is_live = s.later (length h) (omega arith)

  pub replaced-same : (n : ℕ) (o : Object) → w.live n → IsLiveObject w.live o
      → HeapSame w (replaced h n o) (changed c (w.name n) (renamed_object w.name o))
  replaced-same n o l lo = record {
    objects = replaced-objects w h c s.objects n o l lo;
    later = λ m b. s.later m (omega (arith, length-replaced h n o));
    later_names = λ i. rw (length-replaced h n o, shape-changed c (w.name n) (renamed_object w.name o)) (s.later_names i);
    kept = λ m k b. borne-replaced h n m o ∙ s.kept m k (omega (arith, length-replaced h n o));
    bears = λ m p e. s.bears m p (sym (borne-replaced h n m o) ∙ e);
    covered = λ k a e.
        let f = changed-from c (w.name n) k (renamed_object w.name o) a e in
        let g = s.covered k f.0 f.1 in
        (g.0, g.1, omega (arith, length-replaced h n o), g.3);
    page = λ q. rw (bearer-replaced h n (place_of q) o, length-replaced h n o) (s.page q);
  }

  taken_below : (k : ℕ) → 1 ≤ k → k < least_free h → entry c k ≢ None
  taken_below k m l e =
      let b = of-is_borne h k (below_least_free h k m l) in
      let f = s.bears b.0 k b.1 in
      elim (order_cases b.0 (length h)) [
        | inl p ↦ let a = entry_shown w h c s.objects b.0 f.0 p in
            let q : entry c k ≡ Some a.0 = subst (λ x. entry c x ≡ Some a.0) f.1 a.1 in cc
        | inr p ↦ let q = borne_past h b.0 p in cc
      ]

  free_there : entry c (least_free h) ≡ None
  free_there = elim (some_or_none (entry c (least_free h))) [
    | inl e ↦ e
    | inr p ↦
        let g = s.covered (least_free h) p.0 p.1 in
        let k : borne h g.0 ≡ Some (least_free h) = s.kept g.0 g.1 g.2 ∙ ap (λ x. Some x) g.3 in
        let t = is_borne-of h g.0 (least_free h) k in
        let f = least_free-free h in
        absurd (cc)
  ]

  pub least_free-first : least_free h ≡ first_free c
  least_free-first = elim (order_cases (least_free h) (first_free c)) [
    | inl l ↦ absurd (below_first_free c (least_free h) (least_free-start h) l free_there)
    | inr l ↦ elim (order_cases (first_free c) (least_free h)) [
      | inl k ↦ absurd (taken_below (first_free c) (first_free-start c) k (first_free-none c))
      | inr k ↦ omega arith
    ]
  ]

  pub born-same : (o : Object) → IsLiveObject w.live o
      → HeapSame w (born h (record { object = o; pointer = least_free h; kept = true })) (placed c (renamed_object w.name o))
  born-same o lo =
      let b : Birth = record { object = o; pointer = least_free h; kept = true } in
      record {
        objects = λ m k. elim (number_cases m (length h)) [
          | inl e ↦ rw (e, born-last h b, sym first-name, placed-first c (renamed_object w.name o)) (lo, refl)
          | inr d ↦ rw (born-other h b m d, placed-other c (w.name m) (renamed_object w.name o) (λ e. d (w.injective m (length h) k next_is_live (e ∙ first-name)))) (s.objects m k)
        ];
        later = λ m p. s.later m (omega (arith, length-born h b));
        later_names = λ i.
            let e : length (born h b) + i ≡ length h + suc i = omega (arith, length-born h b) in
            rw (e, next_to_come c (renamed_object w.name o) i) (s.later_names (suc i));
        kept = λ m k p. elim (number_cases m (length h)) [
          | inl e ↦ rw (e, borne-last h b, least_free-first, first-name) refl
          | inr d ↦ borne-other h b m d ∙ s.kept m k (omega (arith, length-born h b))
        ];
        bears = λ m p e. elim (number_cases m (length h)) [
          | inl q ↦
              let f : borne (born h b) (length h) ≡ Some p = subst (λ x. borne (born h b) x ≡ Some p) q e in
              let g = borne-last h b in
              let k : least_free h ≡ p = cc in
              rw q (next_is_live, sym first-name ∙ (sym least_free-first ∙ k))
          | inr d ↦ s.bears m p (sym (borne-other h b m d) ∙ e)
        ];
        covered = λ k a e. elim (number_cases k (first_free c)) [
          | inl q ↦ (length h, next_is_live, omega (arith, length-born h b), sym first-name ∙ sym q)
          | inr d ↦
              let g = s.covered k a (sym (placed-other c k (renamed_object w.name o) d) ∙ e) in
              (g.0, g.1, omega (arith, length-born h b), g.3)
        ];
        page = λ q. let p = s.page q in rw (bearer-born h b (place_of q) p.0) (omega (arith, length-born h b), p.1, p.2);
      }

module _ (w : Naming) (h : Births) (c : Table) (s : HeapSame w h c) where
  object_live : (n : ℕ) (o : Object) → w.live n → object_born h n ≡ Some o → IsLiveObject w.live o × (entry c (w.name n) ≡ Some (renamed_object w.name o))
  object_live n o l e = at (object_born h n) (s.objects n l) e
    where
      at : (x : Option Object) → OptionSame w.live w.name x (entry c (w.name n)) → x ≡ Some o → IsLiveObject w.live o × (entry c (w.name n) ≡ Some (renamed_object w.name o))
      at None h e = cc
      at (Some a) h e = let q : a ≡ o = cc in rw (← q) (h.0, h.1)

  pub exchanged-same : (a b : ℕ) (o p : Object) → w.live a → w.live b → object_born h a ≡ Some o → object_born h b ≡ Some p
      → HeapSame w (exchanged_births h a b (object_born h a) (object_born h b)) (exchanged c (w.name a) (w.name b))
  exchanged-same a b o p l k e f =
      let x = object_live a o l e in
      let y = object_live b p k f in
      rw (e, f, x.1, y.1)
      (replaced-same w (replaced h a p) (changed c (w.name a) (renamed_object w.name p)) (replaced-same w h c s a p l y.0) b o k x.0)

  -- the births that bear pointers, and the entries at them

  borne_is : (k : ℕ) (x : Bool) (e : Option Object) → is_borne h k ≡ x → entry c k ≡ e → (if is_some e then Some k else None) ≡ option_map w.name (if x then Some (bearer h k) else None)
  borne_is k true (Some o) e f = let b = s.bears (bearer h k) k (borne-bearer h k e) in ap (λ x. Some x) (sym b.1)
  borne_is k true None e f =
      let b = s.bears (bearer h k) k (borne-bearer h k e) in
      let o = entry_shown w h c s.objects (bearer h k) b.0 (borne_before h (bearer h k) k (borne-bearer h k e)) in
      let q : entry c k ≡ Some o.0 = subst (λ x. entry c x ≡ Some o.0) b.1 o.1 in
      absurd (cc)
  borne_is k false (Some o) e f =
      let n = s.covered k o f in
      let b = is_borne-of h n.0 k (s.kept n.0 n.1 n.2 ∙ ap (λ x. Some x) n.3) in
      absurd (cc)
  borne_is k false None e f = refl

  bearer_live : (k : ℕ) (x : Bool) (n : ℕ) → is_borne h k ≡ x → (if x then Some (bearer h k) else None) ≡ Some n → w.live n
  bearer_live k true n e f = let q : bearer h k ≡ n = cc in rw (← q) (s.bears (bearer h k) k (borne-bearer h k e)).0
  bearer_live k false n e f = cc

  pub borne-same : (k : ℕ) → (if is_some (entry c k) then Some k else None) ≡ option_map w.name (births.borne_by h k)
  borne-same k = borne_is k (is_borne h k) (entry c k) refl refl

  pub borne_by_live : (k n : ℕ) → births.borne_by h k ≡ Some n → w.live n
  borne_by_live k n e = bearer_live k (is_borne h k) n refl e

pub one_renamed : (f : ℕ → ℕ) (o : Object) → one (renamed_object f o) ≡ one o
one_renamed f o = refl

-- what both have used
pub weight_there : (live : ℕ → Type 0) (weight : Object → ℕ) (renamed_weight : (f : ℕ → ℕ) (o : Object) → weight (renamed_object f o) ≡ weight o) (f : ℕ → ℕ) (a b : Option Object) (o : Object)
    → OptionSame live f a b → a ≡ Some o → (p : Object) × (b ≡ Some p) × (weight p ≡ weight o)
weight_there live weight renamed_weight f None b o h e = absurd (cc)
weight_there live weight renamed_weight f (Some a) b o h e = let q : a ≡ o = cc in (renamed_object f a, h.1, renamed_weight f a ∙ ap weight q)

module _ (w : Naming) where
  same_total : (weight : Object → ℕ) → ((f : ℕ → ℕ) (o : Object) → weight (renamed_object f o) ≡ weight o) → (h : Births) (t : Table) → HeapSame w h t → total_used weight t ≡ total_kept weight h
  same_total weight renamed_weight h t a = total_matches weight w.name h t (record {
    there = λ n k.
        let o = object_there h n (borne_before h n k.0 k.1) in
        let p = weight_there w.live weight renamed_weight w.name (object_born h n) (entry t (w.name n)) o.0 (a.objects n (a.bears n k.0 k.1).0) o.1 in
        (o.0, p.0, o.1, p.1, p.2);
    only = λ p x e.
        let n = a.covered p x e in
        (n.0, (w.name n.0, a.kept n.0 n.1 n.2), n.3);
    distinct = λ m n k l e. w.injective m n (a.bears m k.0 k.1).0 (a.bears n l.0 l.1).0 e;
  })

  pub same_used : (h : Births) (t : Table) → HeapSame w h t → used table t ≡ used births h
  same_used h t a =
      let e = same_total one one_renamed h t a in
      let d = same_total words_of words_of-renamed h t a in
      λ i. record { entries = e i; words = d i }

-- within a cycle, births and table do the same
abbrev pub cycle_simulation : (w : Naming) → Simulation births table
cycle_simulation w = record {
  live = w.live;
  name = w.name;
  heaps = HeapSame w;
  there = λ h n. Unit {0};
  limits = λ a. Unit {0};
  makes = Unit {0};
  beyond = never_beyond _ _;
  injective = w.injective;
  read = λ h c n s l. s.objects n l;
  read_there = λ h c n o s e. (tt, any_object o);
  replace = λ h c n o p s l e lp k. replaced-same w h c s n p l lp;
  exchange = λ h c a b o p s l k e f. exchanged-same w h c s a b o p l k e f;
  append = λ h c a o s l g lo k. born-same w h c s o lo;
  next_live = λ h c s. next_is_live w h c s;
  next = λ h c s. first-name w h c s;
  named_live = λ h c q s. ((s.page q).1, tt);
  named = λ h c q s. (s.page q).2;
  pointer = λ h c n o s l e. sym (pointer_of-borne h n (w.name n) (s.kept n l (object_within h n o e)));
  borne_live = λ h c p n s e. borne_by_live w h c s p n e;
  borne_by = λ h c p s. borne-same w h c s p;
  used = λ h t s. same_used w h t s;
  rooms = λ h t a b o m x l e. inl refl;
  there_replace = λ h n m o p e k. k;
  there_exchange = λ h a b m o p e f k. k;
  there_append = λ h m o k. k;
}
