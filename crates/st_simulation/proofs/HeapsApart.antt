-- Births, and a table where new objects stand apart, stay the same through one step that is foreseen.
use Rattle.std.proofs.Common.{◌≡◌, ◌≢◌, ℕ, zero, suc, subst, ◌+◌, ◌-◌, ◌<◌, ◌≤◌, Option, Some, None, true, false, refl, sym, ◌∙◌, ap, arith, length, inl, inr, nat_lt}
use Rattle.std.specs.Prelude.{Bool, is_some, ◌==◌, if◌then◌else◌, take}
use Rattle.std.proofs.lemmas.Bool.Decides.{nat_tests}
use Rattle.st_model.specs.Objects.{Object, place_of, renamed_object, IsLiveObject, one, words_of}
use Rattle.st_model.specs.declared.page.PageObject.{PageObject}
use Rattle.std.specs.Option.{option_map}
use Rattle.st_model.specs.Machine.{State, roots_of, used}
use Rattle.st_model.specs.Births.{Birth, Births, births, object_born, replaced, exchanged_births, is_borne, bearer, least_free, born, borne, pointer_of, total_kept}
use Rattle.st_model.specs.Table.{Table, apart, entry, changed, exchanged, placed, joined, free_place, without_first, pointer_apart, behind_by, borne_apart, total_used}
use Rattle.st_model.specs.Show.{IsKept, Shows}
use Rattle.st_simulation.proofs.Same.{never_beyond, OptionSame, Simulation, StateSame}
use Rattle.st_model.proofs.TableLemmas.{shape, tail, coming, to_come, entry_before, joined-last, joined-other, length-joined, length-changed, shape-take_joined, shape-take_changed, shape-without_first, free_place-coming, changed-from, entry_past, entry-take, entry-taken}
use Rattle.st_model.proofs.BirthLemmas.{pointer_of-borne, borne_before, object_there, object_within, length-replaced, bearer-replaced, length-born, born-last, born-other, bearer-born, object_past, is_borne-of, borne-bearer}
use Rattle.std.proofs.lemmas.List.{take_all}
use Rattle.st_simulation.proofs.Totals.{total_matches, words_of-renamed}
use Rattle.st_model.proofs.Names.{any_values, any_object, map_object, same_object}
use Rattle.st_simulation.proofs.HeapsSame.{Naming, HeapSame, ObjectsSame, entry_shown, replaced-objects, replaced-same, born-same, next_is_live, borne_by_live, number_cases, order_cases, weight_there, one_renamed}
use Rattle.st_simulation.proofs.Started.{lives, named, named-kept, named-later, naming, heaps_start, shown_states}

-- the names of the births from the first new one on lie behind all places
abbrev pub named_apart : Births → Table → ℕ → ℕ
named_apart h t n = if nat_lt n (length h) then named h t n else 32768 + (n - length h)

module _ (c : State Table) (s : State Births) (w : Shows c s) (places : length c.memory ≡ 32768) where
  abbrev pub before : Naming
  before = naming c s w

  named_here : (n : ℕ) → n < length s.memory → named_apart s.memory c.memory n ≡ named s.memory c.memory n
  named_here n l = let b : nat_lt n (length s.memory) ≡ true = grind (arith, nat_tests) in rw b refl

  named_behind : (n : ℕ) → length s.memory ≤ n → named_apart s.memory c.memory n ≡ 32768 + (n - length s.memory)
  named_behind n l = let b : nat_lt n (length s.memory) ≡ false = grind (arith, nat_tests) in rw b refl

  named_below : (n : ℕ) → lives s.memory n → n < length s.memory → named s.memory c.memory n < 32768
  named_below n l b =
      let o = entry_shown before s.memory c.memory (heaps_start c s w).objects n l b in
      let e = entry_before c.memory (named s.memory c.memory n) o.0 o.1 in
      omega (arith, e, places)

  pub one_name_apart : (m n : ℕ) → lives s.memory m → lives s.memory n → named_apart s.memory c.memory m ≡ named_apart s.memory c.memory n → m ≡ n
  one_name_apart m n k l e = elim (order_cases m (length s.memory)) [
    | inl a ↦ elim (order_cases n (length s.memory)) [
      | inl b ↦ before.injective m n k l (sym (named_here m a) ∙ (e ∙ named_here n b))
      | inr b ↦ let p = named_below m k a in let x = named_here m a in let y = named_behind n b in absurd (omega arith)
    ]
    | inr a ↦ elim (order_cases n (length s.memory)) [
      | inl b ↦ let p = named_below n l b in let x = named_here n b in let y = named_behind m a in absurd (omega arith)
      | inr b ↦ let x = named_behind m a in let y = named_behind n b in omega arith
    ]
  ]

  abbrev pub naming_apart : Naming
  naming_apart = record { live = lives s.memory; name = named_apart s.memory c.memory; injective = one_name_apart }

  pub record HeapApart (h : Births) (t : Table) : Type 0 where
    -- the table that an ordinary step would have
    pub table : Table
    pub same : HeapSame before h table
    pub objects : ObjectsSame naming_apart h t
    pub longer : length s.memory ≤ length h
    pub length_is : length t ≡ 32768 + (length h - length s.memory)
    pub shape_is : shape (take 32768 t) ≡ shape (take 32768 c.memory)
    pub covered : (k : ℕ) (o : Object) → entry t k ≡ Some o → (n : ℕ) × lives s.memory n × (n < length h) × (named_apart s.memory c.memory n ≡ k)
    pub page : (q : PageObject) → bearer h (place_of q) < length s.memory

  pointer_kept : (n : ℕ) → IsKept s.memory n → pointer_of s.memory n ≡ named_apart s.memory c.memory n
  pointer_kept n k =
      let l = borne_before s.memory n k.0 k.1 in
      pointer_of-borne s.memory n k.0 k.1 ∙ sym (named_here n l ∙ named-kept s.memory c.memory n k.0 k.1)

  now_live : (n : ℕ) → IsKept s.memory n → lives s.memory n
  now_live n k = inl k

  objects_start : ObjectsSame naming_apart s.memory c.memory
  objects_start n (inl k) =
      let b = borne_before s.memory n k.0 k.1 in
      let o = object_there s.memory n b in
      let l = w.closed n k.0 o.0 k.1 o.1 in
      let e = same_object (IsKept s.memory) (pointer_of s.memory) (named_apart s.memory c.memory) pointer_kept o.0 l in
      rw (o.1, named_here n b, named-kept s.memory c.memory n k.0 k.1, w.objects n k.0 o.0 k.1 o.1)
      (map_object (IsKept s.memory) (lives s.memory) now_live o.0 l, ap (λ x. Some x) e)
  objects_start n (inr l) =
      rw (object_past s.memory n l, named_behind n l) (entry_past c.memory (32768 + (n - length s.memory)) (omega (arith, places)))

  pub apart_start : HeapApart s.memory c.memory
  apart_start = record {
    table = c.memory;
    same = heaps_start c s w;
    objects = objects_start;
    longer = omega arith;
    length_is = omega (arith, places);
    shape_is = refl;
    covered = λ k o e.
        let p = (heaps_start c s w).covered k o e in
        (p.0, p.1, p.2, named_here p.0 p.2 ∙ p.3);
    page = λ q. ((heaps_start c s w).page q).0;
  }

  module _ (h : Births) (t : Table) (a : HeapApart h t) where
    pub replaced-apart : (n : ℕ) (o : Object) → lives s.memory n → IsLiveObject (lives s.memory) o
        → HeapApart (replaced h n o) (changed t (named_apart s.memory c.memory n) (renamed_object (named_apart s.memory c.memory) o))
    replaced-apart n o l lo = record {
      table = changed a.table (named s.memory c.memory n) (renamed_object (named s.memory c.memory) o);
      same = replaced-same before h a.table a.same n o l lo;
      objects = replaced-objects naming_apart h t a.objects n o l lo;
      longer = let x = a.longer in omega (arith, length-replaced h n o);
      length_is = length-changed t (named_apart s.memory c.memory n) (renamed_object (named_apart s.memory c.memory) o) ∙ (a.length_is ∙ ap (λ x. 32768 + (x - length s.memory)) (sym (length-replaced h n o)));
      shape_is = shape-take_changed 32768 t (named_apart s.memory c.memory n) (renamed_object (named_apart s.memory c.memory) o) ∙ a.shape_is;
      covered = λ k x e.
          let f = changed-from t (named_apart s.memory c.memory n) k (renamed_object (named_apart s.memory c.memory) o) x e in
          let g = a.covered k f.0 f.1 in
          (g.0, g.1, omega (arith, length-replaced h n o), g.3);
      page = λ q. rw (bearer-replaced h n (place_of q) o) (a.page q);
    }

    pub next_apart : length t ≡ named_apart s.memory c.memory (length h)
    next_apart = a.length_is ∙ sym (named_behind (length h) a.longer)

    pub next_lives : lives s.memory (length h)
    next_lives = next_is_live before h a.table a.same

    born_objects : (o : Object) → IsLiveObject (lives s.memory) o
        → ObjectsSame naming_apart (born h (record { object = o; pointer = least_free h; kept = true })) (joined t (renamed_object (named_apart s.memory c.memory) o))
    born_objects o lo m k =
        let b : Birth = record { object = o; pointer = least_free h; kept = true } in
        let p = renamed_object (named_apart s.memory c.memory) o in
        elim (number_cases m (length h)) [
          | inl e ↦ rw (e, born-last h b, ← next_apart, joined-last t p) (lo, refl)
          | inr d ↦ rw (born-other h b m d, joined-other t p (named_apart s.memory c.memory m) (λ e. d (one_name_apart m (length h) k next_lives (e ∙ next_apart)))) (a.objects m k)
        ]

    pub born-apart : (o : Object) → IsLiveObject (lives s.memory) o
        → HeapApart (born h (record { object = o; pointer = least_free h; kept = true })) (joined t (renamed_object (named_apart s.memory c.memory) o))
    born-apart o lo =
        let b : Birth = record { object = o; pointer = least_free h; kept = true } in
        let p = renamed_object (named_apart s.memory c.memory) o in
        let x = a.longer in
        let y = a.length_is in
        let z = length-born h b in
        let v = length-joined t p in
        record {
          table = placed a.table (renamed_object (named s.memory c.memory) o);
          same = born-same before h a.table a.same o lo;
          objects = born_objects o lo;
          longer = omega arith;
          length_is = omega arith;
          shape_is = shape-take_joined 32768 t p (omega arith) ∙ a.shape_is;
          covered = λ k q e. elim (number_cases k (length t)) [
            | inl i ↦ (length h, next_lives, omega arith, sym next_apart ∙ sym i)
            | inr d ↦
                let g = a.covered k q (sym (joined-other t p k d) ∙ e) in
                (g.0, g.1, omega arith, g.3)
          ];
          page = λ q.
              let i = a.page q in
              let j : bearer h (place_of q) < length h = omega arith in
              rw (bearer-born h b (place_of q) j) i;
        }

    pub page_name : (q : PageObject) → place_of q ≡ named_apart s.memory c.memory (bearer h (place_of q))
    page_name q = (a.same.page q).2 ∙ sym (named_here (bearer h (place_of q)) (a.page q))

    shape_here : shape (take 32768 t) ≡ shape c.memory
    shape_here = a.shape_is ∙ ap shape (take_all 32768 c.memory (omega (arith, places)))

    -- a new object bears the pointer that comes next
    new_pointer : (i : ℕ) → free_place (without_first (take 32768 t)) 1 i ≡ to_come (shape c.memory) i
    new_pointer i =
        let e = free_place-coming (without_first (take 32768 t)) 1 i in
        let f : shape (without_first (take 32768 t)) ≡ tail (shape c.memory) = shape-without_first (take 32768 t) ∙ ap tail shape_here in
        let g = ap (λ u. coming u i) f in
        omega (arith, e, g)

    pub pointer-apart : (n : ℕ) (o : Object) → lives s.memory n → object_born h n ≡ Some o → pointer_apart t (named_apart s.memory c.memory n) ≡ pointer_of h n
    pointer-apart n o l e =
        let b = object_within h n o e in
        let p = pointer_of-borne h n (named s.memory c.memory n) (a.same.kept n l b) in
        elim (order_cases n (length s.memory)) [
          | inl i ↦
              let k = named_below n l i in
              let j : nat_lt (named s.memory c.memory n) 32768 ≡ true = grind (arith, nat_tests) in
              rw (named_here n i, j) (sym p)
          | inr i ↦
              let j : nat_lt (32768 + (n - length s.memory)) 32768 ≡ false = grind (arith, nat_tests) in
              let k : 32768 + (n - length s.memory) - 32768 ≡ n - length s.memory = omega arith in
              rw (named_behind n i, j, k) (new_pointer (n - length s.memory) ∙ (sym (named-later s.memory c.memory n i) ∙ sym p))
        ]

  module _ (h : Births) (t : Table) (a : HeapApart h t) where
    abbrev nm : ℕ → ℕ
    nm = named_apart s.memory c.memory

    object_apart : (n : ℕ) (o : Object) → lives s.memory n → object_born h n ≡ Some o → IsLiveObject (lives s.memory) o × (entry t (nm n) ≡ Some (renamed_object nm o))
    object_apart n o l e = at (object_born h n) (a.objects n l) e
      where
        at : (x : Option Object) → OptionSame (lives s.memory) nm x (entry t (nm n)) → x ≡ Some o → IsLiveObject (lives s.memory) o × (entry t (nm n) ≡ Some (renamed_object nm o))
        at None h e = cc
        at (Some b) h e = let q : b ≡ o = cc in rw (← q) (h.0, h.1)

    pub exchanged-apart : (m n : ℕ) (o p : Object) → lives s.memory m → lives s.memory n → object_born h m ≡ Some o → object_born h n ≡ Some p
        → HeapApart (exchanged_births h m n (object_born h m) (object_born h n)) (exchanged t (nm m) (nm n))
    exchanged-apart m n o p l k e f =
        let x = object_apart m o l e in
        let y = object_apart n p k f in
        rw (e, f, x.1, y.1)
        (replaced-apart (replaced h m p) (changed t (nm m) (renamed_object nm p)) (replaced-apart h t a m p l y.0) n o k x.0)

    -- who bears a pointer

    in_place : (k : ℕ) (o : Object) → entry (take 32768 t) k ≡ Some o → (n : ℕ) × lives s.memory n × (n < length s.memory) × (borne h n ≡ Some k)
    in_place k o e =
        let f = entry-taken 32768 t k o e in
        let g = a.covered k o f.1 in
        elim (order_cases g.0 (length s.memory)) [
          | inl i ↦
              let x : named s.memory c.memory g.0 ≡ k = sym (named_here g.0 i) ∙ g.3 in
              (g.0, g.1, i, a.same.kept g.0 g.1 g.2 ∙ ap (λ y. Some y) x)
          | inr i ↦ let x = named_behind g.0 i in let y = g.3 in let z = f.0 in absurd (omega arith)
        ]

    abbrev later : ℕ → ℕ
    later j = length s.memory + j

    later_name : (j : ℕ) → nm (later j) ≡ 32768 + j
    later_name j = let e : length s.memory + j - length s.memory ≡ j = omega arith in named_behind (later j) (omega arith) ∙ ap (λ x. 32768 + x) e

    later_borne : (j k : ℕ) → j < length h - length s.memory → pointer_apart t (32768 + j) ≡ k → borne h (later j) ≡ Some k
    later_borne j k b e =
        let l : lives s.memory (later j) = inr (omega arith) in
        let i : later j < length h = let x = a.longer in omega (arith, b, x) in
        let o = object_there h (later j) i in
        let p = a.same.kept (later j) l i in
        let q = pointer-apart h t a (later j) o.0 l o.1 in
        let r = pointer_of-borne h (later j) (named s.memory c.memory (later j)) p in
        let n = later_name j in
        let u : pointer_apart t (32768 + j) ≡ pointer_of h (later j) = subst (λ x. pointer_apart t x ≡ pointer_of h (later j)) n q in
        p ∙ ap (λ x. Some x) (sym r ∙ (sym u ∙ e))

    one_bearer : (m n k : ℕ) → borne h m ≡ Some k → borne h n ≡ Some k → m ≡ n
    one_bearer m n k e f =
        let x = a.same.bears m k e in
        let y = a.same.bears n k f in
        before.injective m n x.0 y.0 (x.1 ∙ sym y.1)

    count_is : length t - 32768 ≡ length h - length s.memory
    count_is = let x = a.length_is in omega (arith, x)

    found_last : (k j m : ℕ) (x : Bool) → j < suc m → suc m ≤ length h - length s.memory → borne h (later j) ≡ Some k → pointer_apart t (32768 + j) ≡ k → (pointer_apart t (32768 + m) == k) ≡ x
        → (j < m → behind_by t k m ≡ Some (32768 + j)) → (if x then Some (32768 + m) else behind_by t k m) ≡ Some (32768 + j)
    found_last k j m true b l e f g r =
        let q : pointer_apart t (32768 + m) ≡ k = grind (arith, nat_tests) in
        let n : m ≡ j = omega (arith, one_bearer (later m) (later j) k (later_borne m k (omega arith) q) e) in
        rw n refl
    found_last k j m false b l e f g r =
        let d : pointer_apart t (32768 + m) ≢ k = grind (arith, nat_tests) in
        elim (number_cases j m) [
          | inl q ↦ absurd (d (ap (λ y. pointer_apart t (32768 + y)) (sym q) ∙ f))
          | inr n ↦ r (grind arith)
        ]

    found_behind : (k j m : ℕ) → j < m → m ≤ length h - length s.memory → borne h (later j) ≡ Some k → pointer_apart t (32768 + j) ≡ k → behind_by t k m ≡ Some (32768 + j)
    found_behind k j zero b l e f = absurd (omega arith)
    found_behind k j (suc m) b l e f = found_last k j m (pointer_apart t (32768 + m) == k) b l e f refl (λ q. found_behind k j m q (omega arith) e f)

    none_last : (k m : ℕ) (x : Bool) → suc m ≤ length h - length s.memory → is_borne h k ≡ false → (pointer_apart t (32768 + m) == k) ≡ x → behind_by t k m ≡ None
        → (if x then Some (32768 + m) else behind_by t k m) ≡ None
    none_last k m true l e g r =
        let q : pointer_apart t (32768 + m) ≡ k = grind (arith, nat_tests) in
        let b = is_borne-of h (later m) k (later_borne m k (omega arith) q) in
        absurd (cc)
    none_last k m false l e g r = r

    none_behind : (k m : ℕ) → m ≤ length h - length s.memory → is_borne h k ≡ false → behind_by t k m ≡ None
    none_behind k zero l e = refl
    none_behind k (suc m) l e = none_last k m (pointer_apart t (32768 + m) == k) l e refl (none_behind k m (omega arith) e)

    -- the pointer of a birth that came later is that of its object behind all places
    later_pointer : (n k : ℕ) → length s.memory ≤ n → borne h n ≡ Some k → (later (n - length s.memory) ≡ n) × (pointer_apart t (32768 + (n - length s.memory)) ≡ k)
    later_pointer n k i e =
        let q : later (n - length s.memory) ≡ n = omega (arith, i) in
        let b = borne_before h n k e in
        let o = object_there h n b in
        let p = pointer-apart h t a n o.0 (inr i) o.1 in
        let x = named_behind n i in
        (q, subst (λ y. pointer_apart t y ≡ pointer_of h n) x p ∙ pointer_of-borne h n k e)

    borne_behind : (k n : ℕ) (x : Option Object) → length s.memory ≤ n → borne h n ≡ Some k → entry (take 32768 t) k ≡ x → (if is_some x then Some k else behind_by t k (length t - 32768)) ≡ Some (nm n)
    borne_behind k n (Some o) i e f =
        let g = in_place k o f in
        let r = one_bearer g.0 n k g.3 e in
        let l = g.2 in
        absurd (omega arith)
    borne_behind k n None i e f =
        let p = later_pointer n k i e in
        let b = borne_before h n k e in
        let x = named_behind n i in
        rw (count_is, x) (found_behind k (n - length s.memory) (length h - length s.memory) (omega (arith, i, b)) (omega arith) (subst (λ y. borne h y ≡ Some k) (sym p.0) e) p.1)

    borne_here : (k n : ℕ) → borne h n ≡ Some k → borne_apart t k ≡ Some (nm n)
    borne_here k n e = elim (order_cases n (length s.memory)) [
      | inl i ↦
          let b = a.same.bears n k e in
          let x : nm n ≡ k = named_here n i ∙ b.1 in
          let o = entry_shown naming_apart h t a.objects n b.0 (borne_before h n k e) in
          let l = named_below n b.0 i in
          let y : entry (take 32768 t) k ≡ Some o.0 = entry-take 32768 t k (omega (arith, l, b.1)) ∙ subst (λ z. entry t z ≡ Some o.0) x o.1 in
          rw y (ap (λ z. Some z) (sym x))
      | inr i ↦ borne_behind k n (entry (take 32768 t) k) i e refl
    ]

    borne_nowhere : (k : ℕ) (x : Option Object) → is_borne h k ≡ false → entry (take 32768 t) k ≡ x → (if is_some x then Some k else behind_by t k (length t - 32768)) ≡ None
    borne_nowhere k (Some o) e f = let g = in_place k o f in let r = is_borne-of h g.0 k g.3 in absurd (cc)
    borne_nowhere k None e f = none_behind k (length t - 32768) (omega (arith, count_is)) e

    borne_if : (k : ℕ) (x : Bool) → is_borne h k ≡ x → borne_apart t k ≡ option_map nm (if x then Some (bearer h k) else None)
    borne_if k true e = borne_here k (bearer h k) (borne-bearer h k e)
    borne_if k false e = borne_nowhere k (entry (take 32768 t) k) e refl

    pub borne-apart : (k : ℕ) → borne_apart t k ≡ option_map nm (births.borne_by h k)
    borne-apart k = borne_if k (is_borne h k) refl

  module _ (weight : Object → ℕ) (renamed_weight : (f : ℕ → ℕ) (o : Object) → weight (renamed_object f o) ≡ weight o) where
    pub apart_total : (h : Births) (t : Table) → HeapApart h t → total_used weight t ≡ total_kept weight h
    apart_total h t a = total_matches weight (named_apart s.memory c.memory) h t (record {
      there = λ n k.
          let o = object_there h n (borne_before h n k.0 k.1) in
          let p = weight_there before.live weight renamed_weight (named_apart s.memory c.memory) (object_born h n) (entry t (named_apart s.memory c.memory n)) o.0 (a.objects n (a.same.bears n k.0 k.1).0) o.1 in
          (o.0, p.0, o.1, p.1, p.2);
      only = λ p x e.
          let n = a.covered p x e in
          (n.0, (named s.memory c.memory n.0, a.same.kept n.0 n.1 n.2), n.3);
      distinct = λ m n k l e. one_name_apart m n (a.same.bears m k.0 k.1).0 (a.same.bears n l.0 l.1).0 e;
    })

  pub used_apart : (h : Births) (t : Table) → HeapApart h t → used apart t ≡ used births h
  used_apart h t a =
      let e = apart_total one one_renamed h t a in
      let d = apart_total words_of words_of-renamed h t a in
      λ i. record { entries = e i; words = d i }

  -- while a step is foreseen, births and table do the same
  abbrev pub apart_simulation : Simulation births apart
  apart_simulation = record {
    live = lives s.memory;
    name = named_apart s.memory c.memory;
    heaps = HeapApart;
    there = λ h n. Unit {0};
    limits = λ x. Unit {0};
    makes = Unit {0};
    beyond = never_beyond _ _;
    injective = one_name_apart;
    read = λ h t n a l. a.objects n l;
    read_there = λ h t n o a e. (tt, any_object o);
    replace = λ h t n o p a l e lp k. replaced-apart h t a n p l lp;
    exchange = λ h t m n o p a l k e f. exchanged-apart h t a m n o p l k e f;
    append = λ h t b o a l g lo k. born-apart h t a o lo;
    next_live = λ h t a. next_lives h t a;
    next = λ h t a. next_apart h t a;
    named_live = λ h t q a. ((a.same.page q).1, tt);
    named = λ h t q a. page_name h t a q;
    pointer = λ h t n o a l e. pointer-apart h t a n o l e;
    borne_live = λ h t p n a e. borne_by_live before h a.table a.same p n e;
    borne_by = λ h t p a. borne-apart h t a p;
    used = λ h t a. used_apart h t a;
    rooms = λ h t a b o m x l e. inl refl;
    there_replace = λ h n m o p e k. k;
    there_exchange = λ h a b m o p e f k. k;
    there_append = λ h m o k. k;
  }

  pub states_apart : StateSame apart_simulation s c
  states_apart = shown_states c s w apart_simulation apart_start tt (any_values (roots_of s)) now_live pointer_kept
