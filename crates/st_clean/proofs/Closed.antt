-- The least set that has the root page and the tables of names, and is closed under referring.
use Rattle.std.proofs.Common.{◌≡◌, ◌⊎◌, inl, inr, ℕ, zero, suc, ◌+◌, ◌<◌, ◌≤◌, List, [], ◌∷◌, Bool, true, false, Some, None, IsTrue, length, map, refl, sym, ap, ◌∙◌, subst, arith}
use Rattle.std.specs.Prelude.{slice_get, unwrap_or, Option}
use Rattle.std.proofs.lemmas.Bool.{cases_lt}
use Rattle.std.proofs.lemmas.Option.{slice_get_within}
use Rattle.st_model.specs.declared.oop.Oop.{Oop}
use Rattle.st_model.specs.declared.page.PageObject.{PageObject}
use Rattle.st_model.specs.declared.page.PageObject.TheVariants.{NilObject, FalseObject, TrueObject, SchedulerAssociation, SmallIntegerClass, StringClass, ArrayClass, MethodContextClass, BlockContextClass, PointClass, LargeClass, MessageClass, MethodClass, CharacterClass, NotUnderstood, CannotReturn, Selectors, Characters, MustBeBoolean, SymbolClass}
use Rattle.st_model.specs.Values.{Value, Small, Ref, value, AllLive}
use Rattle.st_model.specs.Objects.{Object, page, place_of, IsLiveObject}
use Rattle.st_model.specs.Machine.{Head, head_roots, table_root}
use Rattle.st_model.specs.Settled.{AnyRefTo, Refers, is_marked}
use Rattle.st_model.specs.Show.{IsUsed}
use Rattle.st_model.specs.Table.{Table, entry}
use Rattle.st_model.specs.View.{View, IsWhole, is_live, object_of, nothing}
use Rattle.st_model.proofs.Roots.{any_either, any_left, any_right}
use Rattle.st_model.proofs.WholeLemmas.{live_used}
use Rattle.st_clean.specs.declared.state.Found.{Found}
use Rattle.st_clean.specs.inside.Found.{Notes, Has, names_in, page_names, first_names}
use Rattle.st_clean.specs.Reach as reaches
use Rattle.st_clean.specs.Reach.{Reaches, IsReach, IsClosed}

-- THE LAWS

pub reach_closed : (t : Table) (h : Head) (set : ℕ → Bool) → IsReach t h set → IsClosed t h set
reach_closed t h set is = record {
  page = λ q. (is (place_of q)).1 (reaches.page q);
  tables = λ n a. (is n).1 (reaches.table n a);
  onward = λ n m o a e r. (is m).1 (reaches.onward n m o ((is n).0 a) e r);
}

-- a closed set has all that is reached
pub reached_in : (t : Table) (h : Head) (set : ℕ → Bool) → IsClosed t h set → (n : ℕ) → Reaches t h n → IsTrue (set n)
reached_in t h set c n (reaches.page q) = c.page q
reached_in t h set c n (reaches.table m a) = c.tables m a
reached_in t h set c n (reaches.onward k m o r e f) = c.onward k m o (reached_in t h set c k r) e f

pub reach_least : (t : Table) (h : Head) (set other : ℕ → Bool) → IsReach t h set → IsClosed t h other → (n : ℕ) → IsTrue (set n) → IsTrue (other n)
reach_least t h set other is c n a = reached_in t h other c n ((is n).0 a)

-- THE SEARCH

-- what a listed word names is reached, and is there
pub record IsListed (v : View) (x : Oop) : Type 0 where
  pub name : ℕ
  pub object : Object
  pub is : value x ≡ Ref name
  pub there : entry v.objects name ≡ Some object
  pub reached : Reaches v.objects v.head name

-- What is needed first is marked; what is listed is reached; what is marked is listed; and what the first `next` of the list refer to
-- is marked.
pub record IsFinding (v : View) (f : Found) (next : ℕ) : Type 0 where
  pub first : (n : ℕ) → AnyRefTo n (first_names v) → is_marked f.marks.items n ≡ true
  pub each : (i : ℕ) (x : Oop) → slice_get f.list.items i ≡ Some x → IsListed v x
  pub listed : (n : ℕ) → is_marked f.marks.items n ≡ true → Has f.list.items n
  pub done : (i : ℕ) (x : Oop) → i < next → slice_get f.list.items i ≡ Some x → (m : ℕ) → AnyRefTo m (names_in (object_of v.objects (value x))) → is_marked f.marks.items m ≡ true
  pub within : next ≤ length f.list.items

any_page : (qs : List PageObject) (n : ℕ) → AnyRefTo n (map (λ q. Ref (place_of q)) qs) → (q : PageObject) × (n ≡ place_of q)
any_page [] n h = absurd h
any_page (q ∷ qs) n (inl h) = (q, h)
any_page (q ∷ qs) n (inr h) = any_page qs n h

any_used : (P : ℕ → Type 0) (n : ℕ) (vs : List Value) → AllLive P vs → AnyRefTo n vs → P n
any_used P n [] l h = absurd h
any_used P n (Small x ∷ vs) l (inl h) = absurd h
any_used P n (Ref x ∷ vs) l (inl h) = subst P (sym h) l.0
any_used P n (v ∷ vs) l (inr h) = any_used P n vs l.1 h

same_some : {X : Type 0} (x y : X) → Some x ≡ Some y → x ≡ y
same_some x y e = cc

there : {X : Type 0} (xs : List X) (i : ℕ) → i < length xs → (x : X) × (slice_get xs i ≡ Some x)
there [] i l = absurd (nothing i l)
  where
    nothing : (j : ℕ) → j < 0 → ⊥
    nothing j h = omega (arith, h)
there (x ∷ xs) zero l = (x, refl)
there (x ∷ xs) (suc i) l = there xs i (omega (arith, l))

i_cases : (i n : ℕ) → i < n + 1 → (i < n) ⊎ (i ≡ n)
i_cases i n l = elim (cases_lt i n) [ inl h ↦ inl h | inr h ↦ inr (omega (arith, h, l)) ]

on_page : (q : PageObject) → AnyRefTo (place_of q) page_names
on_page NilObject = inl refl
on_page FalseObject = inr (inl refl)
on_page TrueObject = inr (inr (inl refl))
on_page SchedulerAssociation = inr (inr (inr (inl refl)))
on_page SmallIntegerClass = inr (inr (inr (inr (inl refl))))
on_page StringClass = inr (inr (inr (inr (inr (inl refl)))))
on_page ArrayClass = inr (inr (inr (inr (inr (inr (inl refl))))))
on_page MethodContextClass = inr (inr (inr (inr (inr (inr (inr (inl refl)))))))
on_page BlockContextClass = inr (inr (inr (inr (inr (inr (inr (inr (inl refl))))))))
on_page PointClass = inr (inr (inr (inr (inr (inr (inr (inr (inr (inl refl)))))))))
on_page LargeClass = inr (inr (inr (inr (inr (inr (inr (inr (inr (inr (inl refl))))))))))
on_page MessageClass = inr (inr (inr (inr (inr (inr (inr (inr (inr (inr (inr (inl refl)))))))))))
on_page MethodClass = inr (inr (inr (inr (inr (inr (inr (inr (inr (inr (inr (inr (inl refl))))))))))))
on_page CharacterClass = inr (inr (inr (inr (inr (inr (inr (inr (inr (inr (inr (inr (inr (inl refl)))))))))))))
on_page NotUnderstood = inr (inr (inr (inr (inr (inr (inr (inr (inr (inr (inr (inr (inr (inr (inl refl))))))))))))))
on_page CannotReturn = inr (inr (inr (inr (inr (inr (inr (inr (inr (inr (inr (inr (inr (inr (inr (inl refl)))))))))))))))
on_page Selectors = inr (inr (inr (inr (inr (inr (inr (inr (inr (inr (inr (inr (inr (inr (inr (inr (inl refl))))))))))))))))
on_page Characters = inr (inr (inr (inr (inr (inr (inr (inr (inr (inr (inr (inr (inr (inr (inr (inr (inr (inl refl)))))))))))))))))
on_page MustBeBoolean = inr (inr (inr (inr (inr (inr (inr (inr (inr (inr (inr (inr (inr (inr (inr (inr (inr (inr (inl refl))))))))))))))))))
on_page SymbolClass = inr (inr (inr (inr (inr (inr (inr (inr (inr (inr (inr (inr (inr (inr (inr (inr (inr (inr (inr (inl refl)))))))))))))))))))

same_ref : (m n : ℕ) → Ref m ≡ Ref n → m ≡ n
same_ref m n e = cc

object_at : (v : View) (x : Value) (n : ℕ) (o : Object) → x ≡ Ref n → entry v.objects n ≡ Some o → object_of v.objects x ≡ o
unfolding object_of
object_at v x n o is e = ap (object_of v.objects) is ∙ ap (λ y. unwrap_or y nothing) e

module _ (v : View) (w : IsWhole v) where
  table_there : (r : Option Value) → ((x : Value) → r ≡ Some x → is_live v.objects x ≡ true) → (n : ℕ) → AnyRefTo n (table_root r) → IsUsed v.objects n
  table_there None live n h = absurd h
  table_there (Some (Small k)) live n (inl h) = absurd h
  table_there (Some (Ref k)) live n (inl h) = subst (IsUsed v.objects) (sym h) (live_used v.objects k (live (Ref k) refl))
  table_there (Some x) live n (inr h) = absurd h

  first_used : (n : ℕ) → AnyRefTo n (first_names v) → IsUsed v.objects n × Reaches v.objects v.head n
  first_used n h = elim (any_either n page_names (head_roots v.head) h) [
    | inl k ↦ let q = any_page page n k in (subst (IsUsed v.objects) (sym q.1) (live_used v.objects (place_of q.0) (w.complete.page q.0)), subst (Reaches v.objects v.head) (sym q.1) (reaches.page q.0))
    | inr k ↦ (
      elim (any_either n (table_root v.head.globals) (table_root v.head.symbols) k) [
        | inl j ↦ table_there v.head.globals w.complete.globals n j
        | inr j ↦ table_there v.head.symbols w.complete.symbols n j
      ],
      reaches.table n k,
    )
  ]

  -- what is reached is there
  pub reached_used : (n : ℕ) → Reaches v.objects v.head n → IsUsed v.objects n
  reached_used n (reaches.page q) = live_used v.objects (place_of q) (w.complete.page q)
  reached_used n (reaches.table m a) = elim (any_either m (table_root v.head.globals) (table_root v.head.symbols) a) [
    | inl j ↦ table_there v.head.globals w.complete.globals m j
    | inr j ↦ table_there v.head.symbols w.complete.symbols m j
  ]
  reached_used n (reaches.onward k m o r e f) =
      let l : IsLiveObject (IsUsed v.objects) o = w.complete.objects k o e in
      any_used (IsUsed v.objects) m (names_in o) (l.class, l.fields) f

  pub finding_begins : (f g : Found) → ((n : ℕ) → is_marked f.marks.items n ≡ false) → f.list.items ≡ [] → Notes (first_names v) f g → IsFinding v g 0
  finding_begins f g marks list n = record {
    first = n.added;
    each = λ i x e. elim (n.behind i x e) [
      | inl h ↦ none i x (sym (ap (λ xs. slice_get xs i) list) ∙ h)
      | inr h ↦ let u = first_used h.0 h.2 in record { name = h.0; object = u.0.0; is = h.1; there = u.0.1; reached = u.1 }
    ];
    listed = λ m e. elim (n.listed m e) [ inl h ↦ unmarked m h | inr h ↦ h ];
    done = λ i x l e m a. absurd (nothing_below i l);
    within = omega arith;
  }
    where
      none : (i : ℕ) (x : Oop) → slice_get {X = Oop} [] i ≡ Some x → IsListed v x
      none i x e = cc

      unmarked : (m : ℕ) → is_marked f.marks.items m ≡ true → Has g.list.items m
      unmarked m h = let e = marks m in cc

      nothing_below : (i : ℕ) → i < 0 → ⊥
      nothing_below i l = omega (arith, l)

  module _ (f g : Found) (o : Oop) (next : ℕ) (s : IsFinding v f next) (at : slice_get f.list.items next ≡ Some o) (n : Notes (names_in (object_of v.objects (value o))) f g) where
    abbrev here : IsListed v o
    here = s.each next o at

    same_object : object_of v.objects (value o) ≡ here.object
    same_object = object_at v (value o) here.name here.object here.is here.there

    referred : (m : ℕ) → AnyRefTo m (names_in (object_of v.objects (value o))) → IsUsed v.objects m × Reaches v.objects v.head m
    referred m h =
        let k : AnyRefTo m (names_in here.object) = subst (λ x. AnyRefTo m (names_in x)) same_object h in
        let l : IsLiveObject (IsUsed v.objects) here.object = w.complete.objects here.name here.object here.there in
        (any_used (IsUsed v.objects) m (names_in here.object) (l.class, l.fields) k, reaches.onward here.name m here.object here.reached here.there k)

    done_at : (i : ℕ) (x : Oop) → (i < next) ⊎ (i ≡ next) → slice_get g.list.items i ≡ Some x → (m : ℕ) → AnyRefTo m (names_in (object_of v.objects (value x))) → is_marked g.marks.items m ≡ true
    done_at i x (inl l) e m a =
        let y = there f.list.items i (omega (arith, l, s.within)) in
        let same : y.0 ≡ x = same_some y.0 x (sym (n.first i y.0 y.1) ∙ e) in
        n.kept m (s.done i y.0 l y.1 m (subst (λ z. AnyRefTo m (names_in (object_of v.objects (value z)))) (sym same) a))
    done_at i x (inr q) e m a =
        let same : o ≡ x = same_some o x (sym (n.first next o at) ∙ subst (λ j. slice_get g.list.items j ≡ Some x) q e) in
        n.added m (subst (λ z. AnyRefTo m (names_in (object_of v.objects (value z)))) (sym same) a)

    pub finding_goes : IsFinding v g (next + 1)
    finding_goes = record {
      first = λ m h. n.kept m (s.first m h);
      each = λ i x e. elim (n.behind i x e) [
        | inl h ↦ s.each i x h
        | inr h ↦ let u = referred h.0 h.2 in record { name = h.0; object = u.0.0; is = h.1; there = u.0.1; reached = u.1 }
      ];
      listed = λ m e. elim (n.listed m e) [ inl h ↦ let k = s.listed m h in (k.0, k.1, n.first k.0 k.1 k.2, k.3) | inr h ↦ h ];
      done = λ i x l e m a. done_at i x (i_cases i next l) e m a;
      within = let h = slice_get_within g.list.items next o (n.first next o at) in omega (arith, h);
    }

pub finding_ends : (v : View) (f : Found) (next : ℕ) → IsFinding v f next → length f.list.items ≤ next → IsReach v.objects v.head (is_marked f.marks.items)
finding_ends v f next s past = λ n. (reached n, reached_in v.objects v.head (is_marked f.marks.items) closed n)
  where
    reached : (n : ℕ) → IsTrue (is_marked f.marks.items n) → Reaches v.objects v.head n
    reached n t =
        let k = s.listed n t in
        let x = s.each k.0 k.1 k.2 in
        subst (Reaches v.objects v.head) (same_ref x.name n (sym x.is ∙ k.3)) x.reached

    onward : (n m : ℕ) (o : Object) → IsTrue (is_marked f.marks.items n) → entry v.objects n ≡ Some o → Refers o m → IsTrue (is_marked f.marks.items m)
    onward n m o t e r =
        let k = s.listed n t in
        let below = slice_get_within f.list.items k.0 k.1 k.2 in
        s.done k.0 k.1 (omega (arith, below, past)) k.2 m (subst (λ y. AnyRefTo m (names_in y)) (sym (object_at v (value k.1) n o k.3 e)) r)

    closed : IsClosed v.objects v.head (is_marked f.marks.items)
    closed = record {
      page = λ q. s.first (place_of q) (any_left (place_of q) page_names (head_roots v.head) (on_page q));
      tables = λ n t. s.first n (any_right n page_names (head_roots v.head) t);
      onward = onward;
    }
