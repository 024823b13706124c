-- Objects that leave at once because nothing needs them: no root, and no object that is there refers to them.
use Rattle.std.proofs.Common.{◌≡◌, ℕ, ◌+◌, ◌≤◌, zero, suc, Bool, true, false, List, [], ◌∷◌, ◌++◌, length, refl, sym, ap, ◌∙◌, subst, arith, inl, inr, ◌⊎◌}
use Rattle.std.specs.Prelude.{slice_index_or, Option, Some, None, IsTrue, if◌then◌else◌}
use Rattle.st_model.specs.declared.place.RootPlace.{RootPlace}
use Rattle.st_model.specs.declared.place.RootPlace.TheVariants as place
use Rattle.st_model.specs.Values.{Value, Small, Ref, AllLive}
use Rattle.st_model.specs.Objects.{Object, NilObject, nil, one, place_of, words_of, IsLiveObject}
use Rattle.st_model.specs.Machine.{table_root, head_roots, device_roots}
use Rattle.st_model.specs.Table.{Table, table, entry, settled_table, total_used}
use Rattle.st_model.specs.Settled.{IsRefTo, AnyRefTo, Refers, IsRoot, held_root, page_root}
use Rattle.st_model.specs.Show.{IsUsed}
use Rattle.st_model.specs.View.{View, IsWhole, is_live, held_at, view_roots}
use Rattle.st_model.proofs.SettledLemmas.{some_is, is_some-of, settled-entry, entry-settled}
use Rattle.st_model.proofs.Settling.{DropsTo}
use Rattle.st_model.proofs.WholeLemmas.{whole_as}

length-settled : (t : Table) (keep : ℕ → Bool) → length (settled_table t keep) ≡ length t
length-settled [] keep = refl
length-settled (e ∷ t) keep = ap (λ n. suc n) (length-settled t (λ k. keep (suc k)))

none_if : (b : Bool) (x : Option Object) → x ≡ None → (if b then x else None) ≡ None
none_if true x h = h
none_if false x h = refl

settled-none : (t : Table) (keep : ℕ → Bool) (k : ℕ) → entry t k ≡ None → entry (settled_table t keep) k ≡ None
settled-none [] keep k e = refl
settled-none (a ∷ t) keep zero e = none_if (keep 0) a e
settled-none (a ∷ t) keep (suc k) e = settled-none t (λ j. keep (suc j)) k e

total_some : (weight : Object → ℕ) (b : Bool) (o : Object) (t u : Table) → total_used weight t ≤ total_used weight u → total_used weight ((if b then Some o else None) ∷ t) ≤ weight o + total_used weight u
total_some weight true o t u h = omega (arith, h)
total_some weight false o t u h = omega (arith, h)

total_used-settled : (weight : Object → ℕ) (t : Table) (keep : ℕ → Bool) → total_used weight (settled_table t keep) ≤ total_used weight t
total_used-settled weight [] keep = omega arith
total_used-settled weight (None ∷ t) keep =
    let e : settled_table (None ∷ t) keep ≡ None ∷ settled_table t (λ k. keep (suc k)) = λ i. none_if (keep 0) None refl i ∷ settled_table t (λ k. keep (suc k)) in
    subst (λ (u : Table). total_used weight u ≤ total_used weight t) (sym e) (total_used-settled weight t (λ k. keep (suc k)))
total_used-settled weight (Some o ∷ t) keep = total_some weight (keep 0) o (settled_table t (λ k. keep (suc k))) t (total_used-settled weight t (λ k. keep (suc k)))

-- tests that agree wherever there is an object leave the same
pub settled_same : (t : Table) (f g : ℕ → Bool) → ((k : ℕ) (o : Object) → entry t k ≡ Some o → f k ≡ g k) → settled_table t f ≡ settled_table t g
settled_same [] f g h = refl
settled_same (None ∷ t) f g h = λ i. (none_if (f 0) None refl ∙ sym (none_if (g 0) None refl)) i ∷ settled_same t (λ k. f (suc k)) (λ k. g (suc k)) (λ k. h (suc k)) i
settled_same (Some o ∷ t) f g h = λ i. (if h 0 o refl i then Some o else None) ∷ settled_same t (λ k. f (suc k)) (λ k. g (suc k)) (λ k. h (suc k)) i

kept_head : (b : Bool) (a : Object) (t u : Table) → total_used one t ≤ total_used one u → total_used one ((if b then Some a else None) ∷ t) ≡ 1 + total_used one u → IsTrue b × (total_used one t ≡ total_used one u)
kept_head true a t u l e = (refl, omega (arith, e))
kept_head false a t u l e = absurd (omega (arith, e, l))

-- where as many are left as there were, each was kept
pub all_kept : (t : Table) (keep : ℕ → Bool) → total_used one (settled_table t keep) ≡ total_used one t → (k : ℕ) (o : Object) → entry t k ≡ Some o → IsTrue (keep k)
all_kept [] keep e k o h = cc
all_kept (None ∷ t) keep e zero o h = cc
all_kept (None ∷ t) keep e (suc k) o h =
    let q : settled_table (None ∷ t) keep ≡ None ∷ settled_table t (λ j. keep (suc j)) = λ i. none_if (keep 0) None refl i ∷ settled_table t (λ j. keep (suc j)) in
    all_kept t (λ j. keep (suc j)) (subst (λ (u : Table). total_used one u ≡ total_used one t) q e) k o h
all_kept (Some a ∷ t) keep e zero o h = (kept_head (keep 0) a (settled_table t (λ j. keep (suc j))) t (total_used-settled one t (λ j. keep (suc j))) e).0
all_kept (Some a ∷ t) keep e (suc k) o h = all_kept t (λ j. keep (suc j)) (kept_head (keep 0) a (settled_table t (λ j. keep (suc j))) t (total_used-settled one t (λ j. keep (suc j))) e).1 k o h

-- where each was kept, all are left
pub settled_all : (t : Table) (keep : ℕ → Bool) → ((k : ℕ) (o : Object) → entry t k ≡ Some o → IsTrue (keep k)) → settled_table t keep ≡ t
settled_all t keep h = settled_same t keep (λ k. true) h ∙ all t
  where
    all : (u : Table) → settled_table u (λ k. true) ≡ u
    all [] = refl
    all (e ∷ u) = ap (λ x. e ∷ x) (all u)

-- what is needed is kept: the roots, and what the objects refer to
pub record KeepsNeeded (t : Table) (roots : List Value) (keep : ℕ → Bool) : Type 0 where
  pub root : (n : ℕ) → IsRoot table t roots n → IsTrue (keep n)
  pub referred : (m : ℕ) (o : Object) (n : ℕ) → entry t m ≡ Some o → Refers o n → IsTrue (keep n)

-- what no set lacks that supports itself is not lost
pub drops_all : (t u : Table) (roots : List Value) (keep : ℕ → Bool) → DropsTo t u roots → KeepsNeeded u roots keep → DropsTo t (settled_table u keep) roots
drops_all t u roots keep d k = record {
  same = λ n o e. d.same n o (settled-entry u keep n o e).0;
  keeps = λ other sup n h.
      let o = some_is (entry u n) (d.keeps other sup n h) in
      is_some-of (entry (settled_table u keep) n) o.0 (entry-settled u keep n o.0 o.1 (elim (sup.supported n h) [
        | inl r ↦ k.root n (moved n r)
        | inr r ↦
            let p = some_is (entry u r.from) (d.keeps other sup r.from r.member) in
            let a = d.same r.from p.0 p.1 in
            let q : r.object ≡ p.0 = let z = r.is in cc in
            k.referred r.from p.0 n p.1 (subst (λ x. Refers x n) q r.refers)
      ]));
  as_long = length-settled u keep ∙ d.as_long;
}
  where
    moved : (n : ℕ) → IsRoot table t roots n → IsRoot table u roots n
    moved n (held_root r) = held_root r
    moved n (page_root q e) = page_root q e

-- a whole view stays whole

live_kept : (t : Table) (keep : ℕ → Bool) (x : Value) → is_live t x ≡ true → ((n : ℕ) → IsRefTo n x → IsTrue (keep n)) → is_live (settled_table t keep) x ≡ true
unfolding is_live
live_kept t keep (Small n) h f = cc
live_kept t keep (Ref n) h f = let o = some_is (entry t n) h in is_some-of (entry (settled_table t keep) n) o.0 (entry-settled t keep n o.0 o.1 (f n refl))

any_right : (n : ℕ) (xs ys : List Value) → AnyRefTo n ys → AnyRefTo n (xs ++ ys)
any_right n [] ys h = h
any_right n (x ∷ xs) ys h = inr (any_right n xs ys h)

any_left : (n : ℕ) (xs ys : List Value) → AnyRefTo n xs → AnyRefTo n (xs ++ ys)
any_left n [] ys h = absurd h
any_left n (x ∷ xs) ys (inl h) = inl h
any_left n (x ∷ xs) ys (inr h) = inr (any_left n xs ys h)

any_at : (n : ℕ) (xs : List Value) (j : ℕ) → IsRefTo n (slice_index_or xs j nil) → AnyRefTo n xs ⊎ (n ≡ 1)
any_at n [] j h = inr h
any_at n (x ∷ xs) zero h = inl (inl h)
any_at n (x ∷ xs) (suc j) h = elim (any_at n xs j h) [ inl a ↦ inl (inr a) | inr e ↦ inr e ]

table_ref : (r : Option Value) (x : Value) (n : ℕ) → r ≡ Some x → IsRefTo n x → AnyRefTo n (table_root r)
table_ref None x n e h = cc
table_ref (Some y) x n e h = let q : x ≡ y = cc in inl (subst (IsRefTo n) q h)

module _ (v : View) where
  abbrev t : Table
  t = v.objects

  device_ref : (n : ℕ) → AnyRefTo n (device_roots v.held.devices) → IsRoot table t (view_roots v) n
  device_ref n h = held_root (inr (inr (inr (inr (any_right n (head_roots v.head) _ h)))))

  held_ref : (p : RootPlace) (n : ℕ) → IsRefTo n (held_at v.held p) → IsRoot table t (view_roots v) n
  held_ref place.Active n h = held_root (inl h)
  held_ref place.Home n h = held_root (inr (inl h))
  held_ref place.Method n h = held_root (inr (inr (inl h)))
  held_ref place.Receiver n h = held_root (inr (inr (inr (inl h))))
  held_ref place.NewProcess n h = device_ref n (inl h)
  held_ref place.Display n h = device_ref n (inr (inl h))
  held_ref place.Cursor n h = device_ref n (inr (inr (inl h)))
  held_ref place.InputSemaphore n h = device_ref n (inr (inr (inr (inl h))))
  held_ref place.Timer n h = device_ref n (inr (inr (inr (inr (inl h)))))
  held_ref place.LowSpace n h = device_ref n (inr (inr (inr (inr (inr (inl h))))))
  held_ref (place.Pending k) n h = elim (any_at n v.held.devices.pending k h) [
    | inl a ↦ device_ref n (inr (inr (inr (inr (inr (inr a))))))
    | inr e ↦ page_root NilObject e
  ]

  head_ref : (n : ℕ) → AnyRefTo n (head_roots v.head) → IsRoot table t (view_roots v) n
  head_ref n h = held_root (inr (inr (inr (inr (any_left n (head_roots v.head) _ h)))))

  module _ (whole : IsWhole v) (keep : ℕ → Bool) (k : KeepsNeeded v.objects (view_roots v) keep) where
    abbrev s : Table
    s = settled_table t keep

    all_live : (xs : List Value) → ((n : ℕ) → AnyRefTo n xs → IsTrue (keep n)) → AllLive (IsUsed t) xs → AllLive (IsUsed s) xs
    all_live [] f h = tt
    all_live (Small n ∷ xs) f h = (tt, all_live xs (λ m r. f m (inr r)) h.1)
    all_live (Ref n ∷ xs) f h = ((h.0.0, entry-settled t keep n h.0.0 h.0.1 (f n (inl refl))), all_live xs (λ m r. f m (inr r)) h.1)

    kept_object : (n : ℕ) (o : Object) → entry t n ≡ Some o → IsLiveObject (IsUsed s) o
    kept_object n o e =
        let was = whole.complete.objects n o e in
        record {
          class = (was.class.0, entry-settled t keep o.class was.class.0 was.class.1 (k.referred n o o.class e (inl refl)));
          fields = all_live o.fields (λ m r. k.referred n o m e (inr r)) was.fields;
        }

    whole_kept : IsWhole (record { objects = s; held = v.held; head = v.head })
    whole_kept = record {
      places = length-settled t keep ∙ whole.places;
      unused = settled-none t keep 0 whole.unused;
      complete = record {
        objects = λ n o e. kept_object n o (settled-entry t keep n o e).0;
        page = λ q. live_kept t keep (Ref (place_of q)) (whole.complete.page q) (λ n e. k.root n (page_root q e));
        globals = λ x e. live_kept t keep x (whole.complete.globals x e) (λ n h. k.root n (head_ref n (any_left n (table_root v.head.globals) _ (table_ref v.head.globals x n e h))));
        symbols = λ x e. live_kept t keep x (whole.complete.symbols x e) (λ n h. k.root n (head_ref n (any_right n (table_root v.head.globals) _ (table_ref v.head.symbols x n e h))));
      };
      formed = λ n o e. whole.formed n o (settled-entry t keep n o e).0;
      held = λ p big. live_kept t keep (held_at v.held p) (whole.held p big) (λ n h. k.root n (held_ref p n h));
      pending = whole.pending;
      entries = let a = total_used-settled one t keep in let b = whole.entries in omega (arith, a, b);
      words = let a = total_used-settled words_of t keep in let b = whole.words in omega (arith, a, b);
      most_entries = whole.most_entries;
      most_words = whole.most_words;
    }

pub whole_settled : (v w : View) (keep : ℕ → Bool) → IsWhole v → KeepsNeeded v.objects (view_roots v) keep → w.objects ≡ settled_table v.objects keep → w.held ≡ v.held → w.head ≡ v.head → IsWhole w
whole_settled v w keep whole k objects held head = whole_as (record { objects = settled_table v.objects keep; held = v.held; head = v.head }) w objects held head (whole_kept v whole keep k)

-- views with the same head that hold the same have the same roots
pub moved_roots : (v w : View) → w.held ≡ v.held → w.head ≡ v.head → view_roots w ≡ view_roots v
moved_roots v w held head = λ i. view_roots (record v { held = held i; head = head i })
