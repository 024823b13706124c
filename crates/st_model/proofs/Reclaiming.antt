-- Reclaiming leaves a table closed in which nothing dangles: what an object that stays refers to stays too.
use Rattle.std.proofs.Common.{◌≡◌, ℕ, ◌<◌, List, [], ◌∷◌, suc, length, Some, Bool, true, false, refl, sym, ◌∙◌, ap, subst, arith, inl, inr, ◌⊎◌}
use Rattle.std.specs.Prelude.{◌==◌, IsTrue, if◌then◌else◌}
use Rattle.std.proofs.lemmas.Bool.Decides.{nat_tests}
use Rattle.st_model.specs.Values.{Value, Small, Ref, AllLive}
use Rattle.st_model.specs.Objects.{Object, place_of, IsLiveObject}
use Rattle.st_model.specs.Machine.{State, roots_of}
use Rattle.st_model.specs.Table.{Table, table, entry, settled_table}
use Rattle.st_model.specs.Settled.{AnyRefTo, IsRefTo, IsRoot, held_root, page_root, IsReferredFrom, IsSettled, settled_set, reclaim}
use Rattle.st_model.specs.Show.{IsUsed, IsClosed}
use Rattle.st_model.specs.inside.Foreseen.{IsSound}
use Rattle.st_model.proofs.SettledLemmas.{is_some-of, some_is, settled-entry, entry-settled}
use Rattle.st_model.proofs.SettledIs.{settled_is}
use Rattle.st_model.proofs.TableLemmas.{entry_before}

pub length-settled : (t : Table) (keep : ℕ → Bool) → length (settled_table t keep) ≡ length t
length-settled [] keep = refl
length-settled (e ∷ t) keep = ap (λ n. suc n) (length-settled t (λ k. keep (suc k)))

abbrev with_one : (ℕ → Bool) → ℕ → ℕ → Bool
with_one set n k = if k == n then true else set k

pub one_or_set : (set : ℕ → Bool) (n k : ℕ) (b : Bool) → (k == n) ≡ b → IsTrue (if b then true else set k) → (k ≡ n) ⊎ IsTrue (set k)
one_or_set set n k true e h = inl (grind (arith, nat_tests))
one_or_set set n k false e h = inr h

pub set_within : (set : ℕ → Bool) (n k : ℕ) (b : Bool) → IsTrue (set k) → IsTrue (if b then true else set k)
set_within set n k true h = refl
set_within set n k false h = h

pub one_within : (set : ℕ → Bool) (n : ℕ) → IsTrue (with_one set n n)
one_within set n = let e : (n == n) ≡ true = grind (arith, nat_tests) in rw e refl

module _ (t : Table) (roots : List Value) (set : ℕ → Bool) (settled : IsSettled table t roots set) where
  support_within : (n k : ℕ) → IsRoot table t roots k ⊎ IsReferredFrom table t set k → IsRoot table t roots k ⊎ IsReferredFrom table t (with_one set n) k
  support_within n k (inl r) = inl r
  support_within n k (inr r) = inr (record { from = r.from; object = r.object; member = set_within set n r.from (r.from == n) r.member; is = r.is; refers = r.refers })

  -- what is there, and is a root or referred to by a member, is a member
  member : (n : ℕ) → IsUsed t n → IsRoot table t roots n ⊎ IsReferredFrom table t set n → IsTrue (set n)
  member n u s = settled.largest (with_one set n) (record {
    kept = λ k h. elim (one_or_set set n k (k == n) refl h) [
      | inl e ↦ subst (λ j. IsTrue (table.kept t j)) (sym e) (is_some-of (entry t n) u.0 u.1)
      | inr m ↦ settled.supports.kept k m
    ];
    supported = λ k h. elim (one_or_set set n k (k == n) refl h) [
      | inl e ↦ support_within n k (subst (λ j. IsRoot table t roots j ⊎ IsReferredFrom table t set j) (sym e) s)
      | inr m ↦ support_within n k (settled.supports.supported k m)
    ];
  }) n (one_within set n)

  stays : (n : ℕ) → IsUsed t n → IsRoot table t roots n ⊎ IsReferredFrom table t set n → IsUsed (settled_table t set) n
  stays n u s = (u.0, entry-settled t set n u.0 u.1 (member n u s))

  all_stay : (vs : List Value) → AllLive (IsUsed t) vs → ((n : ℕ) → AnyRefTo n vs → IsRoot table t roots n ⊎ IsReferredFrom table t set n) → AllLive (IsUsed (settled_table t set)) vs
  all_stay [] h f = tt
  all_stay (Small n ∷ vs) h f = (tt, all_stay vs h.1 (λ k r. f k (inr r)))
  all_stay (Ref n ∷ vs) h f = (stays n h.0 (f n (inl refl)), all_stay vs h.1 (λ k r. f k (inr r)))

  object_stays : (k : ℕ) (o : Object) → IsTrue (set k) → entry t k ≡ Some o → IsLiveObject (IsUsed t) o → IsLiveObject (IsUsed (settled_table t set)) o
  object_stays k o m e l = record {
    class = stays o.class l.class (inr (record { from = k; object = o; member = m; is = e; refers = inl refl }));
    fields = all_stay o.fields l.fields (λ n r. inr (record { from = k; object = o; member = m; is = e; refers = inr r }));
  }

pub table_finite : (t : Table) (k : ℕ) → IsTrue (table.kept t k) → k < length t
table_finite t k h = let o = some_is (entry t k) h in entry_before t k o.0 o.1

pub reclaim_closed : (d : State Table) → IsClosed d → IsClosed (reclaim table d)
unfolding reclaim
reclaim_closed d c =
    let set = settled_set table d.memory (roots_of d) in
    let s = settled_is table d.memory (roots_of d) (table_finite d.memory) in
    record {
      objects = λ k o e. let r = settled-entry d.memory set k o e in object_stays d.memory (roots_of d) set s k o r.1 r.0 (c.objects k o r.0);
      page = λ q. stays d.memory (roots_of d) set s (place_of q) (c.page q) (inl (page_root q refl));
      roots = all_stay d.memory (roots_of d) set s (roots_of d) c.roots (λ n r. inl (held_root r));
    }

-- the active context stays as it was
pub root_stays : (d : State Table) → IsClosed d → (n : ℕ) (o : Object) → d.registers.active ≡ Ref n → entry d.memory n ≡ Some o → entry (reclaim table d).memory n ≡ Some o
unfolding reclaim
root_stays d c n o e f =
    let set = settled_set table d.memory (roots_of d) in
    let s = settled_is table d.memory (roots_of d) (table_finite d.memory) in
    let root : IsRoot table d.memory (roots_of d) n = held_root (inl (subst (λ x. IsRefTo n x) (sym e) refl)) in
    entry-settled d.memory set n o f (member d.memory (roots_of d) set s n (o, f) (inl root))

pub reclaim_sound : (d : State Table) → IsSound d → IsSound (reclaim table d)
unfolding reclaim
reclaim_sound d s = record { places = length-settled d.memory (settled_set table d.memory (roots_of d)) ∙ s.places; closed = reclaim_closed d s.closed }

pub reclaim_head : (d : State Table) → (reclaim table d).head ≡ d.head
unfolding reclaim
reclaim_head d = refl
