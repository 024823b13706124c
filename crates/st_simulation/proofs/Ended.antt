-- At the end of a cycle: what the table keeps is what the births keep, and the table shows it.
use Rattle.std.proofs.Common.{◌≡◌, ℕ, Option, Some, None, Bool, refl, sym, ◌∙◌, ap, subst, inl, inr}
use Rattle.std.specs.Prelude.{IsTrue}
use Rattle.st_model.specs.Values.{renamed_all, AllLive}
use Rattle.st_model.specs.Objects.{Object, place_of, renamed_object, IsLiveObject}
use Rattle.st_model.specs.Machine.{State, roots_of}
use Rattle.st_model.specs.Births.{Births, births, object_born, bearer, borne, settled_births}
use Rattle.st_model.specs.Table.{Table, table, entry, settled_table}
use Rattle.st_model.specs.Settled.{Refers, AnyRefTo, IsRoot, held_root, page_root, IsReferredFrom, SupportsItself, IsSettled, with_memory, Reclaimed}
use Rattle.st_model.specs.Births.{pointer_of}
use Rattle.st_model.specs.Show.{IsKept, IsUsed, Shows, IsClosed}
use Rattle.st_simulation.proofs.Same.{OptionSame, StateSame}
use Rattle.st_model.proofs.BirthLemmas.{borne_before, pointer_of-borne, object_there}
use Rattle.st_model.proofs.SettledLemmas.{some_is, is_some-of, settled-borne, borne-settled, object_born-settled, settled-entry, entry-settled, bearer-borne, of_pointer, of_pointer-true, true-of_pointer, of_births, of_births-true, true-of_births}
use Rattle.st_model.proofs.Names.{map_all, map_object, same_object, all_back, object_back, both_all, both_object, any-renamed, refers-renamed, any_back, refers_back, parts_roots, roots-renamed, same_registers, same_head, same_world}
use Rattle.st_simulation.proofs.HeapsSame.{Naming, HeapSame, cycle_simulation}

pub same_at : (live : ℕ → Type 0) (f : ℕ → ℕ) (a b : Option Object) (o : Object) → OptionSame live f a b → a ≡ Some o
    → IsLiveObject live o × (b ≡ Some (renamed_object f o))
same_at live f None b o s e = cc
same_at live f (Some a) b o s e = let q : a ≡ o = cc in rw (← q) (s.0, s.1)

module _ (w : Naming) (u : State Births) (c : State Table) (ss : StateSame (cycle_simulation w) u c) where
  hs : HeapSame w u.memory c.memory
  hs = ss.memory

  object_at : (n : ℕ) (o : Object) → w.live n → object_born u.memory n ≡ Some o → IsLiveObject w.live o × (entry c.memory (w.name n) ≡ Some (renamed_object w.name o))
  object_at n o l e = same_at w.live w.name (object_born u.memory n) (entry c.memory (w.name n)) o (hs.objects n l) e

  roots_same : roots_of c ≡ renamed_all w.name (roots_of u)
  roots_same = (λ i. parts_roots (ss.registers i) (ss.head i) (ss.world i)) ∙ roots-renamed w.name u.registers u.head u.world

  -- what a name of the table is known for is known of what lives under it
  pub roots_both : (known : ℕ → Type 0) → AllLive known (roots_of c) → AllLive (λ m. w.live m × known (w.name m)) (roots_of u)
  roots_both known h = both_all w.live (λ m. known (w.name m)) (roots_of u) ss.roots (all_back known w.name (roots_of u) (subst (λ vs. AllLive known vs) roots_same h))

  pub object_both : (known : ℕ → Type 0) (o : Object) → IsLiveObject w.live o → IsLiveObject known (renamed_object w.name o) → IsLiveObject (λ m. w.live m × known (w.name m)) o
  object_both known o l h = both_object w.live (λ m. known (w.name m)) o l (object_back known w.name o h)

  root_forward : (n p : ℕ) → w.name n ≡ p → IsRoot births u.memory (roots_of u) n → IsRoot table c.memory (roots_of c) p
  root_forward n p e (held_root q) = held_root (subst (λ vs. AnyRefTo p vs) (sym roots_same) (subst (λ x. AnyRefTo x (renamed_all w.name (roots_of u))) e (any-renamed w.name n (roots_of u) q)))
  root_forward n p e (page_root k q) = page_root k (sym e ∙ (ap w.name q ∙ sym (hs.page k).2))

  same_name : (n m p : ℕ) → w.live n → w.live m → w.name n ≡ p → p ≡ w.name m → n ≡ m
  same_name n m p k l e f = w.injective n m k l (e ∙ f)

  root_back : (n p : ℕ) → w.live n → w.name n ≡ p → IsRoot table c.memory (roots_of c) p → IsRoot births u.memory (roots_of u) n
  root_back n p l e (held_root q) =
      let r = any_back w.live w.name p (roots_of u) ss.roots (subst (λ vs. AnyRefTo p vs) roots_same q) in
      held_root (subst (λ x. AnyRefTo x (roots_of u)) (sym (same_name n r.0 p l r.1 e r.3)) r.2)
  root_back n p l e (page_root k q) = page_root k (same_name n (bearer u.memory (place_of k)) p l (hs.page k).1 e (q ∙ (hs.page k).2))

  module _ (set : ℕ → Bool) (st : IsSettled table c.memory (roots_of c) set) where
    -- the kept births whose pointers stay
    abbrev pub stays : ℕ → Bool
    stays n = of_pointer (borne u.memory n) set

    referred_back : (n p : ℕ) → w.live n → w.name n ≡ p → IsReferredFrom table c.memory set p → IsReferredFrom births u.memory stays n
    referred_back n p l e r =
        let k = hs.covered r.from r.object r.is in
        let o = object_there u.memory k.0 k.2 in
        let s = object_at k.0 o.0 k.1 o.1 in
        let q : entry c.memory (w.name k.0) ≡ Some r.object = rw k.3 r.is in
        let same : r.object ≡ renamed_object w.name o.0 = cc in
        let b = refers_back w.live w.name p o.0 s.0 (subst (λ x. Refers x p) same r.refers) in
        record {
          from = k.0;
          object = o.0;
          member = true-of_pointer (borne u.memory k.0) r.from set (hs.kept k.0 k.1 k.2 ∙ ap (λ x. Some x) k.3) r.member;
          is = o.1;
          refers = rw (same_name n b.0 p l b.1 e b.3) b.2;
        }

    pushed : (other : ℕ → Bool) → SupportsItself births u.memory (roots_of u) other → SupportsItself table c.memory (roots_of c) (of_births u.memory other)
    pushed other sup = record {
      kept = λ k t.
          let n = of_births-true u.memory other k t in
          let b = hs.bears n.0 k n.1 in
          let o = object_there u.memory n.0 (borne_before u.memory n.0 k n.1) in
          is_some-of (entry c.memory k) (renamed_object w.name o.0) (subst (λ x. entry c.memory x ≡ Some (renamed_object w.name o.0)) b.1 (object_at n.0 o.0 b.0 o.1).1);
      supported = λ k t.
          let n = of_births-true u.memory other k t in
          let b = hs.bears n.0 k n.1 in
          elim (sup.supported n.0 n.2) [
            | inl r ↦ inl (root_forward n.0 k b.1 r)
            | inr r ↦
                let p = some_is (borne u.memory r.from) (sup.kept r.from r.member) in
                let d = hs.bears r.from p.0 p.1 in
                let f : borne u.memory r.from ≡ Some (w.name r.from) = rw d.1 p.1 in
                inr (record {
                  from = w.name r.from;
                  object = renamed_object w.name r.object;
                  member = true-of_births u.memory other r.from (w.name r.from) f r.member;
                  is = (object_at r.from r.object d.0 r.is).1;
                  refers = subst (λ x. Refers (renamed_object w.name r.object) x) b.1 (refers-renamed w.name n.0 r.object r.refers);
                })
          ];
    }

    settled-births : IsSettled births u.memory (roots_of u) stays
    settled-births = record {
      supports = record {
        kept = λ n t. let p = of_pointer-true (borne u.memory n) set t in is_some-of (borne u.memory n) p.0 p.1;
        supported = λ n t.
            let p = of_pointer-true (borne u.memory n) set t in
            let b = hs.bears n p.0 p.1 in
            elim (st.supports.supported p.0 p.2) [
              | inl r ↦ inl (root_back n p.0 b.0 b.1 r)
              | inr r ↦ inr (referred_back n p.0 b.0 b.1 r)
            ];
      };
      largest = λ other sup n t.
          let p = some_is (borne u.memory n) (sup.kept n t) in
          true-of_pointer (borne u.memory n) p.0 set p.1
          (st.largest (of_births u.memory other) (pushed other sup) p.0 (true-of_births u.memory other n p.0 p.1 t));
    }

    abbrev births_after : State Births
    births_after = with_memory u (settled_births u.memory stays)

    abbrev table_after : State Table
    table_after = with_memory c (settled_table c.memory set)

    module _ (closed : IsClosed table_after) where
      stays_kept : (n p : ℕ) → w.live n → p ≡ w.name n → IsUsed table_after.memory p → borne births_after.memory n ≡ Some p
      stays_kept n p l e used =
          let a = settled-entry c.memory set p used.0 used.1 in
          let k = hs.covered p used.0 a.0 in
          let q = same_name k.0 n p k.1 l k.3 e in
          let b : borne u.memory n ≡ Some p = subst (λ x. borne u.memory x ≡ Some p) q (hs.kept k.0 k.1 k.2 ∙ ap (λ x. Some x) k.3) in
          borne-settled u.memory stays n p b (true-of_pointer (borne u.memory n) p set b a.1)

      name_kept : (n : ℕ) → w.live n × IsUsed table_after.memory (w.name n) → IsKept births_after.memory n
      name_kept n h = (w.name n, stays_kept n (w.name n) h.0 refl h.1)

      name_is : (n : ℕ) → w.live n × IsUsed table_after.memory (w.name n) → w.name n ≡ pointer_of births_after.memory n
      name_is n h = sym (pointer_of-borne births_after.memory n (w.name n) (stays_kept n (w.name n) h.0 refl h.1))

      -- the object that stays, with what it refers to
      object_stays : (n p : ℕ) (o : Object) → borne births_after.memory n ≡ Some p → object_born births_after.memory n ≡ Some o
          → (entry table_after.memory p ≡ Some (renamed_object w.name o)) × IsLiveObject (λ m. w.live m × IsUsed table_after.memory (w.name m)) o
      object_stays n p o e f =
          let a = settled-borne u.memory stays n p e in
          let b = hs.bears n p a.0 in
          let s = object_at n o b.0 (sym (object_born-settled u.memory stays n) ∙ f) in
          let t = of_pointer-true (borne u.memory n) set a.1 in
          let here : entry c.memory p ≡ Some (renamed_object w.name o) = subst (λ x. entry c.memory x ≡ Some (renamed_object w.name o)) b.1 s.1 in
          let q : t.0 ≡ p = let z = a.0 in let y = t.1 in cc in
          let g = entry-settled c.memory set p (renamed_object w.name o) here (subst (λ x. IsTrue (set x)) q t.2) in
          (g, object_both (IsUsed table_after.memory) o s.0 (closed.objects p (renamed_object w.name o) g))

      abbrev after_live : ℕ → Type 0
      after_live m = w.live m × IsUsed table_after.memory (w.name m)

      roots_stay : AllLive after_live (roots_of u)
      roots_stay = roots_both (IsUsed table_after.memory) closed.roots

      pub shows_after : Shows table_after births_after
      shows_after = record {
        objects = λ n p o e f. let s = object_stays n p o e f in
            s.0 ∙ ap (λ x. Some x) (same_object (λ m. w.live m × IsUsed table_after.memory (w.name m)) w.name (pointer_of births_after.memory) name_is o s.1);
        only = λ p o e.
            let a = settled-entry c.memory set p o e in
            let k = hs.covered p o a.0 in
            (k.0, stays_kept k.0 p k.1 (sym k.3) (o, e));
        distinct = λ m n p e f.
            let a = hs.bears m p (settled-borne u.memory stays m p e).0 in
            let b = hs.bears n p (settled-borne u.memory stays n p f).0 in
            w.injective m n a.0 b.0 (a.1 ∙ sym b.1);
        closed = λ n p o e f. map_object (λ m. w.live m × IsUsed table_after.memory (w.name m)) (IsKept births_after.memory) name_kept o (object_stays n p o e f).1;
        page = λ q. let b = hs.page q in
            bearer-borne births_after.memory (bearer u.memory (place_of q)) (place_of q)
            (stays_kept (bearer u.memory (place_of q)) (place_of q) b.1 b.2 (closed.page q));
        roots = map_all after_live (IsKept births_after.memory) name_kept (roots_of u) roots_stay;
        registers = ss.registers ∙ same_registers after_live w.name (pointer_of births_after.memory) name_is u.registers u.head u.world roots_stay;
        world = ss.world ∙ same_world after_live w.name (pointer_of births_after.memory) name_is u.registers u.head u.world roots_stay;
        head = ss.head ∙ same_head after_live w.name (pointer_of births_after.memory) name_is u.registers u.head u.world roots_stay;
      }

  -- what the table reclaims, the births reclaim, and what the table then has bears its name
  pub reclaimed : (d : State Table) → Reclaimed table c d → IsClosed d
      → (t : State Births) × Reclaimed births u t × Shows d t × ((n : ℕ) → w.live n → IsUsed d.memory (w.name n) → (w.name n ≡ pointer_of t.memory n) × IsKept t.memory n)
  reclaimed d r k =
      let closed : IsClosed (table_after r.set r.is_settled) = rw r.is at k in (
        births_after r.set r.is_settled,
        record { set = stays r.set r.is_settled; is_settled = settled-births r.set r.is_settled; is = refl },
        rw r.is (shows_after r.set r.is_settled closed),
        λ n l i.
            let here : w.live n × IsUsed (table_after r.set r.is_settled).memory (w.name n) = (l, subst (λ (x : State Table). IsUsed x.memory (w.name n)) r.is i) in
            (name_is r.set r.is_settled closed n here, name_kept r.set r.is_settled closed n here),
      )
