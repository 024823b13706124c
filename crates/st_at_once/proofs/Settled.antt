-- What is held stays as it is when a memory settles, and so does what is known of it.
use Rattle.std.proofs.Common.{◌≡◌, ℕ, Bool, true, List, refl, sym, ap, ◌∙◌, subst, arith, inl, inr, is_some, length, ◌+◌}
use Rattle.std.specs.Prelude.{Option, Some, None, ◌==◌, IsTrue, unwrap_or, pos, ◌≤ℤ◌}
use Rattle.std.proofs.lemmas.Bool.Decides.{nat_tests}
use Rattle.st_model.specs.Values.{Value, Small, Ref, word}
use Rattle.st_model.specs.Objects.{Object, is_pointers, is_method, size_of}
use Rattle.st_model.specs.Table.{Table, table, entry, settled_table}
use Rattle.st_model.specs.Settled.{IsRefTo, AnyRefTo, IsRoot, held_root, IsSettled}
use Rattle.st_model.specs.View.{View, SettlesTo, view_roots, is_live, object_of, nothing}
use Rattle.st_model.proofs.SettledLemmas.{is_some-of, entry-settled}
use Rattle.st_at_once.specs.declared.known.Fields.{Fields}
use Rattle.st_at_once.specs.declared.known.Code.{Code}
use Rattle.st_at_once.specs.declared.known.NearPlaces.{NearPlaces}
use Rattle.st_at_once.specs.inside.Known.{HasFields, HasCode, IsNear}

-- a root alone supports itself
same_number : (n k : ℕ) → IsTrue (k == n) → n ≡ k
same_number n k e = grind (arith, nat_tests)

module _ (t : Table) (roots : List Value) (set : ℕ → Bool) (settled : IsSettled table t roots set) (n : ℕ) (o : Object) (is : entry t n ≡ Some o) (root : IsRoot table t roots n) where
  root_in : IsTrue (set n)
  root_in = settled.largest (λ k. k == n) (record {
    kept = λ k e. subst (λ j. IsTrue (table.kept t j)) (same_number n k e) (is_some-of (entry t n) o is);
    supported = λ k e. inl (subst (λ j. IsRoot table t roots j) (same_number n k e) root);
  }) n (grind (arith, nat_tests))

  root_stays : entry (settled_table t set) n ≡ Some o
  root_stays = entry-settled t set n o is root_in

-- an object to which a root refers
module _ (v w : View) (s : SettlesTo v w) where
  entry_stays : (n : ℕ) (e : Option Object) → entry v.objects n ≡ e → is_some e ≡ true → AnyRefTo n (view_roots v) → entry w.objects n ≡ e
  entry_stays n None is live ref = cc
  entry_stays n (Some o) is live ref =
      subst (λ t. entry t n ≡ Some o) (sym s.objects) (root_stays v.objects (view_roots v) s.set s.is_settled n o is (held_root ref))

  live_stays : (x : Value) → ((n : ℕ) → IsRefTo n x → AnyRefTo n (view_roots v)) → is_live v.objects x ≡ true → is_live w.objects x ≡ true
  unfolding is_live
  live_stays (Small n) ref live = cc
  live_stays (Ref n) ref live = ap is_some (entry_stays n (entry v.objects n) refl live (ref n refl)) ∙ live

  object_stays : (x : Value) → ((n : ℕ) → IsRefTo n x → AnyRefTo n (view_roots v)) → is_live v.objects x ≡ true → object_of v.objects x ≡ object_of w.objects x
  unfolding is_live object_of
  object_stays (Small n) ref live = refl
  object_stays (Ref n) ref live = ap (λ e. unwrap_or e nothing) (sym (entry_stays n (entry v.objects n) refl live (ref n refl)))

  fields_stay : (held : Value) (f : Fields) → ((n : ℕ) → IsRefTo n held → AnyRefTo n (view_roots v)) → HasFields v.objects held f → HasFields w.objects held f
  fields_stay held f ref h =
      let r : (n : ℕ) → IsRefTo n (word f.object) → AnyRefTo n (view_roots v) = subst (λ x. (n : ℕ) → IsRefTo n x → AnyRefTo n (view_roots v)) (sym h.same) ref in
      let o = object_stays (word f.object) r h.live in
      record {
        short = h.short;
        same = h.same;
        live = live_stays (word f.object) r h.live;
        kind = subst (λ x. is_pointers x.kind ≡ true) o h.kind;
        number = subst (λ x. length x.fields ≡ f.number) o h.number;
        few = h.few;
      }

  code_stays : (held : Value) (c : Code) → ((n : ℕ) → IsRefTo n held → AnyRefTo n (view_roots v)) → HasCode v.objects held c → HasCode w.objects held c
  code_stays held c ref h =
      let r : (n : ℕ) → IsRefTo n (word c.method) → AnyRefTo n (view_roots v) = subst (λ x. (n : ℕ) → IsRefTo n x → AnyRefTo n (view_roots v)) (sym h.same) ref in
      let o = object_stays (word c.method) r h.live in
      record {
        short = h.short;
        same = h.same;
        live = live_stays (word c.method) r h.live;
        kind = subst (λ x. is_method x.kind ≡ true) o h.kind;
        literals = subst (λ x. length x.fields ≡ c.literals + 1) o h.literals;
        few = h.few;
        first = h.first;
        limit = h.limit;
        size = subst (λ x. c.end ≤ℤ pos (size_of x)) o h.size;
      }

-- without the object that was made, which may be dropped
abbrev pub without_made : NearPlaces → NearPlaces
without_made k = record k { made = record k.made { number = 0 } }

pub near_settled : (v w : View) (k : NearPlaces) → SettlesTo v w → IsNear v k → IsNear w (without_made k)
near_settled v w k s near = record {
  active = λ l. subst (λ x. HasFields w.objects x.active k.active) (sym s.held) (fields_stay v w s v.held.active k.active (λ n r. inl r) (near.active l));
  home = λ l. subst (λ x. HasFields w.objects x.home k.home) (sym s.held) (fields_stay v w s v.held.home k.home (λ n r. inr (inl r)) (near.home l));
  code = record {
    literals = λ l. subst (λ x. HasCode w.objects x.method k.code) (sym s.held) (code_stays v w s v.held.method k.code (λ n r. inr (inr (inl r))) (near.code.literals l));
    bytes = λ l. subst (λ x. HasCode w.objects x.method k.code) (sym s.held) (code_stays v w s v.held.method k.code (λ n r. inr (inr (inl r))) (near.code.bytes l));
  };
  made = λ l. absurd (omega (arith, l));
}
