-- A map in which something is noted at a key, as it is seen by what its keys stand for.
use Rattle.std.proofs.Common.{◌≡◌, Bool, true, false, List, Option, Some, None, is_some, refl, sym, ap, ◌∙◌, cond, subst, true≢false}
use Rattle.std.specs.declared.cmp.Ordering.{Ordering}
use Rattle.std.specs.Ordering.{is_eq, eq_by_cmp}
use Rattle.std.specs.Prelude.{option_copied}
use Rattle.std.specs.Borrow.{Bor}
use Rattle.std.specs.BTreeMap.{BTreeMap, UpdatesBy}
use Rattle.std.specs.Map.{lookup, IsKeyTest, AreApart, KeepsOthers}
use Rattle.std.proofs.lemmas.Bool.{cases_Bool, cond-true, cond-false}
use mathlib.Core.Logic.{⊎_elim}
use Rattle.st_emit.specs.Names.{or_else}

pub is_none_of : {A : Type 0} → (a : Option A) → is_some a ≡ false → a ≡ None
is_none_of None e = refl
is_none_of (Some x) e = absurd (true≢false e)

pub some_copied : {A : Type 0} → (a : Option (Bor A)) → is_some (option_copied a) ≡ is_some a
some_copied None = refl
some_copied (Some x) = refl

keeps : {K X : Type 0} (eq : K → K → Bool) (test : K → Bool) (old new : List (K × X)) → KeepsOthers eq test old new → (other : K → Bool) → IsKeyTest eq other → AreApart test other → lookup other new ≡ lookup other old
unfolding KeepsOthers
keeps eq test old new h = h

-- keys that are compared as what they stand for is the same or not
module _ {K V : Type 0} (view : K → V) (same : V → V → Bool) (same_is : (a b : V) → same a b ≡ true → a ≡ b) (cmp : K → K → Ordering) (decides : (a b : K) → is_eq (cmp a b) ≡ same (view a) (view b)) where
  pub same_back : (a b : V) → same a b ≡ true → same b a ≡ true
  same_back a b h = let e = same_is a b h in subst (λ x. same x a ≡ true) e (subst (λ x. same a x ≡ true) (sym e) h)

  module _ {X : Type 0} where
    -- what is noted of what a key stands for
    abbrev pub at : List (K × X) → V → Option X
    at entries v = lookup (λ k. same v (view k)) entries

    pub at_key : (entries : List (K × X)) (k : K) → lookup (λ q. is_eq (cmp k q)) entries ≡ at entries (view k)
    at_key entries k = λ t. lookup (λ q. decides k q t) entries

    module _ (m n : BTreeMap K X) (k : K) (w : Option X) (updates : UpdatesBy cmp (cmp k) m n w) (v : V) where
      here : same (view k) v ≡ true → at n.entries v ≡ w
      here h = subst (λ x. at n.entries x ≡ w) (same_is (view k) v h) (sym (at_key n.entries k) ∙ updates.1)

      elsewhere : same (view k) v ≡ false → at n.entries v ≡ at m.entries v
      elsewhere h = keeps (eq_by_cmp cmp) (λ q. is_eq (cmp k q)) m.entries n.entries updates.3 (λ q. same v (view q)) one apart
        where
          one : IsKeyTest (eq_by_cmp cmp) (λ q. same v (view q))
          one x y e = ap (λ z. same z (view y)) (same_is v (view x) e) ∙ sym (decides x y)

          apart : AreApart (λ q. is_eq (cmp k q)) (λ q. same v (view q))
          apart q e = by (same v (view q)) refl
            where
              by : (b : Bool) → same v (view q) ≡ b → b ≡ false
              by false f = refl
              by true f = absurd (true≢false (sym (subst (λ x. same (view k) x ≡ true) (sym (same_is v (view q) f)) (sym (decides k q) ∙ e)) ∙ h))

      pub at_put : at n.entries v ≡ cond (same (view k) v) w (at m.entries v)
      at_put =
          ⊎_elim
          (λ h. here h ∙ sym (cond-true (same (view k) v) w (at m.entries v) h))
          (λ h. elsewhere h ∙ sym (cond-false (same (view k) v) w (at m.entries v) h))
          (cases_Bool (same (view k) v))

    module _ (entries : List (K × X)) (k : V) (x : X) (v : V) where
      -- where nothing was noted, it comes first
      pub first_put : at entries k ≡ None → cond (same k v) (Some x) (at entries v) ≡ or_else (at entries v) (cond (same k v) (Some x) None)
      first_put none = by (same k v) (at entries v) (λ h. sym (ap (at entries) (same_is k v h)) ∙ none)
        where
          by : (b : Bool) (a : Option X) → (b ≡ true → a ≡ None) → cond b (Some x) a ≡ or_else a (cond b (Some x) None)
          by true None f = refl
          by true (Some y) f = absurd (true≢false (ap is_some (f refl)))
          by false None f = refl
          by false (Some y) f = refl

      -- where something was noted, that comes first
      pub first_kept : is_some (at entries k) ≡ true → at entries v ≡ or_else (at entries v) (cond (same k v) (Some x) None)
      first_kept some = by (same k v) (at entries v) (λ h. sym (ap (λ y. is_some (at entries y)) (same_is k v h)) ∙ some)
        where
          by : (b : Bool) (a : Option X) → (b ≡ true → is_some a ≡ true) → a ≡ or_else a (cond b (Some x) None)
          by true None f = absurd (true≢false (sym (f refl)))
          by true (Some y) f = refl
          by false None f = refl
          by false (Some y) f = refl
