-- What is taken away is in no set that supports itself; what is left where nothing can be taken away supports itself.
use Rattle.std.proofs.Common.{◌≡◌, ◌≢◌, ℕ, ◌<◌, List, [], ◌∷◌, Bool, true, false, refl, sym, subst, arith, inl, inr, ◌⊎◌}
use Rattle.std.specs.Prelude.{◌&&◌, ◌==◌, not, IsTrue}
use Rattle.std.proofs.lemmas.Bool.Decides.{nat_tests}
use Rattle.st_model.specs.Values.{Value}
use Rattle.st_model.specs.Machine.{ObjectMemory}
use Rattle.st_model.specs.Births.{Births, births, borne}
use Rattle.st_model.specs.Table.{table}
use Rattle.st_model.specs.Settled.{IsRoot, IsReferredFrom, SupportsItself, IsSettled, object_names, is_root, is_supported}
use Rattle.st_model.proofs.SettledIs.{or_cases, below_true, object_is, is_object, root_is, is_root-of, or_left, or_right, true_below, both, and_true, not_so}
use Rattle.st_model.proofs.SettledLemmas.{some_is}
use Rattle.st_model.proofs.BirthLemmas.{borne_before}
use Rattle.st_counted.specs.inside.Taking.{IsUnsupported, without, TakesAway, TakesNoneSupported, LeftSupportsItself, TakingSettles}
use Rattle.st_model.proofs.Reclaiming.{table_finite}

bool_cases : (b : Bool) → IsTrue b ⊎ (b ≡ false)
bool_cases true = inl refl
bool_cases false = inr refl

both_ways : (b : Bool) → IsTrue b → b ≡ false → ⊥
both_ways true h e = cc
both_ways false h e = cc

number_cases : (m n : ℕ) → (m ≡ n) ⊎ (m ≢ n)
number_cases m n = grind arith

other_number : (k n : ℕ) → k ≢ n → IsTrue (not (k == n))
other_number k n d = grind (arith, nat_tests)

pub without_below : (set : ℕ → Bool) (k n : ℕ) → IsTrue (without set k n) → IsTrue (set n)
without_below set k n t = (both (set n) (not (n == k)) t).0

module _ {H : Type 0} (m : ObjectMemory H) (h : H) (roots : List Value) where
  -- what is left was there
  left_within : (set : ℕ → Bool) (order : List ℕ) (left : ℕ → Bool) → TakesAway m h roots set order left → (n : ℕ) → IsTrue (left n) → IsTrue (set n)
  left_within set [] left takes n t = subst (λ b. IsTrue b) (takes n) t
  left_within set (k ∷ ks) left takes n t = without_below set k n (left_within (without set k) ks left takes.1 n t)

  -- a set that supports itself has no member that is unsupported in a set round it
  stays : (set other : ℕ → Bool) (k : ℕ) → SupportsItself m h roots other → ((n : ℕ) → IsTrue (other n) → IsTrue (set n)) → IsUnsupported m h roots set k → IsTrue (other k) → ⊥
  stays set other k sup within alone t = elim (sup.supported k t) [
    | inl r ↦ alone.no_root r
    | inr r ↦ alone.no_referred (record { from = r.from; object = r.object; member = within r.from r.member; is = r.is; refers = r.refers })
  ]

  -- so it lies within what is left
  others_stay : (set : ℕ → Bool) (order : List ℕ) (left other : ℕ → Bool) → TakesAway m h roots set order left → SupportsItself m h roots other
      → ((n : ℕ) → IsTrue (other n) → IsTrue (set n)) → (n : ℕ) → IsTrue (other n) → IsTrue (left n)
  others_stay set [] left other takes sup within n t = subst (λ b. IsTrue b) (sym (takes n)) (within n t)
  others_stay set (k ∷ ks) left other takes sup within n t =
      others_stay (without set k) ks left other takes.1 sup
      (λ n t. elim (number_cases n k) [
        | inl e ↦ absurd (stays set other k sup within takes.0 (subst (λ x. IsTrue (other x)) e t))
        | inr d ↦ and_true (set n) (not (n == k)) (within n t) (other_number n k d)
      ])
      n t

  -- what the test of support says
  supported_is : (set : ℕ → Bool) (n : ℕ) → IsTrue (is_supported m h roots set n) → IsRoot m h roots n ⊎ IsReferredFrom m h set n
  unfolding is_supported
  supported_is set n t = elim (or_cases _ _ t) [
    | inl k ↦ inl (root_is m h roots n k)
    | inr k ↦
        let b = below_true (m.size h) (λ k. set k && object_names (m.read h k) n) k in
        let p = both (set b.0) (object_names (m.read h b.0) n) b.1 in
        let o = object_is (m.read h b.0) n p.1 in
        inr (record { from = b.0; object = o.0; member = p.0; is = o.1; refers = o.2 })
  ]

  root_supported : (set : ℕ → Bool) (n : ℕ) → IsRoot m h roots n → IsTrue (is_supported m h roots set n)
  unfolding is_supported
  root_supported set n r = or_left (is_root m h roots n) _ (is_root-of m h roots n r)

  referred_supported : (set : ℕ → Bool) (n : ℕ) (r : IsReferredFrom m h set n) → r.from < m.size h → IsTrue (is_supported m h roots set n)
  unfolding is_supported
  referred_supported set n r l = or_right (is_root m h roots n) _
      (true_below (m.size h) r.from (λ k. set k && object_names (m.read h k) n) l
      (and_true (set r.from) (object_names (m.read h r.from) n) r.member (is_object (m.read h r.from) r.object n r.is r.refers)))

  -- what the test of support doesn't hold of may be taken away
  pub unsupported : (set : ℕ → Bool) → ((n : ℕ) → IsTrue (set n) → n < m.size h) → (n : ℕ) → IsTrue (set n) → is_supported m h roots set n ≡ false → IsUnsupported m h roots set n
  unsupported set below n t f = record {
    member = t;
    no_root = λ r. both_ways (is_supported m h roots set n) (root_supported set n r) f;
    no_referred = λ r. both_ways (is_supported m h roots set n) (referred_supported set n r (below r.from r.member)) f;
  }

  module _ (finite : (n : ℕ) → IsTrue (m.kept h n) → n < m.size h) where
    left_supports : (order : List ℕ) (left : ℕ → Bool) → TakesAway m h roots (m.kept h) order left → ((n : ℕ) → IsUnsupported m h roots left n → ⊥) → SupportsItself m h roots left
    left_supports order left takes none = record {
      kept = kept;
      supported = λ n t. elim (bool_cases (is_supported m h roots left n)) [
        | inl s ↦ supported_is left n s
        | inr f ↦ absurd (none n (unsupported left (λ k u. finite k (kept k u)) n t f))
      ];
    }
      where
        kept : (n : ℕ) → IsTrue (left n) → IsTrue (m.kept h n)
        kept = left_within (m.kept h) order left takes

    left_settled : (order : List ℕ) (left : ℕ → Bool) → TakesAway m h roots (m.kept h) order left → ((n : ℕ) → IsUnsupported m h roots left n → ⊥) → IsSettled m h roots left
    left_settled order left takes none = record {
      supports = left_supports order left takes none;
      largest = λ other sup. others_stay (m.kept h) order left other takes sup sup.kept;
    }

births_finite : (b : Births) (n : ℕ) → IsTrue (births.kept b n) → n < births.size b
births_finite b n t = let p = some_is (borne b n) t in borne_before b n p.0 p.1

pub takes_none_supported : {H : Type 0} (m : ObjectMemory H) → TakesNoneSupported m
takes_none_supported m = λ h roots order left other takes sup n e.
    not_so (other n) (λ t. both_ways (left n) (others_stay m h roots (m.kept h) order left other takes sup sup.kept n t) e)

pub left_births : LeftSupportsItself births
left_births = λ b roots order left takes none. left_supports births b roots (births_finite b) order left takes none

pub left_table : LeftSupportsItself table
left_table = λ t roots order left takes none. left_supports table t roots (table_finite t) order left takes none

pub births_settled : TakingSettles births
births_settled = λ b roots order left takes none. left_settled births b roots (births_finite b) order left takes none

pub table_settled : TakingSettles table
table_settled = λ t roots order left takes none. left_settled table t roots (table_finite t) order left takes none
