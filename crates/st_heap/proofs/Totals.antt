-- How many are stored, and how many words they have.
use Rattle.std.proofs.Common.{◌≡◌, ◌≢◌, Bool, true, false, length-set, ℕ, zero, suc, ◌+◌, ◌<◌, ◌≤◌, List, [], ◌∷◌, Option, Some, None, length, set, refl, ap, ◌∙◌, arith}
use Rattle.std.specs.Prelude.{◌==◌}
use Rattle.std.proofs.lemmas.List.{get_or-set_same, get_or-set_other}
use Rattle.st_heap.specs.inside.Stored.{Stored, slot, total, one_stored, stored_words, used_of, exchanged_stored}

-- the number of what stands at a place
abbrev pub weight_of : (Stored → ℕ) → Option Stored → ℕ
weight_of w None = 0
weight_of w (Some s) = w s

pub total_set : (w : Stored → ℕ) (all : List (Option Stored)) (k : ℕ) (x : Option Stored) → k < length all → total w (set all k x) + weight_of w (slot all k) ≡ total w all + weight_of w x
total_set w [] k x l = absurd (omega (arith, l))
total_set w (None ∷ all) zero None l = omega arith
total_set w (None ∷ all) zero (Some s) l = omega arith
total_set w (Some t ∷ all) zero None l = omega arith
total_set w (Some t ∷ all) zero (Some s) l = omega arith
total_set w (None ∷ all) (suc k) x l = total_set w all k x (omega (arith, l))
total_set w (Some t ∷ all) (suc k) x l = let a = total_set w all k x (omega (arith, l)) in omega (arith, a)

pub total_new : (w : Stored → ℕ) (all : List (Option Stored)) (k : ℕ) (s : Stored) → k < length all → slot all k ≡ None → total w (set all k (Some s)) ≡ total w all + w s
total_new w all k s l free = let a = total_set w all k (Some s) l in let none : weight_of w (slot all k) ≡ 0 = ap (weight_of w) free in omega (arith, a, none)

pub total_gone : (w : Stored → ℕ) (all : List (Option Stored)) (k : ℕ) (s : Stored) → k < length all → slot all k ≡ Some s → total w (set all k None) + w s ≡ total w all
total_gone w all k s l is = let a = total_set w all k None l in let some : weight_of w (slot all k) ≡ w s = ap (weight_of w) is in omega (arith, a, some)

pub total_kept : (w : Stored → ℕ) (all : List (Option Stored)) (k : ℕ) (s t : Stored) → k < length all → slot all k ≡ Some s → w t ≡ w s → total w (set all k (Some t)) ≡ total w all
total_kept w all k s t l is same = let a = total_set w all k (Some t) l in let some : weight_of w (slot all k) ≡ w s = ap (weight_of w) is in omega (arith, a, some, same)

pub total_count : (all : List (Option Stored)) → total one_stored all ≤ length all
total_count [] = omega arith
total_count (None ∷ all) = let a = total_count all in omega (arith, a)
total_count (Some s ∷ all) = let a = total_count all in omega (arith, a)

pub total_empty : (w : Stored → ℕ) (all : List (Option Stored)) → ((k : ℕ) → slot all k ≡ None) → total w all ≡ 0
total_empty w [] f = refl
total_empty w (None ∷ all) f = total_empty w all (λ k. f (suc k))
total_empty w (Some s ∷ all) f = let q : Some s ≡ None = f zero in cc

pub slot_inside : (all : List (Option Stored)) (k : ℕ) (s : Stored) → slot all k ≡ Some s → k < length all
slot_inside [] k s is = cc
slot_inside (x ∷ all) zero s is = omega arith
slot_inside (x ∷ all) (suc k) s is = let a = slot_inside all k s is in omega (arith, a)

-- the sums with one more, one less, or another as long

pub used_new : (all : List (Option Stored)) (k : ℕ) (s : Stored) → k < length all → slot all k ≡ None → used_of (set all k (Some s)) ≡ record { entries = (used_of all).entries + 1; words = (used_of all).words + length s.cells }
used_new all k s l free = λ i. record { entries = total_new one_stored all k s l free i; words = total_new stored_words all k s l free i }

pub used_kept : (all : List (Option Stored)) (k : ℕ) (s t : Stored) → slot all k ≡ Some s → length t.cells ≡ length s.cells → used_of (set all k (Some t)) ≡ used_of all
used_kept all k s t is same = let l = slot_inside all k s is in λ i. record { entries = total_kept one_stored all k s t l is refl i; words = total_kept stored_words all k s t l is same i }

total_exchanged : (w : Stored → ℕ) (all : List (Option Stored)) (a b : ℕ) (s t : Stored) → slot all a ≡ Some s → slot all b ≡ Some t → total w (set (set all a (Some t)) b (Some s)) ≡ total w all
total_exchanged w all a b s t is_s is_t =
    let first = total_set w all a (Some t) (slot_inside all a s is_s) in
    let from : weight_of w (slot all a) ≡ w s = ap (weight_of w) is_s in
    let long = length-set all a (Some t) in
    let inside = slot_inside all b t is_t in
    let second = total_set w (set all a (Some t)) b (Some s) (omega (arith, inside, long)) in
    let there : weight_of w (slot (set all a (Some t)) b) ≡ w t = ap (weight_of w) (still (b == a) refl) in
    omega (arith, first, from, second, there)
  where
    still : (x : Bool) → (b == a) ≡ x → slot (set all a (Some t)) b ≡ Some t
    still true m = let z : b ≡ a = grind (arith, m) in ap (slot (set all a (Some t))) z ∙ get_or-set_same all a (Some t) None (slot_inside all a s is_s)
    still false m = let ne : b ≢ a = λ z. grind (arith, m, z) in get_or-set_other all a b (Some t) None ne ∙ is_t

-- the sums where two places have exchanged what is stored
pub used_exchanged : (all : List (Option Stored)) (a b : ℕ) (s t : Stored) → slot all a ≡ Some s → slot all b ≡ Some t → used_of (exchanged_stored all a b) ≡ used_of all
used_exchanged all a b s t is_s is_t =
    ap used_of (λ i. set (set all a (is_t i)) b (is_s i))
    ∙ (λ i. record { entries = total_exchanged one_stored all a b s t is_s is_t i; words = total_exchanged stored_words all a b s t is_s is_t i })
