-- Numbers of names, one after the other, added up.
use Rattle.std.proofs.Common.{◌≡◌, ℕ, ◌+◌, ◌*◌, ◌≤◌, List, [], ◌∷◌, length, Option, Some, None, Bool, true, false, refl, ap, ◌∙◌, arith}
use Rattle.std.specs.Prelude.{if◌then◌else◌, sum_by}
use Rattle.std.proofs.lemmas.List.Sums.{sum_by-cons}
use Rattle.std.specs.List.{filter}
use Rattle.st_model.specs.Table.{Table}
use Rattle.st_browse.specs.Naming.{Named, in_order}
use Rattle.st_browse.specs.Classes.{is_class}
use Rattle.st_browse.specs.inside.Listing.{first, next_in_order}
use Rattle.st_browse.specs.Replies.{senders_count}
use Rattle.st_browse.proofs.Ordered.{next_is}
use Rattle.st_browse.proofs.Going.{none_next}

split_sum : (p : Named → Bool) (w : Named → ℕ) (x : Named) (xs : List Named) → sum_by w (filter p (x ∷ xs)) ≡ sum_by w (filter p (x ∷ [])) + sum_by w (filter p xs)
split_sum p w x xs = kept (p x)
  where
    kept : (b : Bool) → sum_by w (if b then x ∷ filter p xs else filter p xs) ≡ sum_by w (if b then x ∷ [] else []) + sum_by w (filter p xs)
    kept true =
        let a = sum_by-cons w x (filter p xs) in
        let b = sum_by-cons w x [] in
        let c : sum_by w [] ≡ 0 = refl in
        a ∙ (let d : w x + sum_by w (filter p xs) ≡ sum_by w (x ∷ []) + sum_by w (filter p xs) = omega (arith, b, c) in d)
    kept false = let c : sum_by w [] ≡ 0 = refl in let d : sum_by w (filter p xs) ≡ sum_by w [] + sum_by w (filter p xs) = omega (arith, c) in d

module _ (p : Named → Bool) (xs : List Named) (w : Named → ℕ) (n : ℕ) where
  -- the numbers so far were added up; each is at most 262132, and there are at most n of them
  pub record IsSummed (after : Option (List ℕ)) (count : ℕ) : Type 0 where
    pub is : count + sum_by w (filter p (next_in_order after xs)) ≡ sum_by w (filter p (in_order xs))
    pub few : count + 262132 * length (next_in_order after xs) ≤ 262132 * n

  pub summed_none : length (in_order xs) ≤ n → IsSummed None 0
  summed_none l = record { is = omega arith; few = omega (arith, l) }

  pub summed_more : (after : Option (List ℕ)) (count k : ℕ) (y : Named) → first (next_in_order after xs) ≡ Some y → k ≡ sum_by w (filter p (y ∷ [])) → k ≤ 262132
      → IsSummed after count → IsSummed (Some y.name) (count + k)
  summed_more after count k y e f l c =
      let a = c.is in
      let s = c.few in
      let b : sum_by w (filter p (next_in_order after xs)) ≡ sum_by w (filter p (y ∷ next_in_order (Some y.name) xs)) = ap (λ zs. sum_by w (filter p zs)) (next_is after xs y e) in
      let d = split_sum p w y (next_in_order (Some y.name) xs) in
      let j = ap length (next_is after xs y e) in
      record { is = omega (arith, a, b, d, f); few = omega (arith, s, j, l) }

  pub summed_fits : (after : Option (List ℕ)) (count k : ℕ) (y : Named) → first (next_in_order after xs) ≡ Some y → k ≤ 262132 → IsSummed after count → count + k ≤ 262132 * n
  summed_fits after count k y e l c = let s = c.few in let j = ap length (next_is after xs y e) in omega (arith, s, j, l)

  pub summed_all : (after : Option (List ℕ)) (count : ℕ) → None ≡ first (next_in_order after xs) → IsSummed after count → count ≡ sum_by w (filter p (in_order xs))
  summed_all after count e c =
      let a = c.is in
      let b : sum_by w (filter p (next_in_order after xs)) ≡ 0 = ap (λ zs. sum_by w (filter p zs)) (none_next p xs after e) in
      omega (arith, a, b)

-- of one class
pub class_counted : (t : Table) (selector : List ℕ) (n : Named) (a b : ℕ) → is_class t n ≡ true → a + b ≡ senders_count t selector n
    → a + b ≡ sum_by (senders_count t selector) (filter (is_class t) (n ∷ []))
class_counted t selector n a b e f =
    let c = sum_by-cons (senders_count t selector) n [] in
    let d : sum_by (senders_count t selector) [] ≡ 0 = refl in
    rw e (let h : a + b ≡ sum_by (senders_count t selector) (n ∷ []) = omega (arith, c, d, f) in h)

pub none_counted : (t : Table) (selector : List ℕ) (n : Named) → is_class t n ≡ false → 0 ≡ sum_by (senders_count t selector) (filter (is_class t) (n ∷ []))
none_counted t selector n e = rw e refl

pub ruleset one_class = (class_counted, none_counted)
