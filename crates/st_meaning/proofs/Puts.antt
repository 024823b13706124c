-- What variables hold once one has another value.
use Rattle.std.proofs.Common.{◌≡◌, ◌≢◌, ℕ, ◌<◌, ◌≤◌, ◌==◌, Bool, true, false, ◌&&◌, List, Option, refl, sym, ap, ◌∙◌, arith}
use Rattle.std.proofs.lemmas.Bool.Decides.{nat_tests}
use Rattle.std.specs.Prelude.{if◌then◌else◌, nat_lt, slice_get}
use Rattle.st_meaning.specs.declared.deed.Variable.{Variable}
use Rattle.st_meaning.specs.declared.deed.Variable.TheVariants.{Field, Temporary, Shared}
use Rattle.st_meaning.specs.declared.deed.Value.{Value}
use Rattle.st_meaning.specs.declared.deed.Value.TheVariants.{First}
use Rattle.st_meaning.specs.declared.held.Held.{Held}
use Rattle.st_meaning.specs.inside.Values.{same_variable}
use Rattle.st_meaning.specs.inside.Runs.{number_of, changed}
use Rattle.st_meaning.specs.inside.Meanings.{start_of}
use Rattle.st_meaning.specs.inside.Courses.{known, held_of, IsPut}

other_same : (b : Bool) (v x : Value) → (if b && false then v else x) ≡ x
other_same true v x = refl
other_same false v x = refl

put_known : (old new : List (Option Value)) (n : ℕ) (v : Value) → n < 64 → IsPut old new n v → (m : ℕ) (start : Value)
    → known (slice_get new m) start ≡ (if nat_lt n 64 && (n == m) then v else known (slice_get old m) start)
put_known old new n v few put m start = by_test (n == m) refl
  where
    low : nat_lt n 64 ≡ true
    low = grind (arith, nat_tests, few)

    by_test : (b : Bool) → (n == m) ≡ b → known (slice_get new m) start ≡ (if nat_lt n 64 && b then v else known (slice_get old m) start)
    by_test true e =
        let same : n ≡ m = grind (arith, nat_tests, e) in
        ap (λ (o : Option (Option Value)). known o start) (ap (slice_get new) (sym same) ∙ put.here) ∙ sym (ap (λ (c : Bool). if c && true then v else known (slice_get old m) start) low)
    by_test false e =
        let other : m ≢ n = λ i. (let same : (n == m) ≡ true = grind (arith, nat_tests, i) in absurd cc) in
        ap (λ (o : Option (Option Value)). known o start) (put.others m other) ∙ sym (other_same (nat_lt n 64) v (known (slice_get old m) start))

-- a list that is the same holds what it held
module _ (old new : Held) (n : ℕ) (v : Value) where
  abbrev Keeps : Variable → Type 0
  Keeps q = held_of new q ≡ (if nat_lt n 64 && false then v else held_of old q)

  field_kept : new.fields ≡ old.fields → (m : ℕ) → Keeps (Field m)
  field_kept f m = ap (λ l. known (slice_get l.items m) (First (Field m))) f ∙ sym (other_same (nat_lt n 64) v (held_of old (Field m)))

  temporary_kept : new.arguments ≡ old.arguments → new.temporaries ≡ old.temporaries → (m : ℕ) → Keeps (Temporary m)
  temporary_kept a t m =
      ap (λ (k : ℕ). known (slice_get new.temporaries.items m) (start_of k (Temporary m))) a ∙ ap (λ l. known (slice_get l.items m) (start_of old.arguments (Temporary m))) t
      ∙ sym (other_same (nat_lt n 64) v (held_of old (Temporary m)))

  shared_kept : new.shared ≡ old.shared → (m : ℕ) → Keeps (Shared m)
  shared_kept s m = ap (λ l. known (slice_get l.items m) (First (Shared m))) s ∙ sym (other_same (nat_lt n 64) v (held_of old (Shared m)))

by_kind : (f g : Variable → Value) → ((m : ℕ) → f (Field m) ≡ g (Field m)) → ((m : ℕ) → f (Temporary m) ≡ g (Temporary m)) → ((m : ℕ) → f (Shared m) ≡ g (Shared m)) → f ≡ g
by_kind f g a b c = λ i. λ q. at q i
  where
    at : (q : Variable) → f q ≡ g q
    at (Field m) = a m
    at (Temporary m) = b m
    at (Shared m) = c m

pub field_put : (old new : Held) (n : ℕ) (v : Value) → n < 64 → IsPut old.fields.items new.fields.items n v → new.arguments ≡ old.arguments → new.temporaries ≡ old.temporaries → new.shared ≡ old.shared
    → held_of new ≡ changed (Field n) v (held_of old)
field_put old new n v few put a t s =
    by_kind (held_of new) (changed (Field n) v (held_of old)) (λ m. put_known old.fields.items new.fields.items n v few put m (First (Field m))) (temporary_kept old new n v a t) (shared_kept old new n v s)

pub temporary_put : (old new : Held) (n : ℕ) (v : Value) → n < 64 → IsPut old.temporaries.items new.temporaries.items n v → new.arguments ≡ old.arguments → new.fields ≡ old.fields → new.shared ≡ old.shared
    → held_of new ≡ changed (Temporary n) v (held_of old)
temporary_put old new n v few put a f s =
    by_kind (held_of new) (changed (Temporary n) v (held_of old)) (field_kept old new n v f)
    (λ m. ap (λ (k : ℕ). known (slice_get new.temporaries.items m) (start_of k (Temporary m))) a ∙ put_known old.temporaries.items new.temporaries.items n v few put m (start_of old.arguments (Temporary m)))
    (shared_kept old new n v s)

pub shared_put : (old new : Held) (n : ℕ) (v : Value) → n < 64 → IsPut old.shared.items new.shared.items n v → new.arguments ≡ old.arguments → new.fields ≡ old.fields → new.temporaries ≡ old.temporaries
    → held_of new ≡ changed (Shared n) v (held_of old)
shared_put old new n v few put a f t =
    by_kind (held_of new) (changed (Shared n) v (held_of old)) (field_kept old new n v f) (temporary_kept old new n v a t) (λ m. put_known old.shared.items new.shared.items n v few put m (First (Shared m)))

-- a variable that no code names
pub far : (p : Variable) (v : Value) (held : Variable → Value) → 64 ≤ number_of p → held ≡ changed p v held
far p v held h = λ i. λ q. at q i
  where
    high : nat_lt (number_of p) 64 ≡ false
    high = grind (arith, nat_tests, h)

    at : (q : Variable) → held q ≡ changed p v held q
    at q = sym (ap (λ (c : Bool). if c && same_variable p q then v else held q) high)

-- nothing is known at the start
pub at_start : (h : Held) → ((n : ℕ) (start : Value) → known (slice_get h.fields.items n) start ≡ start) → ((n : ℕ) (start : Value) → known (slice_get h.temporaries.items n) start ≡ start)
    → ((n : ℕ) (start : Value) → known (slice_get h.shared.items n) start ≡ start) → held_of h ≡ start_of h.arguments
at_start h f t s = λ i. λ q. at q i
  where
    at : (q : Variable) → held_of h q ≡ start_of h.arguments q
    at (Field n) = f n (First (Field n))
    at (Temporary n) = t n (start_of h.arguments (Temporary n))
    at (Shared n) = s n (First (Shared n))
