-- Two fields are fetched, and two are stored, each with the next.
use Rattle.std.proofs.Common.{◌≡◌, ℕ, suc, ◌+◌, [], ◌∷◌, refl, arith}
use Rattle.st_model.specs.Values.{Value}
use Rattle.st_model.specs.Machine.{ObjectMemory, answer, ◌>>=◌, ◌>>◌}
use Rattle.st_model.specs.Steps.{fetch_field, store_field, fetch_fields, store_fields}
use Rattle.st_model.specs.Table.{Table}

module _ (m : ObjectMemory Table) (v : Value) (at : ℕ) where
  pub fetch_pair : fetch_fields m v at 2 ≡ (fetch_field m v at >>= (λ x. (fetch_field m v (at + 1) >>= (λ y. answer [] >>= (λ xs. answer (y ∷ xs)))) >>= (λ xs. answer (x ∷ xs))))
  unfolding fetch_fields
  fetch_pair = let e : at + 1 ≡ suc at = omega arith in rw e refl

  pub store_pair : (x y : Value) → store_fields m v at (x ∷ (y ∷ [])) ≡ (store_field m v at x >> (store_field m v (at + 1) y >> answer tt))
  unfolding store_fields
  store_pair x y = let e : at + 1 ≡ suc at = omega arith in rw e refl

pub ruleset two_fields = (fetch_pair, store_pair)
