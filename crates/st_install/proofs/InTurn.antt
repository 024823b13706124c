-- The fields of an object are stored one after the other, whatever its kind.
use Rattle.std.proofs.Common.{◌≡◌, ℕ, suc, List, [], ◌∷◌, refl}
use Rattle.st_model.specs.Values.{Value}
use Rattle.st_model.specs.Machine.{ObjectMemory, Step, answer, ◌>>◌}
use Rattle.st_model.specs.Steps.{store_field, store_fields, store_method_field}
use Rattle.st_install.specs.Installing.{store_method_fields}

-- all of them are stored by one store after the other
pub record InTurn (H : Type 0) (one : ℕ → Value → Step H Unit) (all : ℕ → List Value → Step H Unit) : Type 0 where
  pub none : (i : ℕ) → all i [] ≡ answer tt
  pub more : (i : ℕ) (x : Value) (xs : List Value) → all i (x ∷ xs) ≡ (one i x >> all (suc i) xs)

pub fields_in_turn : (H : Type 0) (m : ObjectMemory H) (v : Value) → InTurn H (store_field m v) (store_fields m v)
unfolding store_fields
fields_in_turn H m v = record { none = λ i. refl; more = λ i x xs. refl }

pub method_in_turn : (H : Type 0) (m : ObjectMemory H) (v : Value) → InTurn H (store_method_field m v) (store_method_fields m v)
unfolding store_method_fields
method_in_turn H m v = record { none = λ i. refl; more = λ i x xs. refl }
