-- The test whether two words are one, by what it says.
use Rattle.std.proofs.Common.{◌≡◌, ◌≢◌, ℕ, true, false, ap, arith}
use Rattle.std.proofs.lemmas.Bool.Decides.{nat_tests}
use Rattle.st_model.specs.Values.{Value, Small, Ref}
use Rattle.st_model.specs.Steps.{same_value}

pub value_same : (v w : Value) → same_value v w ≡ true → v ≡ w
value_same (Small a) (Small b) e = let q : a ≡ b = grind (arith, nat_tests, e) in ap (λ x. Small x) q
value_same (Small a) (Ref b) e = cc
value_same (Ref a) (Small b) e = cc
value_same (Ref a) (Ref b) e = let q : a ≡ b = grind (arith, nat_tests, e) in ap (λ x. Ref x) q

pub other_value : (v w : Value) → same_value v w ≡ false → v ≢ w
other_value (Small a) (Small b) e q = let p : a ≡ b = cc in grind (arith, nat_tests)
other_value (Small a) (Ref b) e q = cc
other_value (Ref a) (Small b) e q = cc
other_value (Ref a) (Ref b) e q = let p : a ≡ b = cc in grind (arith, nat_tests)

pub same_ref : (n : ℕ) → same_value (Ref n) (Ref n) ≡ true
same_ref n = grind (arith, nat_tests)
