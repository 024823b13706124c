-- Parts that are nil.
use Rattle.std.proofs.Common.{◌≡◌, ◌≢◌, ℕ, ◌≤◌, Bool, true, false, refl, ap, ◌∙◌, arith}
use Rattle.std.specs.Prelude.{◌==◌, ◌/◌, ◌%◌, if◌then◌else◌}
use Rattle.std.specs.Int.{from_bool}
use Rattle.std.proofs.lemmas.Bool.Decides.{nat_tests}
use Rattle.st_model.specs.declared.oop.Oop.{Oop}
use Rattle.st_model.specs.Values.{Small, Ref, value_of, value}
use Rattle.st_model.specs.Steps.{same_value}
use Rattle.st_install.specs.Dictionaries.{one_more_if}
use Rattle.st_install.specs.inside.Naming.{nil}
use Rattle.st_scope.proofs.Lineages.{is_nil, is_other}

decide : (w : ℕ) (c d : Bool) → (w == 2) ≡ c → (w / 2 == 1) ≡ d → (w % 2 == 1) ≡ false → c ≡ d
decide w true true a b e = refl
decide w true false a b e = absurd (grind (arith, nat_tests))
decide w false true a b e = absurd (grind (arith, nat_tests))
decide w false false a b e = refl

nil_if : (w : ℕ) (b c : Bool) → (w % 2 == 1) ≡ b → (w == 2) ≡ c → c ≡ same_value (if b then Small (w / 2) else Ref (w / 2)) (Ref 1)
nil_if w true true e q = absurd (grind (arith, nat_tests))
nil_if w true false e q = refl
nil_if w false c e q = decide w c (w / 2 == 1) q refl e

pub vacant_there : (o : Oop) → (o.0 == 2) ≡ same_value (value o) (Ref 1)
unfolding value_of
vacant_there o = nil_if o.0 (o.0 % 2 == 1) (o.0 == 2) refl refl

pub ruleset vacancies = (vacant_there, is_nil, is_other)

-- one more place is nil, or none
one_of : (b : Bool) → from_bool b ≡ one_more_if b 0
one_of true = refl
one_of false = refl

pub one_there : (o : Oop) → from_bool (o.0 == 2) ≡ one_more_if (same_value (value o) nil) 0
one_there o = ap from_bool (vacant_there o) ∙ one_of (same_value (value o) nil)

pub most_one : (b : Bool) → from_bool b ≤ 1
most_one true = omega arith
most_one false = omega arith
