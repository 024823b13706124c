-- Instances of Symbol by their texts.
use Rattle.std.proofs.Common.{◌≡◌, ◌≢◌, ℕ, List, Bool, true, false, Ok, Err, refl, ap, arith}
use Rattle.std.specs.Prelude.{◌==◌, ◌/◌, ◌%◌, if◌then◌else◌}
use Rattle.std.proofs.lemmas.Bool.Decides.{nat_tests}
use Rattle.st_model.specs.declared.dead.Dead.{Dead}
use Rattle.st_model.specs.declared.oop.Oop.{Oop}
use Rattle.st_model.specs.declared.page.PageObject.TheVariants.{SymbolClass}
use Rattle.st_model.specs.Values.{Small, Ref, value_of, value}
use Rattle.st_model.specs.Objects.{place_of}
use Rattle.st_model.specs.Machine.{answer, tried}
use Rattle.st_model.specs.Steps.{same_value}
use Rattle.st_model.specs.Primitives.{check_class}
use Rattle.st_model.specs.Table.{Table, table}
use Rattle.st_model.specs.inside.Calls.{Reads, itself}
use Rattle.st_model.proofs.Runs.{run-then, run-next, after-went, after-died}
use Rattle.st_scope.specs.Tables.{is_text}
use Rattle.st_install.specs.Symbols.{symbol_text, is_symbol}
use Rattle.st_scope.specs.Texts.{text_at}
use Rattle.st_scope.proofs.TextsAt.{tried_bytes}

same_if : (w : ℕ) (b : Bool) → (w % 2 == 1) ≡ b → w ≡ 56 → same_value (if b then Small (w / 2) else Ref (w / 2)) (Ref 28) ≡ true
same_if w true e q = let z : w % 2 ≡ 1 = grind (arith, nat_tests) in absurd (omega (arith, z, q))
same_if w false e q = let z : w / 2 ≡ 28 = omega (arith, q) in rw z refl

other_if : (w : ℕ) (b : Bool) → (w % 2 == 1) ≡ b → w ≢ 56 → same_value (if b then Small (w / 2) else Ref (w / 2)) (Ref 28) ≡ false
other_if w true e q = refl
other_if w false e q = let z : w % 2 ≢ 1 = grind (arith, nat_tests) in let n : w / 2 ≢ 28 = λ h. q (omega (arith, z, h)) in grind (arith, nat_tests)

pub same_class : (o : Oop) → o ≡ record { 0 = 56 } → same_value (value o) (Ref (place_of SymbolClass)) ≡ true
unfolding value_of
same_class o q = same_if o.0 (o.0 % 2 == 1) refl (ap (λ (x : Oop). x.0) q)

pub other_class : (o : Oop) → (o ≡ record { 0 = 56 } → ⊥) → same_value (value o) (Ref (place_of SymbolClass)) ≡ false
unfolding value_of
other_class o q = other_if o.0 (o.0 % 2 == 1) refl (λ h. q (ap (λ n. record { 0 = n }) h))

pub ruleset classes = (same_class, other_class)

module _ (v : Oop) (ts : List ℕ) (t : Table) where
  pub symbol-there : (u : Unit {0}) (b : Bool) → Reads (check_class table (value v) SymbolClass) itself t (Ok u) → b ≡ is_text ts (text_at t (value v)) → Reads (is_symbol table (value v) ts) itself t (Ok b)
  unfolding is_symbol tried symbol_text answer
  symbol-there u b e q s f = simp (run-then, run-next, e s f, after-went, tried_bytes (value v) s, f, ← q) refl

  pub symbol-none : (k : Dead) → Reads (check_class table (value v) SymbolClass) itself t (Err k) → Reads (is_symbol table (value v) ts) itself t (Ok false)
  unfolding is_symbol tried symbol_text answer
  symbol-none k e s f = simp (run-then, run-next, e s f, after-died, after-went) refl

pub ruleset symbols = (symbol-there, symbol-none)
