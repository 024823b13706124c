-- Tests of integers, by what they say; and the checks that rest on them.
use Rattle.std.proofs.Common.{◌≡◌, true, false, arith}
use Rattle.std.specs.Prelude.{ℤ, pos, negsuc, ◌≤ℤ◌, ◌<ℤ◌, int_lt, int_le}
use Rattle.std.proofs.lemmas.Int.{ints}
use Rattle.st_model.specs.declared.dead.Dead.{Dead}
use Rattle.st_model.specs.Machine.{State, Died, Went}
use Rattle.st_model.specs.Table.{Table}
use Rattle.st_model.specs.Steps.{check}
use Rattle.st_model.proofs.Runs.{run-passed, run-failed}

pub lt_true : (a b : ℤ) → a <ℤ b → int_lt a b ≡ true
lt_true (pos a) (pos b) l = grind (arith, ints, l)
lt_true (pos a) (negsuc b) l = grind (arith, ints, l)
lt_true (negsuc a) (pos b) l = grind (arith, ints, l)
lt_true (negsuc a) (negsuc b) l = grind (arith, ints, l)

pub le_true : (a b : ℤ) → a ≤ℤ b → int_le a b ≡ true
le_true (pos a) (pos b) l = grind (arith, ints, l)
le_true (pos a) (negsuc b) l = grind (arith, ints, l)
le_true (negsuc a) (pos b) l = grind (arith, ints, l)
le_true (negsuc a) (negsuc b) l = grind (arith, ints, l)

pub le_false : (a b : ℤ) → b <ℤ a → int_le a b ≡ false
le_false (pos a) (pos b) l = grind (arith, ints, l)
le_false (pos a) (negsuc b) l = grind (arith, ints, l)
le_false (negsuc a) (pos b) l = grind (arith, ints, l)
le_false (negsuc a) (negsuc b) l = grind (arith, ints, l)

pub limit-within : (k : Dead) (a b : ℤ) (s : State Table) → a ≤ℤ b → (check k (int_le a b)).run s ≡ Went tt s
limit-within k a b s l = run-passed k (int_le a b) s (le_true a b l)

pub limit-past : (k : Dead) (a b : ℤ) (s : State Table) → b <ℤ a → (check k (int_le a b)).run s ≡ Died k
limit-past k a b s l = run-failed k (int_le a b) s (le_false a b l)
