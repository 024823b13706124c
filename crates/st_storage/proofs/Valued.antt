-- Integers, and differences of numbers.
use Rattle.std.proofs.Common.{◌≡◌, ℕ, ◌<◌, ◌≤◌, false, refl, arith}
use Rattle.std.specs.Prelude.{ℤ, pos, negsuc, ◌-ℤ◌, ◌≤ℤ◌, ◌<ℤ◌, int_lt, nat_abs}
use Rattle.st_model.specs.declared.dead.Dead.{Dead}
use Rattle.st_model.specs.declared.dead.Dead.TheVariants as dead
use Rattle.std.proofs.lemmas.Int.{ints}
use mir.Syntax.{w32}
use mir.Val.{to_z, of_z}
use Rattle.st_model.specs.Values.{Value, small_integer}
use Rattle.st_model.specs.Machine.{ObjectMemory, State, Died, Went, answer, die, after, ◌>>=◌, ◌>>◌}
use Rattle.st_model.specs.Table.{Table}
use Rattle.st_model.specs.Steps.{check, fetch_integer}
use Rattle.st_model.specs.Storage.{position_below}
use Rattle.st_model.specs.Primitives.{number, number_of}
use Rattle.st_model.proofs.Runs.{run-passed, run-failed}
use Rattle.st_model.proofs.IntegerTests.{le_false, lt_true, limit-within, limit-past}

pub difference-is : (a b : ℕ) → a ≤ 131066 → b < 2048 → to_z w32 (of_z w32 (to_z w32 a -ℤ to_z w32 b)) ≡ pos a -ℤ pos b
difference-is a b h k = omega (arith, ints)

pub ruleset differences = (difference-is)

lt_false : (a b : ℤ) → b ≤ℤ a → int_lt a b ≡ false
lt_false (pos a) (pos b) l = grind (arith, ints, l)
lt_false (pos a) (negsuc b) l = grind (arith, ints, l)
lt_false (negsuc a) (pos b) l = grind (arith, ints, l)
lt_false (negsuc a) (negsuc b) l = grind (arith, ints, l)

pub position-below : (k : Dead) (a b : ℤ) (s : State Table) → a <ℤ b → (check k (int_lt a b)).run s ≡ Went tt s
position-below k a b s l = run-passed k (int_lt a b) s (lt_true a b l)

pub position-past : (k : Dead) (a b : ℤ) (s : State Table) → b ≤ℤ a → (check k (int_lt a b)).run s ≡ Died k
position-past k a b s l = run-failed k (int_lt a b) s (lt_false a b l)

pub natural-is : (a : ℤ) → pos 0 ≤ℤ a → a ≤ℤ pos 131066 → of_z w32 a ≡ nat_abs a
natural-is (pos a) l h = grind (arith, ints)
natural-is (negsuc a) l h = absurd (grind (arith, ints, l))

pub ruleset positions = (position-below, position-past, limit-within, limit-past, natural-is)

pub integer-small : (m : ObjectMemory Table) (z : ℤ) (s : State Table) → z <ℤ pos 0 → (number_of m z).run s ≡ Went (small_integer z) s
unfolding number_of answer
integer-small m (pos a) s l = absurd (grind (arith, ints, l))
integer-small m (negsuc a) s l = refl

pub integer-large : (m : ObjectMemory Table) (z : ℤ) (s : State Table) → pos 0 ≤ℤ z → z ≤ℤ pos 131066 → (number_of m z).run s ≡ (number m (of_z w32 z)).run s
unfolding number_of
integer-large m (pos a) s l h = let e : of_z w32 (pos a) ≡ a = grind (arith, ints) in rw e refl
integer-large m (negsuc a) s l h = absurd (grind (arith, ints, l))

pub ruleset integers = (integer-small, integer-large)

pub position-failed : (m : ObjectMemory Table) (v : Value) (i : ℕ) (a b : ℤ) (s : State Table) → (fetch_integer m v 1).run s ≡ Went a s → (fetch_integer m v i).run s ≡ Went b s → a <ℤ b → a <ℤ pos 0
    → (position_below m v i).run s ≡ Died dead.Field
unfolding position_below ◌>>=◌ ◌>>◌ after check die answer
position-failed m v i a b s e f l k = rw (e, f, lt_true a b l, le_false (pos 0) a k) refl
