-- Steps that go by integers, by cases.
use Rattle.std.proofs.Common.{◌≡◌, zero, suc, Bool, true, false, refl, ap, arith}
use Rattle.std.specs.Prelude.{ℤ, pos, negsuc, ◌+ℤ◌, ◌-ℤ◌, ◌≤ℤ◌, ◌<ℤ◌, int_lt, if◌then◌else◌}
use Rattle.std.proofs.lemmas.Int.{ints}
use mir.Syntax.{w32}
use mir.Val.{to_z, of_z}
use Rattle.st_model.specs.declared.dead.Dead.{Dead}
use Rattle.st_model.specs.declared.dead.Dead.TheVariants as dead
use Rattle.st_model.specs.Values.{Value, small_integer}
use Rattle.st_model.specs.Machine.{ObjectMemory, State, Died, Went, Step, answer, die, ◌>>◌}
use Rattle.st_model.specs.Table.{Table}
use Rattle.st_model.specs.Steps.{store_field}
use Rattle.st_model.specs.Processes.{list_number, sleep, let_wait, resume_over, wait_in, take_excess}
use Rattle.st_model.proofs.IntegerTests.{limit-within, limit-past}

-- an integer that a field holds stays the same as it is passed on, and as 1 is added or taken away
pub passed-is : (n : ℤ) → negsuc 16383 ≤ℤ n → n ≤ℤ pos 16383 → to_z w32 (of_z w32 n) ≡ n
passed-is n l h = omega (arith, ints)

pub raised-is : (n : ℤ) → negsuc 16383 ≤ℤ n → n ≤ℤ pos 16383 → to_z w32 (of_z w32 (to_z w32 (of_z w32 n) +ℤ pos 1)) ≡ n +ℤ pos 1
raised-is n l h = omega (arith, ints)

pub ruleset passes = (passed-is, raised-is)

-- priorities count from 1
pub number-none : (z : ℤ) (s : State Table) → z <ℤ pos 1 → (list_number z).run s ≡ Died dead.Field
unfolding list_number die
number-none (pos zero) s l = refl
number-none (pos (suc n)) s l = absurd (grind (arith, ints, l))
number-none (negsuc n) s l = refl

pub number-is : (z : ℤ) (s : State Table) → pos 1 ≤ℤ z → z ≤ℤ pos 16383 → (list_number z).run s ≡ Went (of_z w32 (z -ℤ pos 1)) s
unfolding list_number answer
number-is (pos zero) s l h = absurd (grind (arith, ints, l))
number-is (pos (suc n)) s l h = let e : n ≡ of_z w32 (pos (suc n) -ℤ pos 1) = grind (arith, ints) in ap (λ k. Went k s) e
number-is (negsuc n) s l h = absurd (grind (arith, ints, l))

pub ruleset numbers = (number-none, number-is)

-- a priority that is greater, and one that is not, which were passed as they are
module _ (m : ObjectMemory Table) (p a : Value) (x y : ℤ) (s : State Table) (first : to_z w32 (of_z w32 x) ≡ x) (second : to_z w32 (of_z w32 y) ≡ y) where
  pub passed-greater : int_lt (to_z w32 (of_z w32 x)) (to_z w32 (of_z w32 y)) ≡ true → (resume_over m p a (int_lt x y)).run s ≡ (sleep m a >> let_wait m p).run s
  unfolding resume_over
  passed-greater e = let h : int_lt x y ≡ true = rw (first, second) at e in rw h refl

  pub passed-not : int_lt (to_z w32 (of_z w32 x)) (to_z w32 (of_z w32 y)) ≡ false → (resume_over m p a (int_lt x y)).run s ≡ (sleep m p).run s
  unfolding resume_over
  passed-not e = let h : int_lt x y ≡ false = rw (first, second) at e in rw h refl

pub ruleset limits = (limit-within, limit-past, passed-is, raised-is)

pub choose-first : {A : Type 0} (b : Bool) (p q : Step Table A) (s : State Table) → b ≡ true → (if b then p else q).run s ≡ p.run s
choose-first b p q s e = rw e refl

pub choose-second : {A : Type 0} (b : Bool) (p q : Step Table A) (s : State Table) → b ≡ false → (if b then p else q).run s ≡ q.run s
choose-second b p q s e = rw e refl

pub ruleset chooses = (choose-first, choose-second)

-- a signal in excess, and none
pub excess-taken : (m : ObjectMemory Table) (v : Value) (z : ℤ) (s : State Table) → pos 0 <ℤ z → (take_excess m v z).run s ≡ (store_field m v 2 (small_integer (z -ℤ pos 1))).run s
unfolding take_excess
excess-taken m v (pos zero) s l = absurd (grind (arith, ints, l))
excess-taken m v (pos (suc n)) s l = let e : pos n ≡ pos (suc n) -ℤ pos 1 = grind (arith, ints) in ap (λ x. (store_field m v 2 (small_integer x)).run s) e
excess-taken m v (negsuc n) s l = absurd (grind (arith, ints, l))

pub excess-none : (m : ObjectMemory Table) (v : Value) (z : ℤ) (s : State Table) → z ≤ℤ pos 0 → (take_excess m v z).run s ≡ (wait_in m v).run s
unfolding take_excess
excess-none m v (pos zero) s l = refl
excess-none m v (pos (suc n)) s l = absurd (grind (arith, ints, l))
excess-none m v (negsuc n) s l = refl

pub lowered-is : (n : ℤ) → pos 0 <ℤ n → n ≤ℤ pos 16383 → to_z w32 (of_z w32 (n -ℤ pos 1)) ≡ n -ℤ pos 1
lowered-is n l h = omega (arith, ints)

pub ruleset takes = (excess-taken, excess-none, lowered-is)
