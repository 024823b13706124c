-- Primitives on integers from 0 up whose conditions hold: their effect and what follows are done by one call.
use Rattle.std.proofs.Common.{◌≡◌, ℕ, Bool}
use Rattle.st_model.specs.declared.integers.LargeAnswer.{LargeAnswer}
use Rattle.st_model.specs.declared.integers.LargeAnswer.TheVariants.{Number}
use Rattle.st_model.specs.Machine.{ObjectMemory, State, Transition, Went}
use Rattle.st_model.specs.Table.{Table}
use Rattle.st_model.specs.Primitives.{number}
use Rattle.st_model.specs.Arithmetic.{large_answer, value_of_large, large_arithmetic, shift_answer, shift_large}
use Rattle.st_frames.specs.inside.Answering.{succeed_by}
use Rattle.st_frames.proofs.Tries.{primitive-done}

pub large-done : (m : ObjectMemory Table) (n : ℕ) (a : LargeAnswer) (s : State Table) (y : Transition (State Table) Bool) → (large_answer m n).run s ≡ Went a s
    → (succeed_by m 1 (value_of_large m a)).run s ≡ y → (large_arithmetic m n).run s ≡ y
unfolding large_arithmetic
large-done m n a s y e h = primitive-done m 1 (large_answer m n) (value_of_large m) s a y e h

pub shift-done : (m : ObjectMemory Table) (k : ℕ) (s : State Table) (y : Transition (State Table) Bool) → (shift_answer m).run s ≡ Went k s
    → (succeed_by m 1 (value_of_large m (Number k))).run s ≡ y → (shift_large m).run s ≡ y
unfolding shift_large value_of_large
shift-done m k s y e h = primitive-done m 1 (shift_answer m) (number m) s k y e h
