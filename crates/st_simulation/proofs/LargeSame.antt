-- The first search for the primitives on integers from 0 up: births and tables do the same.
use Rattle.std.proofs.Common.{ℕ}
use Rattle.st_model.specs.declared.integers.LargeAnswer.{LargeAnswer}
use Rattle.st_model.specs.declared.integers.LargeAnswer.TheVariants as wide
use Rattle.st_model.specs.Machine.{ObjectMemory}
use Rattle.st_model.specs.Arithmetic.{large_under, large_answer, value_of_large, large_arithmetic, shift_answer, shift_large}
use Rattle.st_simulation.proofs.Same.{Simulation, strict, SameAnswer, SameValue}
use Rattle.st_simulation.proofs.StepsSame.{parts_same}
use Rattle.st_simulation.proofs.PrimitivesSame.{integer_under-same, primitive-same, truth-same}
use Rattle.st_simulation.proofs.StorageSame.{positive_value-same, number-same}

module _ {H K : Type 0} {M : ObjectMemory H} {N : ObjectMemory K} (sim : Simulation M N) where
  large_under-same : (k : ℕ) → SameAnswer sim (large_under M k) (large_under N k)
  unfolding large_under
  large_under-same k = search (parts_same, positive_value-same) depth 24 fits 4000

  large_answer-same : (n : ℕ) → SameAnswer sim (large_answer M n) (large_answer N n)
  unfolding large_answer
  large_answer-same n = search (parts_same, large_under-same) depth 24 fits 4000

  shift_answer-same : SameAnswer sim (shift_answer M) (shift_answer N)
  unfolding shift_answer
  shift_answer-same = search (parts_same, large_under-same, integer_under-same) depth 24 fits 4000

module _ {H K : Type 0} {M : ObjectMemory H} {N : ObjectMemory K} (sim : Simulation M N) (makes : sim.makes) where
  value_of_large-same : (a : LargeAnswer) → SameValue sim (value_of_large M a) (value_of_large N a)
  unfolding value_of_large
  value_of_large-same (wide.Number n) = number-same sim makes n
  value_of_large-same (wide.Truth b) = truth-same sim makes b b (λ i. b)

  pub large_arithmetic-same : (n : ℕ) → SameAnswer sim (large_arithmetic M n) (large_arithmetic N n)
  unfolding large_arithmetic
  large_arithmetic-same n = primitive-same sim makes 1 _ _ _ _ (large_answer-same sim n) (large_answer-same (strict sim) n) value_of_large-same

  pub shift_large-same : SameAnswer sim (shift_large M) (shift_large N)
  unfolding shift_large
  shift_large-same = primitive-same sim makes 1 _ _ _ _ (shift_answer-same sim) (shift_answer-same (strict sim)) (number-same sim makes)
