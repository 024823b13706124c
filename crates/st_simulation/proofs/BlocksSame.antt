-- Blocks over births do the same over pointers: the conditions of their primitives, and their effects.
use Rattle.std.proofs.Common.{◌≡◌, ℕ, Option, Some, None, Bool}
use Rattle.std.specs.Prelude.{◌||◌, ℤ}
use Rattle.st_model.specs.declared.primitive.BlockPrimitive.{BlockPrimitive}
use Rattle.st_model.specs.declared.primitive.BlockPrimitive.TheVariants as named
use Rattle.st_model.specs.Values.{Value}
use Rattle.st_model.specs.Machine.{ObjectMemory}
use Rattle.st_model.specs.Blocks.{check_context, home_of_block, fill_block, new_block, primitive_block_copy, start_of, enter_block, value_with_words, value_if_any, primitive_value, Passing, passing, value_with_fields, value_with_if_any, primitive_value_with, blocks}
use Rattle.st_simulation.proofs.Same.{Simulation, ValueSame, SameValue, SameAnswer, steps_same}
use Rattle.st_simulation.proofs.StepsSame.{parts_same}
use Rattle.st_simulation.proofs.ContextsSame.{home_of-same, switch-same}
use Rattle.st_simulation.proofs.PrimitivesSame.{positive_small-same, primitive_value-same}
use Rattle.st_simulation.proofs.StorageSame.{check_class-same}

-- conditions; nothing is made
module _ {H K : Type 0} {M : ObjectMemory H} {N : ObjectMemory K} (sim : Simulation M N) where
  or-same : (a b c d : Bool) → c ≡ a → d ≡ b → (c || d) ≡ (a || b)
  or-same a b c d e f = λ i. e i || f i

  check_context-same : (v w : Value) → ValueSame sim v w → SameAnswer sim (check_context M v) (check_context N w)
  unfolding check_context
  check_context-same v w h = search (parts_same, or-same) depth 24 fits 4000

  home_of_block-same : (r s a b : Value) → ValueSame sim r s → ValueSame sim a b → SameValue sim (home_of_block M r a) (home_of_block N s b)
  unfolding home_of_block
  home_of_block-same r s a b h k = search (parts_same, check_context-same, positive_small-same, home_of-same) depth 32 fits 4000

  start_of-same : (v w : Value) (n : ℕ) → ValueSame sim v w → SameAnswer sim (start_of M v n) (start_of N w n)
  unfolding start_of
  start_of-same v w n h = search (parts_same, check_class-same, positive_small-same) depth 32 fits 4000

  passing-same : (v w x y : Value) → ValueSame sim v w → ValueSame sim x y → SameAnswer sim (passing M v x) (passing N w y)
  unfolding passing
  passing-same v w x y h k = search (parts_same, check_class-same, start_of-same) depth 24 fits 4000

  enter_block-same : (v w : Value) (n : ℕ) (i : ℤ) → ValueSame sim v w → SameAnswer sim (enter_block M v n i) (enter_block N w n i)
  unfolding enter_block
  enter_block-same v w n i h = search (parts_same, switch-same) depth 24 fits 4000

  value_with_words-same : (v w : Value) (n : ℕ) (i : ℤ) → ValueSame sim v w → SameAnswer sim (value_with_words M v n i) (value_with_words N w n i)
  unfolding value_with_words
  value_with_words-same v w n i h = search (parts_same, enter_block-same) depth 24 fits 4000

  value_if_any-same : (v w : Value) (n : ℕ) (x : Option ℤ) → ValueSame sim v w → SameAnswer sim (value_if_any M v n x) (value_if_any N w n x)
  unfolding value_if_any
  value_if_any-same v w n None h = search steps_same
  value_if_any-same v w n (Some i) h = value_with_words-same v w n i h

  value_with_fields-same : (v w x y : Value) (p : Passing) → ValueSame sim v w → ValueSame sim x y → SameAnswer sim (value_with_fields M v x p) (value_with_fields N w y p)
  unfolding value_with_fields
  value_with_fields-same v w x y p h k = search (parts_same, enter_block-same) depth 24 fits 4000

  value_with_if_any-same : (v w x y : Value) (p : Option Passing) → ValueSame sim v w → ValueSame sim x y → SameAnswer sim (value_with_if_any M v x p) (value_with_if_any N w y p)
  unfolding value_with_if_any
  value_with_if_any-same v w x y None h k = search steps_same
  value_with_if_any-same v w x y (Some p) h k = value_with_fields-same v w x y p h k

-- the primitives
module _ {H K : Type 0} {M : ObjectMemory H} {N : ObjectMemory K} (sim : Simulation M N) (makes : sim.makes) where
  fill_block-same : (v w x y a b : Value) → ValueSame sim v w → ValueSame sim x y → ValueSame sim a b → SameAnswer sim (fill_block M v x a) (fill_block N w y b)
  unfolding fill_block
  fill_block-same v w x y a b h k l = search parts_same depth 24 fits 4000

  new_block-same : (x y a b : Value) → ValueSame sim x y → ValueSame sim a b → SameValue sim (new_block M x a) (new_block N y b)
  unfolding new_block
  new_block-same x y a b h k = search (parts_same, fill_block-same) depth 24 fits 4000

  pub block_copy-same : SameAnswer sim (primitive_block_copy M) (primitive_block_copy N)
  unfolding primitive_block_copy
  block_copy-same = search (parts_same, primitive_value-same, home_of_block-same, new_block-same) depth 24 fits 4000

  pub value-same : (n : ℕ) → SameAnswer sim (primitive_value M n) (primitive_value N n)
  unfolding primitive_value
  value-same n = search (parts_same, start_of-same, value_if_any-same) depth 24 fits 4000

  value_with-same : SameAnswer sim (primitive_value_with M) (primitive_value_with N)
  unfolding primitive_value_with
  value_with-same = search (parts_same, passing-same, value_with_if_any-same) depth 24 fits 4000

  pub blocks-same : (n : ℕ) (p : BlockPrimitive) → SameAnswer sim (blocks M n p) (blocks N n p)
  unfolding blocks
  blocks-same n named.BlockCopy = block_copy-same
  blocks-same n named.Value = value-same n
  blocks-same n named.ValueWith = value_with-same
