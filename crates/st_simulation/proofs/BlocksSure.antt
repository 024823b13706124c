-- Blocks meet no name without an object: their conditions, and their effects.
use Rattle.std.proofs.Common.{ℕ, Option, Some, None}
use Rattle.std.specs.Prelude.{ℤ}
use Rattle.st_model.specs.declared.primitive.BlockPrimitive.{BlockPrimitive}
use Rattle.st_model.specs.declared.primitive.BlockPrimitive.TheVariants as named
use Rattle.st_model.specs.Values.{Value}
use Rattle.st_model.specs.Objects.{Object}
use Rattle.st_model.specs.Blocks.{check_context, home_of_block, fill_block, new_block, primitive_block_copy, start_of, enter_block, value_with_words, value_if_any, primitive_value, Passing, passing, value_with_fields, value_with_if_any, primitive_value_with, blocks}
use Rattle.st_simulation.proofs.Present.{bare, full, answer_itself-sure, There, SureValue, SureAnswer}
use Rattle.st_simulation.proofs.PresentSteps.{parts, home_of-sure, switch-sure, primitive_value-sure, check_class-sure, positive_small-sure}

module _ (o : Object) (lives : ℕ → Type 0) where
  check_context-sure : (n : ℕ) (v : Value) → There o lives n v → SureAnswer o lives n (check_context bare v) (check_context (full o) v)
  unfolding check_context
  check_context-sure n v h0 = search parts depth 24 fits 4000

  home_of_block-sure : (n : ℕ) (r a : Value) → There o lives n r → There o lives n a → SureValue o lives n (home_of_block bare r a) (home_of_block (full o) r a)
  unfolding home_of_block
  home_of_block-sure n r a h0 h1 = search (parts, check_context-sure, positive_small-sure, home_of-sure) depth 32 fits 4000

  start_of-sure : (n : ℕ) (v : Value) (i : ℕ) → There o lives n v → SureAnswer o lives n (start_of bare v i) (start_of (full o) v i)
  unfolding start_of
  start_of-sure n v i h0 = search (parts, check_class-sure, positive_small-sure) depth 32 fits 4000

  passing-sure : (n : ℕ) (v x : Value) → There o lives n v → There o lives n x → SureAnswer o lives n (passing bare v x) (passing (full o) v x)
  unfolding passing
  passing-sure n v x h0 h1 = search (parts, check_class-sure, start_of-sure) depth 24 fits 4000

  enter_block-sure : (n : ℕ) (v : Value) (i : ℕ) (first : ℤ) → There o lives n v → SureAnswer o lives n (enter_block bare v i first) (enter_block (full o) v i first)
  unfolding enter_block
  enter_block-sure n v i first h0 = search (parts, switch-sure) depth 24 fits 4000

  value_with_words-sure : (n : ℕ) (v : Value) (i : ℕ) (first : ℤ) → There o lives n v → SureAnswer o lives n (value_with_words bare v i first) (value_with_words (full o) v i first)
  unfolding value_with_words
  value_with_words-sure n v i first h0 = search (parts, enter_block-sure) depth 24 fits 4000

  value_if_any-sure : (n : ℕ) (v : Value) (i : ℕ) (x : Option ℤ) → There o lives n v → SureAnswer o lives n (value_if_any bare v i x) (value_if_any (full o) v i x)
  unfolding value_if_any
  value_if_any-sure n v i None h0 = answer_itself-sure o lives n _
  value_if_any-sure n v i (Some first) h0 = value_with_words-sure n v i first h0

  value_with_fields-sure : (n : ℕ) (v x : Value) (p : Passing) → There o lives n v → There o lives n x → SureAnswer o lives n (value_with_fields bare v x p) (value_with_fields (full o) v x p)
  unfolding value_with_fields
  value_with_fields-sure n v x p h0 h1 = search (parts, enter_block-sure) depth 24 fits 4000

  value_with_if_any-sure : (n : ℕ) (v x : Value) (p : Option Passing) → There o lives n v → There o lives n x → SureAnswer o lives n (value_with_if_any bare v x p) (value_with_if_any (full o) v x p)
  unfolding value_with_if_any
  value_with_if_any-sure n v x None h0 h1 = answer_itself-sure o lives n _
  value_with_if_any-sure n v x (Some p) h0 h1 = value_with_fields-sure n v x p h0 h1

  fill_block-sure : (n : ℕ) (v x a : Value) → There o lives n v → There o lives n x → There o lives n a → SureAnswer o lives n (fill_block bare v x a) (fill_block (full o) v x a)
  unfolding fill_block
  fill_block-sure n v x a h0 h1 h2 = search parts depth 24 fits 4000

  new_block-sure : (n : ℕ) (x a : Value) → There o lives n x → There o lives n a → SureValue o lives n (new_block bare x a) (new_block (full o) x a)
  unfolding new_block
  new_block-sure n x a h0 h1 = search (parts, fill_block-sure) depth 24 fits 4000

  pub block_copy-sure : (n : ℕ) → SureAnswer o lives n (primitive_block_copy bare) (primitive_block_copy (full o))
  unfolding primitive_block_copy
  block_copy-sure n = search (parts, primitive_value-sure, home_of_block-sure, new_block-sure) depth 32 fits 4000

  pub value-sure : (n i : ℕ) → SureAnswer o lives n (primitive_value bare i) (primitive_value (full o) i)
  unfolding primitive_value
  value-sure n i = search (parts, start_of-sure, value_if_any-sure) depth 24 fits 4000

  value_with-sure : (n : ℕ) → SureAnswer o lives n (primitive_value_with bare) (primitive_value_with (full o))
  unfolding primitive_value_with
  value_with-sure n = search (parts, passing-sure, value_with_if_any-sure) depth 24 fits 4000

  pub blocks-sure : (n i : ℕ) (p : BlockPrimitive) → SureAnswer o lives n (blocks bare i p) (blocks (full o) i p)
  unfolding blocks
  blocks-sure n i named.BlockCopy = block_copy-sure n
  blocks-sure n i named.Value = value-sure n i
  blocks-sure n i named.ValueWith = value_with-sure n
