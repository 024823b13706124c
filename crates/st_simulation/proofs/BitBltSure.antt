-- 96, which copies bits, meets no name without an object.
use Rattle.std.proofs.Common.{ℕ, Bool, true, false}
use Rattle.st_model.specs.Values.{Value}
use Rattle.st_model.specs.Objects.{Object}
use Rattle.st_model.specs.BitBlt.{fetch_words, fetch_positive, read_form, read_unless, read_form_if_any, fetch_form, fetch_destination, fetch_halftone, fetch_rule, fetch_axis, read_copy, store_painted, paint_and_answer, primitive_copy_bits}
use Rattle.st_simulation.proofs.Present.{bare, full, There, SureAnswer}
use Rattle.st_simulation.proofs.PresentSteps.{sures, parts, primitive-sure, positive_small-sure}

module _ (o : Object) (lives : ℕ → Type 0) where
  read_form-sure : (n : ℕ) (v : Value) → There o lives n v → SureAnswer o lives n (read_form bare v) (read_form (full o) v)
  unfolding read_form fetch_words fetch_positive
  read_form-sure n v h0 = search (parts, positive_small-sure) depth 32 fits 4000

  read_unless-sure : (n : ℕ) (v : Value) (b : Bool) → There o lives n v → SureAnswer o lives n (read_unless bare v b) (read_unless (full o) v b)
  unfolding read_unless
  read_unless-sure n v true h0 = search sures depth 24 fits 4000
  read_unless-sure n v false h0 = search (sures, read_form-sure) depth 24 fits 4000

  read_copy-sure : (n : ℕ) (v : Value) → There o lives n v → SureAnswer o lives n (read_copy bare v) (read_copy (full o) v)
  unfolding read_copy fetch_destination fetch_form read_form_if_any fetch_halftone fetch_rule fetch_positive fetch_axis
  read_copy-sure n v h0 = search (parts, read_form-sure, read_unless-sure, positive_small-sure) depth 60 fits 9000

  pub copy_bits-sure : (n : ℕ) → SureAnswer o lives n (primitive_copy_bits bare) (primitive_copy_bits (full o))
  unfolding primitive_copy_bits paint_and_answer store_painted
  copy_bits-sure n = search (parts, primitive-sure, read_copy-sure) depth 32 fits 4000
