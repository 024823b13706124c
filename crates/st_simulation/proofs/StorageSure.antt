-- The primitives on objects, of which one is done by its number, meet no name without an object.
use Rattle.std.proofs.Common.{ℕ}
use Rattle.st_model.specs.declared.primitive.StoragePrimitive.{StoragePrimitive}
use Rattle.st_model.specs.declared.primitive.StoragePrimitive.TheVariants as named
use Rattle.st_model.specs.Objects.{Object}
use Rattle.st_model.specs.Storage.{storage}
use Rattle.st_simulation.proofs.Present.{bare, full, SureAnswer}
use Rattle.st_simulation.proofs.PresentSteps.{sures, primitive_at-sure, primitive_at_put-sure, primitive_size-sure, primitive_string_at-sure, primitive_string_at_put-sure, primitive_next-sure, primitive_next_put-sure, primitive_at_end-sure, primitive_object_at-sure, primitive_object_at_put-sure, primitive_new-sure, primitive_new_with-sure, primitive_become-sure, primitive_instance_variable_at-sure, primitive_instance_variable_at_put-sure, primitive_as_oop-sure, primitive_as_object-sure, primitive_some_instance-sure, primitive_next_instance-sure, primitive_new_method-sure, primitive_replace-sure, primitive_core_left-sure, primitive_oops_left-sure}
use Rattle.st_simulation.proofs.BitBltSure.{copy_bits-sure}

module _ (o : Object) (lives : ℕ → Type 0) where
  ruleset primitives_on_objects = (sures, copy_bits-sure, primitive_at_put-sure, primitive_size-sure, primitive_string_at-sure, primitive_string_at_put-sure, primitive_next-sure, primitive_next_put-sure, primitive_at_end-sure, primitive_object_at-sure, primitive_object_at_put-sure, primitive_new-sure, primitive_new_with-sure, primitive_become-sure, primitive_instance_variable_at-sure, primitive_instance_variable_at_put-sure, primitive_as_oop-sure, primitive_as_object-sure, primitive_some_instance-sure, primitive_next_instance-sure, primitive_new_method-sure, primitive_replace-sure, primitive_core_left-sure, primitive_oops_left-sure)

  pub storage-sure : (n : ℕ) (p : StoragePrimitive) → SureAnswer o lives n (storage bare p) (storage (full o) p)
  unfolding storage
  storage-sure n named.At = primitive_at-sure o lives n
  storage-sure n p = search primitives_on_objects depth 32 fits 4000
