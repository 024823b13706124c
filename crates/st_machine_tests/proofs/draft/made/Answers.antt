use Rattle.std.proofs.Common.{◌≡◌}
use Rattle.st_model.specs.Values.{Ref, value_of}
use Rattle.st_machine_tests.proofs.draft.made.Goals as goal

other_class : value_of 12 ≡ Ref 17 → ⊥
unfolding value_of
other_class e = cc

pub new_object-requires-clause-class : goal.new_object-requires-clause-class
new_object-requires-clause-class g c = other_class

pub new_object-requires-2-clause-class : goal.new_object-requires-2-clause-class
new_object-requires-2-clause-class g c = other_class
