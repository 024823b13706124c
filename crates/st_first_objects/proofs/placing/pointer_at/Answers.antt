use Rattle.std.proofs.Common.{arith, ap, ◌∙◌, ◌*◌}
use Rattle.st_model.specs.Values.{Ref}
use Rattle.st_first_objects.proofs.Places.{value_of_half}
use Rattle.st_first_objects.proofs.placing.pointer_at.Goals as goal

pub overflow_mul-result : goal.overflow_mul-result
overflow_mul-result c = let m = c.place.ensures.most in omega arith

pub returns-clause-value : goal.returns-clause-value
returns-clause-value c = value_of_half c.place.result ∙ ap Ref c.place.ensures.is

pub returns-clause-half : goal.returns-clause-half
returns-clause-half c = ap (λ n. 2 * n) c.place.ensures.is
