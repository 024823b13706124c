use Rattle.std.proofs.Common.{ap, ◌∙◌, ◌*◌}
use Rattle.st_model.specs.Values.{Ref}
use Rattle.st_first_objects.proofs.Places.{value_of_nil, place_found, place_absent}
use Rattle.st_first_objects.proofs.placing.pointer.Goals as goal

pub returns-in-Some-clause-value : goal.returns-in-Some-clause-value
returns-in-Some-clause-value c = c.pointer_at.ensures.value ∙ ap Ref (place_found _ _ c.in-Some.i c.in-Some.ensures.found)

pub returns-in-Some-clause-half : goal.returns-in-Some-clause-half
returns-in-Some-clause-half c = c.pointer_at.ensures.half ∙ ap (λ n. 2 * n) (place_found _ _ c.in-Some.i c.in-Some.ensures.found)

pub returns-in-None-clause-value : goal.returns-in-None-clause-value
returns-in-None-clause-value c = value_of_nil ∙ ap Ref (place_absent _ _ c.in-None.ensures.found)

pub returns-in-None-clause-half : goal.returns-in-None-clause-half
returns-in-None-clause-half c = ap (λ n. 2 * n) (place_absent _ _ c.in-None.ensures.found)
