use Rattle.st_first_objects.proofs.Lists.{copies}
use Rattle.st_first_objects.proofs.content.empty_fields.Goals as goal

pub returns : goal.returns
returns c = copies _ _ _ (c.in_ok-vec.ensures.items_if_clones_equal (λ y h. h))
