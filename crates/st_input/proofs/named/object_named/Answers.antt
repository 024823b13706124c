use Rattle.std.proofs.Common.{arith}
use Rattle.st_input.proofs.Done.{named_objects}
use Rattle.st_input.proofs.named.object_named.Goals as goal

pub returns-in_err-found-clause-gone : goal.returns-in_err-found-clause-gone
returns-in_err-found-clause-gone g c = grind (arith, named_objects)

pub returns-then-is_small-clause-gone : goal.returns-then-is_small-clause-gone
returns-then-is_small-clause-gone g c = grind (arith, named_objects)

pub returns-else-is_small-clause-same : goal.returns-else-is_small-clause-same
returns-else-is_small-clause-same g c = grind (arith, named_objects)

pub returns-else-is_small-clause-live : goal.returns-else-is_small-clause-live
returns-else-is_small-clause-live g c = grind (arith, named_objects)
