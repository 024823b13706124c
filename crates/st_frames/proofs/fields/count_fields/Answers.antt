use Rattle.std.proofs.Common.{arith}
use Rattle.st_model.proofs.Runs.{runs}
use Rattle.st_model.specs.Steps.{count_fields}
use Rattle.st_frames.proofs.fields.count_fields.Goals as goal

pub returns-then-is_small-clause-count : goal.returns-then-is_small-clause-count
unfolding count_fields
returns-then-is_small-clause-count g c = grind (arith, runs)
