use Rattle.std.proofs.Common.{arith}
use Rattle.st_model.proofs.Runs.{runs}
use Rattle.st_memory.proofs.Sizes.{kinds}
use Rattle.st_model.specs.Steps.{fetch_kind}
use Rattle.st_memory.proofs.live.AnyObjects.fetch_kind.Goals as goal

pub returns-in_err-object : goal.returns-in_err-object
unfolding fetch_kind
returns-in_err-object g c = grind (arith, runs, kinds)

pub returns : goal.returns
unfolding fetch_kind
returns g c = grind (arith, runs, kinds)
