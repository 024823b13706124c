use Rattle.std.proofs.Common.{arith}
use Rattle.st_model.proofs.Runs.{runs}
use Rattle.st_memory.proofs.Wide.{bounded, run_set_gone}
use Rattle.st_model.specs.Steps.{store_field}
use Rattle.st_memory.proofs.stores.store_live_field.Goals as goal

pub returns-in_err-object-clause-stores : goal.returns-in_err-object-clause-stores
unfolding store_field
returns-in_err-object-clause-stores g c = grind (arith, runs, bounded, run_set_gone)

pub returns-then-not-is_pointers-clause-stores : goal.returns-then-not-is_pointers-clause-stores
unfolding store_field
returns-then-not-is_pointers-clause-stores g c = grind (arith, runs, bounded, run_set_gone)

pub returns-then-i-size-clause-stores : goal.returns-then-i-size-clause-stores
unfolding store_field
returns-then-i-size-clause-stores g c = grind (arith, runs, bounded, run_set_gone)

pub returns-in-None-clause-stores : goal.returns-in-None-clause-stores
unfolding store_field
returns-in-None-clause-stores g c = grind (arith, runs, bounded, run_set_gone)

pub returns-in-Some-clause-stores : goal.returns-in-Some-clause-stores
unfolding store_field
returns-in-Some-clause-stores g c = grind (arith, runs, bounded, run_set_gone)
