use Rattle.st_machine.proofs.Once.{prepares_once, cycle_goes_on, cycle_dies, run_goes_on, count_goes_on}
use Rattle.st_machine.proofs.preparing.prepared_goes_on.Goals as goal

pub returns : goal.returns
returns c = record { once = prepares_once; cycle = cycle_goes_on; dies = cycle_dies; run = run_goes_on; count = count_goes_on }
