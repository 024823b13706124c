use Rattle.st_image.proofs.FaultOrder.{well_formed, no_fault}
use Rattle.st_image.proofs.laws.no_fault_is_well_formed.Goals as goal

pub returns-clause-without : goal.returns-clause-without
returns-clause-without c = well_formed

pub returns-clause-within : goal.returns-clause-within
returns-clause-within c = no_fault
