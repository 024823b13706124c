use Rattle.st_image.proofs.FaultOrder.{determined}
use Rattle.st_image.proofs.laws.fault_is_determined.Goals as goal

pub returns : goal.returns
returns c = determined
