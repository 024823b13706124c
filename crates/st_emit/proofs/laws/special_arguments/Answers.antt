use Rattle.st_emit.proofs.SpecialSelectors.{special-arguments}
use Rattle.st_emit.proofs.laws.special_arguments.Goals as goal

pub returns : goal.returns
returns c = special-arguments
