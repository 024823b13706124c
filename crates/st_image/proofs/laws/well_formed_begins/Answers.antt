use Rattle.st_image.proofs.Begun.{begun}
use Rattle.st_image.proofs.laws.well_formed_begins.Goals as goal

pub returns : goal.returns
returns c = begun
