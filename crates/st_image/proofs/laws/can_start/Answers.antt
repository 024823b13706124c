use Rattle.st_image.proofs.Saved.{saved_starts, read_starts}
use Rattle.st_image.proofs.laws.can_start.Goals as goal

pub returns-clause-saved : goal.returns-clause-saved
returns-clause-saved c = saved_starts

pub returns-clause-read : goal.returns-clause-read
returns-clause-read c = read_starts
