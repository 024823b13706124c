use Rattle.std.proofs.Common.{arith}
use Rattle.st_frames.proofs.Doing.{pages}
use Rattle.st_frames.proofs.fetching.page.Goals as goal

pub returns-clause-page : goal.returns-clause-page
returns-clause-page g c = grind (arith, pages)
