use Rattle.std.proofs.Common.{arith}
use Rattle.st_frames.proofs.HoldsNamed.{knowns, signals}
use Rattle.st_frames.proofs.naming.add_signal.Goals as goal

pub returns-clause-world : goal.returns-clause-world
returns-clause-world g c = grind (arith, knowns, signals)

pub returns-clause-held : goal.returns-clause-held
returns-clause-held g c = grind (arith, knowns, signals)
