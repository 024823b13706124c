use Rattle.std.proofs.Common.{arith}
use Rattle.std.proofs.lemmas.Grind.{common_steps}
use Rattle.st_model.proofs.Words.{literals_of-value_of}
use Rattle.st_model.proofs.header.literals.Goals as goal

pub returns-clause-count : goal.returns-clause-count
returns-clause-count c = rw (literals_of-value_of c.args.header.0) (grind (arith, common_steps))
