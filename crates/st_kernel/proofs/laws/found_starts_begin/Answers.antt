use Rattle.st_kernel.proofs.Found.{begins, missing}
use Rattle.st_kernel.proofs.laws.found_starts_begin.Goals as goal

pub returns-clause-begins : goal.returns-clause-begins
returns-clause-begins c v s whole has h = begins v s whole has h

pub returns-clause-missing : goal.returns-clause-missing
returns-clause-missing c v s n whole e = missing v s n whole e
