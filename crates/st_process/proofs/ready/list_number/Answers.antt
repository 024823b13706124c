use Rattle.std.proofs.Common.{arith}
use Rattle.st_process.proofs.Numbering.{numbers}
use Rattle.st_process.proofs.ready.list_number.Goals as goal

pub returns-then-priority-lt1 : goal.returns-then-priority-lt1
returns-then-priority-lt1 c = grind (arith, numbers)

pub returns-else-priority-lt1 : goal.returns-else-priority-lt1
returns-else-priority-lt1 c = grind (arith, numbers)
