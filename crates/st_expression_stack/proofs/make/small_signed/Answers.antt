use Rattle.std.proofs.Common.{arith}
use Rattle.st_expression_stack.proofs.TreeTurns.{small_more}
use Rattle.st_expression_stack.proofs.make.small_signed.Goals as goal

pub returns-else-n-eq0 : goal.returns-else-n-eq0
returns-else-n-eq0 c = small_more c.args.n (omega arith)
