use Rattle.std.proofs.Common.{arith}
use Rattle.st_model.proofs.CodeTable.{code_at, code_numbered}
use Rattle.st_model.proofs.bytecode.decode.Goals as goal

pub returns-clause-code : goal.returns-clause-code
returns-clause-code c = code_at c.args.byte _ (omega arith)

pub returns-clause-numbered : goal.returns-clause-numbered
returns-clause-numbered c = code_numbered c.args.byte _ (omega arith)
