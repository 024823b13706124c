use Rattle.std.proofs.Common.{arith}
use Rattle.st_frames.proofs.Doing.{rows}
use Rattle.st_process.proofs.Highest.{suspends}
use Rattle.st_process.proofs.ready.suspend.Goals as goal

pub returns-in_err-lists-clause-does : goal.returns-in_err-lists-clause-does
returns-in_err-lists-clause-does g c = grind (arith, rows, suspends)

pub returns-in_err-n-clause-does : goal.returns-in_err-n-clause-does
returns-in_err-n-clause-does g c = grind (arith, rows, suspends)

pub returns-in_err-list-clause-does : goal.returns-in_err-list-clause-does
returns-in_err-list-clause-does g c = grind (arith, rows, suspends)

pub returns-clause-does : goal.returns-clause-does
returns-clause-does g c = grind (arith, rows, suspends)
