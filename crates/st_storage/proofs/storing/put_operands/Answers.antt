use Rattle.std.proofs.Common.{arith}
use Rattle.st_frames.proofs.Doing.{rows}
use Rattle.st_storage.specs.inside.Storing.{put_operands}
use Rattle.st_storage.proofs.storing.put_operands.Goals as goal

pub returns-in_err-object-clause-does : goal.returns-in_err-object-clause-does
unfolding put_operands
returns-in_err-object-clause-does g c = grind (arith, rows)

pub returns-in_err-object-clause-object : goal.returns-in_err-object-clause-object
unfolding put_operands
returns-in_err-object-clause-object g c = grind (arith, rows)

pub returns-in_err-object-clause-index : goal.returns-in_err-object-clause-index
unfolding put_operands
returns-in_err-object-clause-index g c = grind (arith, rows)

pub returns-in_err-object-clause-value : goal.returns-in_err-object-clause-value
unfolding put_operands
returns-in_err-object-clause-value g c = grind (arith, rows)

pub returns-in_err-index-clause-does : goal.returns-in_err-index-clause-does
unfolding put_operands
returns-in_err-index-clause-does g c = grind (arith, rows)

pub returns-in_err-index-clause-object : goal.returns-in_err-index-clause-object
unfolding put_operands
returns-in_err-index-clause-object g c = grind (arith, rows)

pub returns-in_err-index-clause-index : goal.returns-in_err-index-clause-index
unfolding put_operands
returns-in_err-index-clause-index g c = grind (arith, rows)

pub returns-in_err-index-clause-value : goal.returns-in_err-index-clause-value
unfolding put_operands
returns-in_err-index-clause-value g c = grind (arith, rows)

pub returns-in_err-value-clause-does : goal.returns-in_err-value-clause-does
unfolding put_operands
returns-in_err-value-clause-does g c = grind (arith, rows)

pub returns-in_err-value-clause-object : goal.returns-in_err-value-clause-object
unfolding put_operands
returns-in_err-value-clause-object g c = grind (arith, rows)

pub returns-in_err-value-clause-index : goal.returns-in_err-value-clause-index
unfolding put_operands
returns-in_err-value-clause-index g c = grind (arith, rows)

pub returns-in_err-value-clause-value : goal.returns-in_err-value-clause-value
unfolding put_operands
returns-in_err-value-clause-value g c = grind (arith, rows)

pub returns-clause-does : goal.returns-clause-does
unfolding put_operands
returns-clause-does g c = grind (arith, rows)

pub returns-clause-object : goal.returns-clause-object
unfolding put_operands
returns-clause-object g c = grind (arith, rows)

pub returns-clause-index : goal.returns-clause-index
unfolding put_operands
returns-clause-index g c = grind (arith, rows)

pub returns-clause-value : goal.returns-clause-value
unfolding put_operands
returns-clause-value g c = grind (arith, rows)
