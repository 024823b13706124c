use Rattle.std.proofs.Common.{arith}
use Rattle.st_model.proofs.Runs.{runs, tests}
use Rattle.st_memory.proofs.Wide.{bounded}
use Rattle.st_model.specs.Steps.{fetch_byte}
use Rattle.st_memory.proofs.live.AnyObjects.fetch_byte.Goals as goal

pub returns-in_err-object : goal.returns-in_err-object
unfolding fetch_byte
returns-in_err-object g c = grind (arith, runs, tests, bounded)

pub returns-then-not-has_bytes : goal.returns-then-not-has_bytes
unfolding fetch_byte
returns-then-not-has_bytes g c = grind (arith, runs, tests, bounded)

pub returns-then-i-first_unit : goal.returns-then-i-first_unit
unfolding fetch_byte
returns-then-i-first_unit g c = grind (arith, runs, tests, bounded)

pub returns-then-i-size : goal.returns-then-i-size
unfolding fetch_byte
returns-then-i-size g c = grind (arith, runs, tests, bounded)

pub returns-else-i-size : goal.returns-else-i-size
unfolding fetch_byte
returns-else-i-size g c = grind (arith, runs, tests, bounded)
