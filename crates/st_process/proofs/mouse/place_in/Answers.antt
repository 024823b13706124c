use Rattle.std.proofs.Common.{arith}
use Rattle.st_frames.proofs.Doing.{rows}
use Rattle.st_model.specs.Input.{place_in}
use Rattle.st_process.proofs.mouse.place_in.Goals as goal

pub returns-in_err-first : goal.returns-in_err-first
unfolding place_in
returns-in_err-first g c = grind (arith, rows)

pub returns-in_err-x : goal.returns-in_err-x
unfolding place_in
returns-in_err-x g c = grind (arith, rows)

pub returns-in_err-second : goal.returns-in_err-second
unfolding place_in
returns-in_err-second g c = grind (arith, rows)

pub returns-in_err-y : goal.returns-in_err-y
unfolding place_in
returns-in_err-y g c = grind (arith, rows)

pub returns : goal.returns
unfolding place_in
returns g c = grind (arith, rows)
