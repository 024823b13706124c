use Rattle.std.proofs.Common.{◌≡◌, rules, Err, arith}
use Rattle.std.specs.Int.{w32}
use Rattle.std.proofs.lemmas.Int.{to_z-of_z}
use Rattle.st_frames.proofs.Leaves.{leaves-died, left}
use Rattle.st_process.proofs.ProcessTries.{waited-died}
use Rattle.st_frames.proofs.Doing.{rows}
use Rattle.st_frames.specs.inside.Answering.{succeed_by}
use Rattle.st_model.specs.Processes.{wait_and_answer}
use Rattle.st_process.proofs.processes.answer_wait.Goals as goal

pub returns-in_err-deed-clause-does : goal.returns-in_err-deed-clause-does
returns-in_err-deed-clause-does g c =
    let e : c.from_residual.result ≡ Err c.in_err-deed.field-0.0 = search rules in
    leaves-died _ _ _ _ _ _ _ _ _ _ e c.in_err-deed.ensures.does.world (waited-died g.O.Objects.names _ _ _ _ _ (to_z-of_z w32 c.args.excess c.ranges.excess) c.in_err-deed.ensures.does.does)

pub returns-clause-does : goal.returns-clause-does
unfolding succeed_by wait_and_answer
returns-clause-does g c = grind (arith, rows, left)
