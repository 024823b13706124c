use Rattle.std.proofs.Common.{rules, ◌≡◌, true, arith}
use Rattle.st_model.specs.Values.{word}
use Rattle.st_frames.specs.inside.Rows.{row_state}
use Rattle.st_frames.proofs.Doing.{rows}
use Rattle.st_model.specs.Executing.{says, if_done}
use Rattle.st_step.proofs.NumberChanges.{says_done}
use Rattle.st_step.proofs.numbers.says.Goals as goal

pub returns-in_err-receiver-clause-does : goal.returns-in_err-receiver-clause-does
unfolding says if_done
returns-in_err-receiver-clause-does g c = grind (arith, rows)

pub returns-in_err-primitive_say-clause-does : goal.returns-in_err-primitive_say-clause-does
unfolding says if_done
returns-in_err-primitive_say-clause-does g c = grind (arith, rows)

pub returns-then-branch-clause-does : goal.returns-then-branch-clause-does
unfolding row_state
returns-then-branch-clause-does g c =
    let say = c.in_ok-primitive_say in
    let done : say.field-0 ≡ true = search rules in
    record {
      does = says_done g.O.Objects.names (word c.in_ok-receiver.receiver) say.field-0 _ _ done c.in_ok-receiver.ensures.does say.ensures.does.does;
      world = say.ensures.does.world;
    }

pub returns-else-branch-clause-does : goal.returns-else-branch-clause-does
unfolding says if_done
returns-else-branch-clause-does g c = grind (arith, rows)
