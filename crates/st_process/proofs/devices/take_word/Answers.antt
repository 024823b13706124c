use Rattle.std.proofs.Common.{◌≡◌, rules, Err, refl}
use Rattle.st_frames.specs.inside.Rows.{row_state}
use Rattle.st_frames.proofs.Leaves.{leaves-died}
use Rattle.st_process.proofs.Taking.{wide-left, wide-died}
use Rattle.st_process.proofs.devices.take_word.Goals as goal

pub returns-in_err-answer-clause-does : goal.returns-in_err-answer-clause-does
returns-in_err-answer-clause-does g c =
    let e : c.from_residual.result ≡ Err c.in_err-answer.field-0.0 = search rules in
    leaves-died _ _ _ _ _ _ _ _ _ _ e refl (wide-died g.O.Objects.names _ _ _ c.from.ensures c.from-n.ensures _ _ c.in_err-answer.ensures.does.does)

pub returns-clause-does : goal.returns-clause-does
unfolding row_state
returns-clause-does g c = record {
  does = wide-left g.O.Objects.names _ _ _ c.from.ensures c.from-n.ensures _ _ _ _ refl c.in_ok-answer.ensures.deed c.in_ok-answer.ensures.does.does;
  world = refl;
}
