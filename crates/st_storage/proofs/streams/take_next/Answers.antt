use Rattle.std.proofs.Common.{rules, ◌≡◌, Err, arith}
use Rattle.st_frames.proofs.Doing.{row-memory, rows}
use Rattle.st_storage.proofs.Commuting.{taken-left, taken-died}
use Rattle.st_frames.proofs.Leaves.{leaves-died}
use Rattle.st_model.specs.Storage.{take_next}
use Rattle.st_storage.proofs.streams.take_next.Goals as goal

pub returns-in_err-store_position-clause-does : goal.returns-in_err-store_position-clause-does
returns-in_err-store_position-clause-does g c =
    let e : c.from_residual-in_err-store_position.result ≡ Err c.in_err-store_position.field-0.0 = search rules in
    leaves-died _ _ _ _ _ _ _ _ _ _ e (search rules) (taken-died g.O.Objects.names g.met.O.Objects.tabular _ c.in_ok-answer.ensures.plain _ _ _ _ _ _ _ (c.requires.stands.collection _ (row-memory _ _ _)) c.in_ok-answer.ensures.does.does c.in_err-store_position.ensures.does.does)

pub returns-clause-does : goal.returns-clause-does
returns-clause-does g c = record {
  does = taken-left g.O.Objects.names g.met.O.Objects.tabular _ c.in_ok-answer.ensures.plain _ _ _ _ _ _ _ (c.requires.stands.collection _ (row-memory _ _ _)) c.in_ok-answer.ensures.does.does c.in_ok-store_position.ensures.does.does;
  world = search rules;
}

pub returns-in_err-answer-clause-does : goal.returns-in_err-answer-clause-does
unfolding take_next
returns-in_err-answer-clause-does g c = grind (arith, rows)
