use Rattle.std.proofs.Common.{◌≡◌, ◌∙◌, rules, Err, refl}
use Rattle.st_model.specs.Processes.{resume, let_wait}
use Rattle.st_frames.proofs.Doing.{row-memory}
use Rattle.st_frames.proofs.Leaves.{leaves-died}
use Rattle.st_process.proofs.Chained.{dies, goes, first-dies, first-goes}
use Rattle.st_process.proofs.Numbering.{passed-is, passed-greater, passed-not}
use Rattle.st_process.proofs.ready.resume.Goals as goal

pub returns-in_err-priority-clause-does : goal.returns-in_err-priority-clause-does
unfolding resume
returns-in_err-priority-clause-does g c =
    let e : c.from_residual.result ≡ Err c.in_err-priority.field-0.0 = search rules in
    leaves-died _ _ _ _ _ _ _ _ _ _ e refl (dies _ _ _ _ (c.in_err-priority.ensures.integer _ (row-memory _ _ _)))

pub returns-in_err-active-clause-does : goal.returns-in_err-active-clause-does
unfolding resume
returns-in_err-active-clause-does g c =
    let e : c.from_residual-in_err-active.result ≡ Err c.in_err-active.field-0.0 = search rules in
    leaves-died _ _ _ _ _ _ _ _ _ _ e refl (goes _ _ _ _ _ _ (c.in_ok-priority.ensures.integer _ (row-memory _ _ _)) (dies _ _ _ _ c.in_err-active.ensures))

pub returns-in_err-other-clause-does : goal.returns-in_err-other-clause-does
unfolding resume
returns-in_err-other-clause-does g c =
    let e : c.from_residual-in_err-other.result ≡ Err c.in_err-other.field-0.0 = search rules in
    leaves-died _ _ _ _ _ _ _ _ _ _ e refl
    (goes _ _ _ _ _ _ (c.in_ok-priority.ensures.integer _ (row-memory _ _ _)) (goes _ _ _ _ _ _ c.in_ok-active.ensures (dies _ _ _ _ (c.in_err-other.ensures.integer _ (row-memory _ _ _)))))

pub returns-in_err-sleep-clause-does : goal.returns-in_err-sleep-clause-does
unfolding resume
returns-in_err-sleep-clause-does g c =
    let e : c.from_residual-in_err-sleep.result ≡ Err c.in_err-sleep.field-0.0 = search rules in
    leaves-died _ _ _ _ _ _ _ _ _ _ e refl
    (goes _ _ _ _ _ _ (c.in_ok-priority.ensures.integer _ (row-memory _ _ _)) (goes _ _ _ _ _ _ c.in_ok-active.ensures (goes _ _ _ _ _ _ (c.in_ok-other.ensures.integer _ (row-memory _ _ _))
    (passed-greater _ _ _ _ _ _ (passed-is c.in_ok-other.other c.in_ok-other.ensures.low c.in_ok-other.ensures.high) (passed-is c.in_ok-priority.priority c.in_ok-priority.ensures.low c.in_ok-priority.ensures.high) c.if-other-priority.true ∙ first-dies _ _ _ _ c.in_err-sleep.ensures.does.does))))

pub returns-in_err-sleep-2-clause-does : goal.returns-in_err-sleep-2-clause-does
unfolding resume
returns-in_err-sleep-2-clause-does g c =
    let e : c.from_residual-in_err-sleep-2.result ≡ Err c.in_err-sleep-2.field-0.0 = search rules in
    leaves-died _ _ _ _ _ _ _ _ _ _ e refl
    (goes _ _ _ _ _ _ (c.in_ok-priority.ensures.integer _ (row-memory _ _ _)) (goes _ _ _ _ _ _ c.in_ok-active.ensures (goes _ _ _ _ _ _ (c.in_ok-other.ensures.integer _ (row-memory _ _ _))
    (passed-not _ _ _ _ _ _ (passed-is c.in_ok-other.other c.in_ok-other.ensures.low c.in_ok-other.ensures.high) (passed-is c.in_ok-priority.priority c.in_ok-priority.ensures.low c.in_ok-priority.ensures.high) c.if-other-priority.false ∙ c.in_err-sleep-2.ensures.does.does))))

pub returns-in_ok-sleep-clause-does : goal.returns-in_ok-sleep-clause-does
unfolding resume let_wait
returns-in_ok-sleep-clause-does g c = record {
  does =
      goes _ _ _ _ _ _ (c.in_ok-priority.ensures.integer _ (row-memory _ _ _)) (goes _ _ _ _ _ _ c.in_ok-active.ensures (goes _ _ _ _ _ _ (c.in_ok-other.ensures.integer _ (row-memory _ _ _))
      (passed-greater _ _ _ _ _ _ (passed-is c.in_ok-other.other c.in_ok-other.ensures.low c.in_ok-other.ensures.high) (passed-is c.in_ok-priority.priority c.in_ok-priority.ensures.low c.in_ok-priority.ensures.high) c.if-other-priority.true ∙ first-goes _ _ _ _ _ _ c.in_ok-sleep.ensures.does.does c.hold.ensures.does.does)));
  world = refl;
}

pub returns-in_ok-sleep-2-clause-does : goal.returns-in_ok-sleep-2-clause-does
unfolding resume
returns-in_ok-sleep-2-clause-does g c = record {
  does =
      goes _ _ _ _ _ _ (c.in_ok-priority.ensures.integer _ (row-memory _ _ _)) (goes _ _ _ _ _ _ c.in_ok-active.ensures (goes _ _ _ _ _ _ (c.in_ok-other.ensures.integer _ (row-memory _ _ _))
      (passed-not _ _ _ _ _ _ (passed-is c.in_ok-other.other c.in_ok-other.ensures.low c.in_ok-other.ensures.high) (passed-is c.in_ok-priority.priority c.in_ok-priority.ensures.low c.in_ok-priority.ensures.high) c.if-other-priority.false ∙ c.in_ok-sleep-2.ensures.does.does)));
  world = refl;
}
