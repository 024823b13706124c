use Rattle.std.proofs.Common.{rules, ◌≡◌, Err, sym, ◌∙◌}
use Rattle.st_model.specs.Machine.{Went}
use Rattle.st_model.specs.Deeds.{with_deed}
use Rattle.st_frames.proofs.Commuting.{answered-died, answered-left}
use Rattle.st_frames.proofs.Leaves.{follows-died}
use Rattle.st_frames.proofs.answering.succeed_leaving.Goals as goal

pub returns-in_err-answer_with-clause-does : goal.returns-in_err-answer_with-clause-does
returns-in_err-answer_with-clause-does g c =
    let e : c.from_residual.result ≡ Err c.in_err-answer_with.field-0.0 = search rules in
    follows-died _ _ _ _ _ _ _ _ _ _ _ e c.in_err-answer_with.ensures.does.world (answered-died g.O.Objects.names g.met.O.Objects.tabular _ c.requires.plain _ _ _ _ c.in_err-answer_with.ensures.does.does)

pub returns-clause-does : goal.returns-clause-does
returns-clause-does g c =
    let left = c.leave.ensures in
    let answered = c.in_ok-answer_with.ensures.does in
    record {
      does = answered-left g.O.Objects.names g.met.O.Objects.tabular c.args.answer.deed c.requires.plain _ _ _ _ answered.does
          ∙ (λ i. Went (sym left.done i) (with_deed (sym left.deed i) (sym (left.same (g.O.Objects.table c.answer_with.new.m) (g.O.Objects.head c.answer_with.new.m)) i)));
      world = left.world ∙ answered.world;
    }
