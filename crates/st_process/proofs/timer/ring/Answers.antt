use Rattle.std.proofs.Common.{◌∙◌, sym, ap, refl}
use Rattle.st_model.specs.Machine.{is_there}
use Rattle.st_frames.specs.inside.Rows.{row_state}
use Rattle.st_frames.proofs.Doing.{row-memory}
use Rattle.st_process.proofs.Timers.{ring-left, ring-gone, ring-without}
use Rattle.st_process.proofs.timer.ring.Goals as goal

pub returns-then-not-is_there-clause-does : goal.returns-then-not-is_there-clause-does
returns-then-not-is_there-clause-does g c = record {
  does = ring-gone g.O.Objects.names g.met.O.Objects.tabular _ _ (row-memory _ _ _) _ (sym c.is_there.ensures ∙ c.if-not-is_there.true);
  world = refl;
}

pub returns-then-not-is_there-2-clause-does : goal.returns-then-not-is_there-2-clause-does
returns-then-not-is_there-2-clause-does g c =
    let nil = ap (is_there g.O.Objects.names (g.O.Objects.table c.args.m.now)) (sym c.page.ensures.word) ∙ (sym c.is_there-2.ensures ∙ c.if-not-is_there-2.true) in
    record {
      does = ring-without g.O.Objects.names g.met.O.Objects.tabular _ _ (row-memory _ _ _) _ (sym c.is_there.ensures ∙ c.if-not-is_there.false) nil;
      world = refl;
    }

pub returns-clause-does : goal.returns-clause-does
unfolding row_state
returns-clause-does g c =
    let nil = ap (is_there g.O.Objects.names (g.O.Objects.table c.args.m.now)) (sym c.page.ensures.word) ∙ (sym c.is_there-2.ensures ∙ c.if-not-is_there-2.false) in
    record {
      does = ring-left g.O.Objects.names g.met.O.Objects.tabular _ _ (row-memory (g.O.Objects.table c.args.m.now) (g.O.Objects.head c.args.m.now) c.args.r.now) _ (sym c.is_there.ensures ∙ c.if-not-is_there.false) nil c.requires.room;
      world = refl;
    }
