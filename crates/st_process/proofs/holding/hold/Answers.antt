use Rattle.std.proofs.Common.{◌∙◌, sym, refl}
use Rattle.st_frames.proofs.Doing.{row-memory}
use Rattle.st_process.proofs.Changing.{hold-left, hold-gone}
use Rattle.st_process.proofs.holding.hold.Goals as goal

pub returns-then-is_there-clause-does : goal.returns-then-is_there-clause-does
returns-then-is_there-clause-does g c = record {
  does = hold-left g.O.Objects.names g.met.O.Objects.tabular _ _ (row-memory _ _ _) _ _ (sym c.is_there.ensures ∙ c.if-is_there.true);
  world = refl;
}

pub returns-else-is_there-clause-does : goal.returns-else-is_there-clause-does
returns-else-is_there-clause-does g c = record {
  does = hold-gone g.O.Objects.names g.met.O.Objects.tabular _ _ (row-memory _ _ _) _ _ (sym c.is_there.ensures ∙ c.if-is_there.false);
  world = refl;
}
