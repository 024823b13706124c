use Rattle.std.proofs.Common.{◌∙◌, sym, refl}
use Rattle.st_frames.proofs.Doing.{row-memory}
use Rattle.st_process.proofs.Changing.{low-left, low-gone}
use Rattle.st_process.proofs.low_space.set_low_space.Goals as goal

pub returns-then-not-is_there-clause-does : goal.returns-then-not-is_there-clause-does
returns-then-not-is_there-clause-does g c = record {
  does = low-gone g.O.Objects.names g.met.O.Objects.tabular _ _ (row-memory _ _ _) _ c.args.low _ (sym c.is_there.ensures ∙ c.if-not-is_there.true);
  world = refl;
}

pub returns-clause-does : goal.returns-clause-does
returns-clause-does g c = record {
  does = low-left g.O.Objects.names g.met.O.Objects.tabular _ _ (row-memory _ _ _) _ c.args.low _ (sym c.is_there.ensures ∙ c.if-not-is_there.false);
  world = refl;
}
