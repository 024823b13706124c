use Rattle.std.proofs.Common.{arith, refl}
use Rattle.std.proofs.lemmas.Int.{ints}
use Rattle.st_frames.specs.inside.Rows.{row_state}
use Rattle.st_frames.proofs.Doing.{jump-went}
use Rattle.st_frames.proofs.stack.jump.Goals as goal

pub returns : goal.returns
unfolding row_state
returns g c = record {
  does = record {
    does = jump-went (g.O.Objects.table c.args.m.now) (g.O.Objects.head c.args.m.now) c.args.r.now c.args.d _ (omega (arith, ints)) (omega (arith, ints)) (omega (arith, ints));
    world = refl;
  };
}
