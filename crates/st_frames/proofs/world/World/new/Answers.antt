use Rattle.std.proofs.Common.{refl}
use Rattle.st_model.specs.Values.{value_of}
use Rattle.st_frames.proofs.world.World.new.Goals as goal

pub returns : goal.returns
unfolding value_of
returns c = let w = c.in_ok-waiting.ensures in let p = c.in_ok-pending.ensures in rw (w, p) refl
