use Rattle.st_decompile.proofs.Locating.{front_is}
use Rattle.st_decompile.proofs.located.front.Goals as goal

pub returns : goal.returns
returns c = front_is c.args.distance c.count_within-count.result c.args.steps.now c.count_within-count.ensures.within c.requires
