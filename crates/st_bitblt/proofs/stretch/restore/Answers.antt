use Rattle.st_bitblt.proofs.Stretches.{word_restored}
use Rattle.st_bitblt.proofs.stretch.restore.Goals as goal

pub returns : goal.returns
returns c =
    word_restored c.args.dest.now c.args.at c.args.old c.masked.result c.args.first c.args.n c.requires.within c.requires.some
    c.masked.ensures.inside c.masked.ensures.below c.masked.ensures.above
