use Rattle.st_model.specs.Values.{word}
use Rattle.st_bitblt.proofs.Words.{live_there}
use Rattle.st_bitblt.proofs.paint.object_with_words.Goals as goal

pub returns-in-None : goal.returns-in-None
returns-in-None g c =
    let there = live_there (g.M.Memory.view c.args.m.now).objects (word c.args.bits) c.requires.live in
    let gone = c.in-None.ensures.gone in
    cc
