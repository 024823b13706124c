use Rattle.st_model.specs.Values.{word}
use Rattle.st_lookup.proofs.Seeing.{half_seen}
use Rattle.st_lookup.proofs.reading.WatchedReading.half.Goals as goal

pub returns-then-sees : goal.returns-then-sees
returns-then-sees g c =
    let a = c.args.self.now in
    half_seen a.watch.now.words.items (g.M.Memory.view a.memory.now).objects (word c.args.o) (c.sees.ensures.seen c.if-sees.true) c.half_word.result c.half_word.ensures.half
