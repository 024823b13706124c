use Rattle.std.proofs.Common.{arith}
use Rattle.st_model.specs.Values.{value}
use Rattle.st_model.specs.View.{object_of}
use Rattle.st_counted.specs.inside.Counted.{counted_view}
use Rattle.st_counted.proofs.Kept.{filled_unit}
use Rattle.st_counted.proofs.Sizes.{units_within}
use Rattle.st_counted.proofs.Units.{word_fits}
use Rattle.st_counted.proofs.loader.CountedLoaderLoader.set_word.Goals as goal

pub set_word-requires-clause-range : goal.set_word-requires-clause-range
set_word-requires-clause-range c = units_within (object_of (counted_view c.args.self.now.contents).objects (value c.args.o)) c.args.at c.requires.kind c.requires.range

pub invariant_of-self : goal.invariant_of-self
invariant_of-self c =
    let small = word_fits (object_of (counted_view c.args.self.now.contents).objects (value c.args.o)) c.args.v c.requires.kind (omega arith) in
    let e = c.set_word.ensures in filled_unit c.args.self.now c.set_word.new.self (value c.args.o) c.args.at c.args.v c.requires.live small e.objects e.room
