use Rattle.std.proofs.Common.{arith}
use Rattle.st_model.specs.Values.{value}
use Rattle.st_model.specs.View.{object_of}
use Rattle.st_counted.specs.inside.Counted.{counted_view}
use Rattle.st_counted.proofs.Kept.{kept_unit}
use Rattle.st_counted.proofs.Units.{word_fits}
use Rattle.st_counted.proofs.memory.CountedMemoryMemory.set_word.Goals as goal

pub invariant_of-self : goal.invariant_of-self
invariant_of-self c =
    let small = word_fits (object_of (counted_view c.args.self.now.contents).objects (value c.args.o)) c.args.v c.requires.kind (omega arith) in
    let e = c.set_word.ensures in kept_unit c.args.self.now c.set_word.new.self (value c.args.o) c.args.at c.args.v c.requires.live small e.objects e.room e.links
