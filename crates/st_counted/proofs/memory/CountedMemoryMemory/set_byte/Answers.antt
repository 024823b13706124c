use Rattle.std.proofs.Common.{arith}
use Rattle.st_model.specs.Values.{value}
use Rattle.st_model.specs.View.{object_of}
use Rattle.st_counted.specs.inside.Counted.{counted_view}
use Rattle.st_counted.proofs.Kept.{kept_unit}
use Rattle.st_counted.proofs.Units.{byte_fits}
use Rattle.st_counted.proofs.memory.CountedMemoryMemory.set_byte.Goals as goal

pub invariant_of-self : goal.invariant_of-self
invariant_of-self c =
    let small = byte_fits (object_of (counted_view c.args.self.now.contents).objects (value c.args.o)) c.args.v c.requires.kind (omega arith) in
    let e = c.set_byte.ensures in kept_unit c.args.self.now c.set_byte.new.self (value c.args.o) _ c.args.v c.requires.live small e.objects e.room e.links
