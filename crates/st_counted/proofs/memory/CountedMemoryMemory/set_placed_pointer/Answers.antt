use Rattle.std.proofs.Common.{arith}
use Rattle.st_model.specs.Values.{value}
use Rattle.st_counted.proofs.Kept.{kept_field}
use Rattle.st_counted.proofs.Placed.{all_stand}
use Rattle.st_counted.proofs.memory.CountedMemoryMemory.set_placed_pointer.Goals as goal

pub invariant_of-self : goal.invariant_of-self
invariant_of-self c =
    let r = c.requires in let e = c.set_placed_pointer.ensures in kept_field c.args.self.now c.set_placed_pointer.new.self (value c.args.o) c.args.at c.args.v r.live r.known r.header (omega arith) e.objects e.held e.head e.room e.counted e.listed

pub returns-clause-places : goal.returns-clause-places
returns-clause-places c = all_stand c.args.self.now.contents.objects c.set_placed_pointer.new.self.objects c.set_placed_pointer.ensures.places
