use Rattle.std.proofs.Common.{arith}
use Rattle.st_model.specs.Values.{value}
use Rattle.st_plain.proofs.Filled.{filled_field}
use Rattle.st_plain.proofs.loader.PlainLoaderLoader.set_pointer.Goals as goal

pub invariant_of-self : goal.invariant_of-self
invariant_of-self c =
    let e = c.set_field.ensures in filled_field c.args.self.now c.set_field.new.self (value c.args.o) c.args.at c.args.v c.requires.live c.requires.header (omega arith) e.objects e.extent
