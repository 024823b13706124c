use Rattle.std.proofs.Common.{arith}
use Rattle.std.proofs.lemmas.Grind.{common_steps}
use Rattle.st_model.specs.Values.{value}
use Rattle.st_model.specs.View.{object_of}
use Rattle.st_counted.proofs.Units.{byte_fits}
use Rattle.st_plain.specs.inside.Plain.{plain_view}
use Rattle.st_plain.proofs.Filled.{filled_unit}
use Rattle.st_plain.proofs.loader.PlainLoaderLoader.set_byte.Goals as goal

pub invariant_of-self : goal.invariant_of-self
invariant_of-self c =
    let small = byte_fits (object_of (plain_view c.args.self.now.contents).objects (value c.args.o)) c.from.result c.requires.kind (grind (arith, common_steps)) in
    let e = c.set_unit.ensures in filled_unit c.args.self.now c.set_unit.new.self (value c.args.o) _ c.from.result c.requires.live small e.objects e.extent
