use Rattle.std.proofs.Common.{◌<◌, arith}
use Rattle.std.proofs.lemmas.Grind.{common_steps}
use Rattle.st_model.specs.Values.{value}
use Rattle.st_plain.proofs.Stores.{store_field}
use Rattle.st_plain.proofs.objects.Objects.set_field.Goals as goal

pub returns-clause-objects : goal.returns-clause-objects
returns-clause-objects c =
    let o = c.args.self.now in
    let within : c.args.at < c.live_entry-entry.result.fields = grind (arith, common_steps) in
    store_field o.pointers.items o.units.items o.entries.items (value c.args.o) c.live_entry-entry.result c.args.at c.live_entry-entry.ensures.entry o.laid_out.apart c.args.v within
