use Rattle.std.proofs.Common.{◌/◌, length, sym, ap, ◌∙◌}
use Rattle.st_model.specs.Objects.{Object}
use Rattle.st_heap.specs.inside.Stored.{stored}
use Rattle.st_heap.proofs.Forming.{length-fields}
use Rattle.st_heap.proofs.Living.{live_stored, known}
use Rattle.st_heap.specs.inside.Stores.{stored_of}
use Rattle.st_heap.proofs.objects.HeapObjects.count_fields.Goals as goal

pub stored_fields-requires : goal.stored_fields-requires
stored_fields-requires c = live_stored (stored_of c.args.self.now.store) c.args.o c.requires

pub returns : goal.returns
returns c =
    let k = known (stored_of c.args.self.now.store) c.args.o c.args.self.now.sound c.requires in
    c.stored_fields.ensures ∙ sym (ap (λ (o : Object). length o.fields) k.is ∙ length-fields (stored (stored_of c.args.self.now.store) (c.args.o.0 / 2)))
