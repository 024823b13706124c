use Rattle.std.proofs.Common.{sym, ap, ◌∙◌}
use Rattle.st_model.specs.Objects.{Object}
use Rattle.st_heap.proofs.Living.{live_stored, known}
use Rattle.st_heap.specs.inside.Stores.{stored_of}
use Rattle.st_heap.proofs.objects.HeapObjects.kind.Goals as goal

pub kind-requires : goal.kind-requires
kind-requires c = live_stored (stored_of c.args.self.now.store) c.args.o c.requires

pub returns : goal.returns
returns c =
    let k = known (stored_of c.args.self.now.store) c.args.o c.args.self.now.sound c.requires in
    c.kind.ensures ∙ sym (ap (λ (o : Object). o.kind) k.is)
