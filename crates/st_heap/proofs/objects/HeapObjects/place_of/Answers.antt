use Rattle.st_heap.specs.inside.Stores.{stored_of}
use Rattle.st_heap.proofs.Living.{live_stored}
use Rattle.st_heap.proofs.Placed.{stored_stands}
use Rattle.st_heap.proofs.objects.HeapObjects.place_of.Goals as goal

pub place_of-requires : goal.place_of-requires
place_of-requires c = live_stored (stored_of c.args.self.now.store) c.args.o c.requires

pub returns : goal.returns
returns c =
    let o = c.args.self.now in
    stored_stands o c.args.o c.place_of.result (live_stored (stored_of o.store) c.args.o c.requires) c.place_of.ensures
