use Rattle.st_heap.proofs.Living.{live_stored}
use Rattle.st_heap.specs.inside.Stores.{stored_of}
use Rattle.st_heap.proofs.objects.HeapObjects.before.Goals as goal

pub before-requires : goal.before-requires
before-requires c = live_stored (stored_of c.args.self.now.store) c.args.o c.requires
