use Rattle.st_heap.proofs.Living.{live_stored}
use Rattle.st_heap.specs.inside.Stores.{stored_of}
use Rattle.st_heap.proofs.objects.HeapObjects.next.Goals as goal

pub next-requires : goal.next-requires
next-requires c = live_stored (stored_of c.args.self.now.store) c.args.o c.requires
