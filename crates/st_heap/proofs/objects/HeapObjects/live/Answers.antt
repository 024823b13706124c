use Rattle.st_heap.proofs.Living.{live_test}
use Rattle.st_heap.specs.inside.Stores.{stored_of}
use Rattle.st_heap.proofs.objects.HeapObjects.live.Goals as goal

pub returns : goal.returns
returns c = live_test (stored_of c.args.self.now.store) c.has.result c.args.o c.has.ensures
