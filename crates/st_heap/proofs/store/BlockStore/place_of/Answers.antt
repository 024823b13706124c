use Rattle.std.proofs.Common.{ap}
use Rattle.st_heap.specs.inside.Places.{place_in}
use Rattle.st_heap.proofs.store.BlockStore.place_of.Goals as goal

pub returns : goal.returns
returns c = ap place_in c.entry.ensures
