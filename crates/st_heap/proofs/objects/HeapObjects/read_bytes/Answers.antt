use Rattle.std.proofs.Common.{length}
use Rattle.st_heap.specs.inside.Stores.{stored_of}
use Rattle.st_heap.proofs.Living.{live_stored}
use Rattle.st_heap.proofs.Parts.{bytes_within, bytes_taken}
use Rattle.st_heap.proofs.objects.HeapObjects.read_bytes.Goals as goal

pub read_bytes-requires : goal.read_bytes-requires
read_bytes-requires c = record { there = live_stored (stored_of c.args.self.now.store) c.args.o c.requires.live; range = bytes_within c.args.self.now c.args.o c.requires.live c.requires.kind c.args.at (length c.args.into.now) c.requires.above c.requires.range }

pub returns : goal.returns
returns c = bytes_taken c.args.self.now c.args.o c.requires.live c.requires.kind c.args.at (length c.args.into.now) c.requires.above c.requires.range c.read_bytes.new.into c.read_bytes.auto.into c.read_bytes.ensures
