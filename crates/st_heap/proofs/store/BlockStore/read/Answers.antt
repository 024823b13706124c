use Rattle.std.proofs.Common.{◌/◌, length, ap, ◌∙◌, arith}
use Rattle.st_heap.specs.inside.Places.{place_in}
use Rattle.st_heap.proofs.Standing.{range_held, range_small, range_read}
use Rattle.st_heap.proofs.store.BlockStore.read.Goals as goal

pub overflow_add-at : goal.overflow_add-at
overflow_add-at c = record { fits = omega (arith, range_small c.args.self.now (c.args.o.0 / 2) c.entry-at.result.at (ap place_in c.entry-at.ensures) c.args.i (length c.args.into.now) c.requires.range) }

pub read-requires : goal.read-requires
read-requires c = range_held c.args.self.now (c.args.o.0 / 2) c.entry-at.result.at (ap place_in c.entry-at.ensures) c.args.i (length c.args.into.now) c.requires.range

pub returns : goal.returns
returns c = c.read.ensures ∙ range_read c.args.self.now (c.args.o.0 / 2) c.entry-at.result.at (ap place_in c.entry-at.ensures) c.args.i (length c.args.into.now) c.requires.range
