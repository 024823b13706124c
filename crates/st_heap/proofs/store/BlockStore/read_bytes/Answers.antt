use Rattle.std.proofs.Common.{◌+◌, ◌/◌, length, ap, ◌∙◌, arith}
use Rattle.st_heap.specs.inside.Places.{place_in}
use Rattle.st_heap.proofs.Standing.{range_held, range_small, byte_in}
use Rattle.st_heap.proofs.store.BlockStore.read_bytes.Goals as goal

pub overflow_add-at : goal.overflow_add-at
overflow_add-at c = record { fits = omega (arith, range_small c.args.self.now (c.args.o.0 / 2) c.entry-at.result.at (ap place_in c.entry-at.ensures) 2 ((c.args.first + length c.args.into.now + 1) / 2) c.requires.range) }

pub read_bytes-requires : goal.read_bytes-requires
read_bytes-requires c = range_held c.args.self.now (c.args.o.0 / 2) c.entry-at.result.at (ap place_in c.entry-at.ensures) 2 ((c.args.first + length c.args.into.now + 1) / 2) c.requires.range

pub returns : goal.returns
returns c j low =
    let range = c.requires.range in
    c.read_bytes.ensures j low ∙ byte_in c.args.self.now (c.args.o.0 / 2) c.entry-at.result.at (ap place_in c.entry-at.ensures) (c.args.first + j) (omega (arith, range, low))
