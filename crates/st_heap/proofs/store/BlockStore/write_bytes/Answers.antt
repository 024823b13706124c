use Rattle.std.proofs.Common.{ℕ, ◌+◌, ◌/◌, List, length, ap, ◌∙◌, arith}
use Rattle.st_heap.specs.inside.Heaps.{words_of}
use Rattle.st_heap.specs.inside.Places.{place_in}
use Rattle.st_cells.proofs.Written.{length-with_bytes}
use Rattle.st_heap.proofs.Standing.{range_held, range_small, bytes_written, bytes_stay}
use Rattle.st_heap.proofs.store.BlockStore.write_bytes.Goals as goal

pub overflow_add-at : goal.overflow_add-at
overflow_add-at c = record { fits = omega (arith, range_small c.args.self.now (c.args.o.0 / 2) c.entry-at.result.at (ap place_in c.entry-at.ensures) 2 ((c.args.first + length c.args.bytes.now + 1) / 2) c.requires.range) }

pub write_bytes-requires : goal.write_bytes-requires
write_bytes-requires c = range_held c.args.self.now (c.args.o.0 / 2) c.entry-at.result.at (ap place_in c.entry-at.ensures) 2 ((c.args.first + length c.args.bytes.now + 1) / 2) c.requires.range

pub invariant_of-self : goal.invariant_of-self
invariant_of-self c =
    let s = c.args.self.now in
    let stays = bytes_stay s (c.args.o.0 / 2) c.entry-at.result.at (ap place_in c.entry-at.ensures) c.write_bytes.new.self c.args.first c.args.bytes.now c.requires.range c.write_bytes.ensures.words c.write_bytes.ensures.blocks in
    record { tied = stays.tied; places = s.places; counted = stays.counted; held = stays.held }

pub returns-clause-stored : goal.returns-clause-stored
returns-clause-stored c = bytes_written c.args.self.now (c.args.o.0 / 2) c.entry-at.result.at (ap place_in c.entry-at.ensures) c.write_bytes.new.self c.args.first c.args.bytes.now c.requires.range c.write_bytes.ensures.words c.write_bytes.ensures.blocks

pub returns-clause-capacity : goal.returns-clause-capacity
returns-clause-capacity c = ap (λ (l : List ℕ). length l) c.write_bytes.ensures.words ∙ length-with_bytes (words_of c.args.self.now.heap) (c.entry-at.result.at + 2) c.args.first c.args.bytes.now
