use Rattle.std.proofs.Common.{ℕ, ◌+◌, ◌/◌, List, length, ap, ◌∙◌, arith}
use Rattle.st_heap.specs.inside.Heaps.{words_of}
use Rattle.st_heap.specs.inside.Places.{place_in}
use Rattle.st_cells.proofs.Written.{length-with_run}
use Rattle.st_heap.proofs.Standing.{range_held, range_small, range_written, range_stays}
use Rattle.st_heap.proofs.store.BlockStore.write.Goals as goal

pub overflow_add-at : goal.overflow_add-at
overflow_add-at c = record { fits = omega (arith, range_small c.args.self.now (c.args.o.0 / 2) c.entry-at.result.at (ap place_in c.entry-at.ensures) c.args.i (length c.args.words.now) c.requires.range) }

pub write-requires : goal.write-requires
write-requires c = range_held c.args.self.now (c.args.o.0 / 2) c.entry-at.result.at (ap place_in c.entry-at.ensures) c.args.i (length c.args.words.now) c.requires.range

pub invariant_of-self : goal.invariant_of-self
invariant_of-self c =
    let s = c.args.self.now in
    let stays = range_stays s (c.args.o.0 / 2) c.entry-at.result.at (ap place_in c.entry-at.ensures) c.write.new.self c.args.i c.args.words.now c.requires.range c.write.ensures.words c.write.ensures.blocks in
    record { tied = stays.tied; places = s.places; counted = stays.counted; held = stays.held }

pub returns-clause-stored : goal.returns-clause-stored
returns-clause-stored c = range_written c.args.self.now (c.args.o.0 / 2) c.entry-at.result.at (ap place_in c.entry-at.ensures) c.write.new.self c.args.i c.args.words.now c.requires.range c.write.ensures.words c.write.ensures.blocks

pub returns-clause-capacity : goal.returns-clause-capacity
returns-clause-capacity c = ap (λ (l : List ℕ). length l) c.write.ensures.words ∙ length-with_run (words_of c.args.self.now.heap) (c.entry-at.result.at + c.args.i) c.args.words.now
