use Rattle.std.proofs.Common.{◌/◌, ap, arith}
use Rattle.st_heap.specs.inside.Places.{place_in}
use Rattle.st_heap.proofs.Standing.{word_held, word_small, word_written, word_stays}
use Rattle.st_heap.proofs.store.BlockStore.set_word.Goals as goal

pub overflow_add-at : goal.overflow_add-at
overflow_add-at c = record { fits = omega (arith, word_small c.args.self.now (c.args.o.0 / 2) c.entry-at.result.at (ap place_in c.entry-at.ensures) c.args.i c.requires.range) }

pub set_word-requires : goal.set_word-requires
set_word-requires c = word_held c.args.self.now (c.args.o.0 / 2) c.entry-at.result.at (ap place_in c.entry-at.ensures) c.args.i c.requires.range

pub invariant_of-self : goal.invariant_of-self
invariant_of-self c =
    let s = c.args.self.now in
    let stays = word_stays s (c.args.o.0 / 2) c.entry-at.result.at (ap place_in c.entry-at.ensures) c.set_word.new.self c.args.i c.args.w c.requires.range c.set_word.ensures.words c.set_word.ensures.blocks in
    record { tied = stays.tied; places = s.places; counted = stays.counted; held = stays.held }

pub returns-clause-stored : goal.returns-clause-stored
returns-clause-stored c = word_written c.args.self.now (c.args.o.0 / 2) c.entry-at.result.at (ap place_in c.entry-at.ensures) c.set_word.new.self c.args.i c.args.w c.requires.range c.set_word.ensures.words c.set_word.ensures.blocks
