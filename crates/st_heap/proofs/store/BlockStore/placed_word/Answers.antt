use Rattle.std.proofs.Common.{◌/◌, ◌∙◌, arith}
use Rattle.st_heap.proofs.Standing.{word_held, word_small, word_read}
use Rattle.st_heap.proofs.store.BlockStore.placed_word.Goals as goal

pub overflow_add-at : goal.overflow_add-at
overflow_add-at c = record { fits = omega (arith, word_small c.args.self.now (c.args._o.0 / 2) c.args.at c.requires.place c.args.i c.requires.range) }

pub word-requires : goal.word-requires
word-requires c = word_held c.args.self.now (c.args._o.0 / 2) c.args.at c.requires.place c.args.i c.requires.range

pub returns : goal.returns
returns c = c.word.ensures ∙ word_read c.args.self.now (c.args._o.0 / 2) c.args.at c.requires.place c.args.i c.requires.range
