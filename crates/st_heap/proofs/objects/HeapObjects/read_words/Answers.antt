use Rattle.std.proofs.Common.{length, ◌∙◌, arith}
use Rattle.st_heap.specs.inside.Stores.{stored_of}
use Rattle.st_heap.proofs.Living.{live_stored}
use Rattle.st_heap.proofs.Parts.{words_within, words_taken}
use Rattle.st_heap.proofs.objects.HeapObjects.read_words.Goals as goal

pub overflow_add-at : goal.overflow_add-at
overflow_add-at c = record { fits = omega (arith, (words_within c.args.self.now c.args.o c.requires.live c.requires.kind c.args.at (length c.args.into.now) c.requires.range).1) }

pub read-requires : goal.read-requires
read-requires c = record { there = live_stored (stored_of c.args.self.now.store) c.args.o c.requires.live; range = (words_within c.args.self.now c.args.o c.requires.live c.requires.kind c.args.at (length c.args.into.now) c.requires.range).0 }

pub returns : goal.returns
returns c = c.read.ensures ∙ words_taken c.args.self.now c.args.o c.requires.live c.requires.kind c.args.at (length c.args.into.now) c.requires.range
