use Rattle.std.proofs.Common.{Some, sym, ap, ◌∙◌, arith}
use Rattle.st_heap.specs.inside.Stores.{stored_of}
use Rattle.st_heap.proofs.Living.{live_stored}
use Rattle.st_heap.proofs.Parts.{word_within, word_read}
use Rattle.st_heap.proofs.objects.HeapObjects.word.Goals as goal

pub overflow_add-at : goal.overflow_add-at
overflow_add-at c = record { fits = omega (arith, (word_within c.args.self.now c.args.o c.requires.live c.requires.kind c.args.at c.requires.range).1) }

pub word-requires : goal.word-requires
word-requires c = record { there = live_stored (stored_of c.args.self.now.store) c.args.o c.requires.live; range = (word_within c.args.self.now c.args.o c.requires.live c.requires.kind c.args.at c.requires.range).0 }

pub returns : goal.returns
returns c = word_read c.args.self.now c.args.o c.requires.live c.requires.kind c.args.at c.requires.range ∙ ap Some (sym c.word.ensures)
