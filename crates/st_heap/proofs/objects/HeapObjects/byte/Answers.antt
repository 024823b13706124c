use Rattle.std.proofs.Common.{Some, sym, ap, ◌∙◌}
use Rattle.st_cells.specs.inside.Words.{byte_of}
use Rattle.st_heap.specs.inside.Stores.{stored_of}
use Rattle.st_heap.proofs.Living.{live_stored}
use Rattle.st_heap.proofs.Parts.{byte_within, byte_read, upper_byte, lower_byte}
use Rattle.st_heap.proofs.objects.HeapObjects.byte.Goals as goal

pub word-word-requires : goal.word-word-requires
word-word-requires c = record { there = live_stored (stored_of c.args.self.now.store) c.args.o c.requires.live; range = byte_within c.args.self.now c.args.o c.requires.live c.requires.kind c.args.at c.requires.above c.requires.range }

pub returns-then-at-eq0 : goal.returns-then-at-eq0
returns-then-at-eq0 c = byte_read c.args.self.now c.args.o c.requires.live c.requires.kind c.args.at c.requires.above c.requires.range ∙ ap Some (ap (λ w. byte_of w c.args.at) (sym c.word-word.ensures) ∙ upper_byte c.word-word.result c.args.at c.if-at-eq0.true)

pub returns-else-at-eq0 : goal.returns-else-at-eq0
returns-else-at-eq0 c = byte_read c.args.self.now c.args.o c.requires.live c.requires.kind c.args.at c.requires.above c.requires.range ∙ ap Some (ap (λ w. byte_of w c.args.at) (sym c.word-word.ensures) ∙ lower_byte c.word-word.result c.args.at c.if-at-eq0.false)
