use Rattle.std.proofs.Common.{Some, sym, ap, ◌∙◌, arith}
use Rattle.st_model.specs.Values.{value_of}
use Rattle.st_heap.specs.inside.Stores.{stored_of}
use Rattle.st_heap.proofs.Living.{live_stored}
use Rattle.st_heap.proofs.Parts.{field_within, field_small, field_read}
use Rattle.st_heap.proofs.objects.HeapObjects.field.Goals as goal

pub overflow_add-at : goal.overflow_add-at
overflow_add-at c = record { fits = omega (arith, field_small c.args.self.now c.args.o c.requires.live c.args.at c.requires.range) }

pub word-requires : goal.word-requires
word-requires c = record { there = live_stored (stored_of c.args.self.now.store) c.args.o c.requires.live; range = field_within c.args.self.now c.args.o c.requires.live c.args.at c.requires.range }

pub returns : goal.returns
returns c = field_read c.args.self.now c.args.o c.requires.live c.args.at c.requires.range ∙ ap (λ w. Some (value_of w)) (sym c.word.ensures)
