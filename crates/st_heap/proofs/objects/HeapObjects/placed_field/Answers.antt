use Rattle.std.proofs.Common.{Some, sym, ap, ◌∙◌, arith}
use Rattle.st_model.specs.Values.{value_of}
use Rattle.st_heap.specs.inside.Stores.{stored_of}
use Rattle.st_heap.proofs.Living.{live_stored}
use Rattle.st_heap.proofs.Parts.{field_within, field_small, field_read}
use Rattle.st_heap.proofs.Placed.{stands_stored}
use Rattle.st_heap.proofs.objects.HeapObjects.placed_field.Goals as goal

pub overflow_add-at : goal.overflow_add-at
overflow_add-at c = record { fits = omega (arith, field_small c.args.self.now c.args.o c.requires.live c.args.at c.requires.range) }

pub placed_word-requires : goal.placed_word-requires
placed_word-requires c = record { there = live_stored (stored_of c.args.self.now.store) c.args.o c.requires.live; place = stands_stored c.args.self.now c.args.o c.args.stand c.requires.live c.requires.place; range = field_within c.args.self.now c.args.o c.requires.live c.args.at c.requires.range }

pub returns : goal.returns
returns c = field_read c.args.self.now c.args.o c.requires.live c.args.at c.requires.range ∙ ap (λ w. Some (value_of w)) (sym c.placed_word.ensures)
