use Rattle.std.proofs.Common.{List, Option, sym, ap, ◌∙◌, subst, arith}
use Rattle.st_heap.specs.inside.Stored.{Stored}
use Rattle.st_heap.specs.inside.Forms.{objects_in, AllSound}
use Rattle.st_heap.specs.inside.Stores.{stored_of}
use Rattle.st_heap.proofs.Living.{live_stored}
use Rattle.st_heap.proofs.Parts.{field_within, field_small, field_written}
use Rattle.st_heap.proofs.Placed.{stands_stored}
use Rattle.st_heap.proofs.objects.HeapObjects.set_placed_field.Goals as goal

pub overflow_add-at : goal.overflow_add-at
overflow_add-at c = record { fits = omega (arith, field_small c.args.self.now c.args.o c.requires.live c.args.at c.requires.range) }

pub set_placed_word-requires : goal.set_placed_word-requires
set_placed_word-requires c = record { there = live_stored (stored_of c.args.self.now.store) c.args.o c.requires.live; place = stands_stored c.args.self.now c.args.o c.args.stand c.requires.live c.requires.place; range = field_within c.args.self.now c.args.o c.requires.live c.args.at c.requires.range }

pub invariant_of-self : goal.invariant_of-self
invariant_of-self c = record { sound = subst (λ (xs : List (Option Stored)). AllSound xs) (sym c.set_placed_word.ensures.stored) (field_written c.args.self.now c.args.o c.requires.live c.args.at c.args.v c.requires.range c.requires.header).0 }

pub returns-clause-objects : goal.returns-clause-objects
returns-clause-objects c = ap objects_in c.set_placed_word.ensures.stored ∙ (field_written c.args.self.now c.args.o c.requires.live c.args.at c.args.v c.requires.range c.requires.header).1
