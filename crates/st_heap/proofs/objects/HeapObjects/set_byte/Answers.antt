use Rattle.std.proofs.Common.{List, Option, sym, ap, ◌∙◌, subst}
use Rattle.st_cells.specs.inside.Words.{byte_of}
use Rattle.st_heap.specs.inside.Stored.{Stored}
use Rattle.st_heap.specs.inside.Forms.{objects_in, AllSound}
use Rattle.st_heap.specs.inside.Stores.{stored_of}
use Rattle.st_heap.proofs.Living.{live_stored}
use Rattle.st_heap.proofs.Parts.{byte_within, byte_written}
use Rattle.st_heap.proofs.objects.HeapObjects.set_byte.Goals as goal

pub word-requires : goal.word-requires
word-requires c = record { there = live_stored (stored_of c.args.self.now.store) c.args.o c.requires.live; range = byte_within c.args.self.now c.args.o c.requires.live c.requires.kind c.args.at c.requires.above c.requires.range }

pub set_word-requires : goal.set_word-requires
set_word-requires c = record { there = live_stored (stored_of c.args.self.now.store) c.args.o c.requires.live; range = byte_within c.args.self.now c.args.o c.requires.live c.requires.kind c.args.at c.requires.above c.requires.range }

pub invariant_of-self : goal.invariant_of-self
invariant_of-self c = record { sound = subst (λ (xs : List (Option Stored)). AllSound xs) (sym c.set_word.ensures.stored) (byte_written c.args.self.now c.args.o c.requires.live c.requires.kind c.args.at c.requires.above c.requires.range c.with_byte-word.result c.args.v (c.with_byte-word.ensures.here ∙ c.from.ensures) (λ j ne. c.with_byte-word.ensures.other j ne ∙ ap (λ w. byte_of w j) c.word.ensures)).0 }

pub returns-clause-objects : goal.returns-clause-objects
returns-clause-objects c = ap objects_in c.set_word.ensures.stored ∙ (byte_written c.args.self.now c.args.o c.requires.live c.requires.kind c.args.at c.requires.above c.requires.range c.with_byte-word.result c.args.v (c.with_byte-word.ensures.here ∙ c.from.ensures) (λ j ne. c.with_byte-word.ensures.other j ne ∙ ap (λ w. byte_of w j) c.word.ensures)).1
