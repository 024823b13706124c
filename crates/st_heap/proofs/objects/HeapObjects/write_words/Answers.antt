use Rattle.std.proofs.Common.{List, Option, length, sym, ap, ◌∙◌, subst, arith}
use Rattle.st_heap.specs.inside.Stored.{Stored}
use Rattle.st_heap.specs.inside.Forms.{objects_in, AllSound}
use Rattle.st_heap.specs.inside.Stores.{stored_of}
use Rattle.st_heap.proofs.Living.{live_stored}
use Rattle.st_heap.proofs.Parts.{words_within, words_put}
use Rattle.st_heap.proofs.objects.HeapObjects.write_words.Goals as goal

pub overflow_add-at : goal.overflow_add-at
overflow_add-at c = record { fits = omega (arith, (words_within c.args.self.now c.args.o c.requires.live c.requires.kind c.args.at (length c.args.words.now) c.requires.range).1) }

pub write-requires : goal.write-requires
write-requires c = record { there = live_stored (stored_of c.args.self.now.store) c.args.o c.requires.live; range = (words_within c.args.self.now c.args.o c.requires.live c.requires.kind c.args.at (length c.args.words.now) c.requires.range).0 }

pub invariant_of-self : goal.invariant_of-self
invariant_of-self c = record { sound = subst (λ (xs : List (Option Stored)). AllSound xs) (sym c.write.ensures.stored) (words_put c.args.self.now c.args.o c.requires.live c.requires.kind c.args.at c.args.words.now c.requires.range).0 }

pub returns-clause-objects : goal.returns-clause-objects
returns-clause-objects c = ap objects_in c.write.ensures.stored ∙ (words_put c.args.self.now c.args.o c.requires.live c.requires.kind c.args.at c.args.words.now c.requires.range).1
