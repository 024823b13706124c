use Rattle.std.proofs.Common.{◌/◌, List, Option, None, sym, ap, ◌∙◌, subst}
use Rattle.st_heap.specs.inside.Stored.{Stored}
use Rattle.st_heap.specs.inside.Forms.{AllSound}
use Rattle.st_heap.specs.inside.Forms.{objects_in}
use Rattle.st_heap.proofs.Living.{live_stored}
use Rattle.st_heap.proofs.Changing.{sound_without, set_objects}
use Rattle.st_heap.proofs.Parts.{size_within, size_word}
use Rattle.st_heap.specs.inside.Stores.{stored_of}
use Rattle.st_heap.proofs.objects.HeapObjects.remove.Goals as goal

pub word-requires : goal.word-requires
word-requires c = record { there = live_stored (stored_of c.args.self.now.store) c.args.o c.requires; range = size_within c.args.self.now c.args.o c.requires }

pub free-requires-clause-there : goal.free-requires-clause-there
free-requires-clause-there c = live_stored (stored_of c.args.self.now.store) c.args.o c.requires

pub free-requires-clause-size : goal.free-requires-clause-size
free-requires-clause-size c = c.from-words.ensures ∙ c.word.ensures ∙ size_word c.args.self.now c.args.o c.requires

pub invariant_of-self : goal.invariant_of-self
invariant_of-self c =
    let all = stored_of c.args.self.now.store in
    record { sound = subst (λ (xs : List (Option Stored)). AllSound xs) (sym c.free.ensures.stored) (sound_without all (c.args.o.0 / 2) c.args.self.now.sound) }

pub returns-clause-objects : goal.returns-clause-objects
returns-clause-objects c =
    let all = stored_of c.args.self.now.store in
    ap objects_in c.free.ensures.stored ∙ set_objects all (c.args.o.0 / 2) None
