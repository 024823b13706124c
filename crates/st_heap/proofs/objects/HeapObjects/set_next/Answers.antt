use Rattle.std.proofs.Common.{◌/◌, ◌∙◌, List, Option, sym, subst}
use Rattle.st_heap.specs.inside.Stored.{Stored}
use Rattle.st_heap.specs.inside.Forms.{AllSound}
use Rattle.st_heap.proofs.Living.{is_some-entry}
use Rattle.st_heap.specs.inside.Stores.{stored_of}
use Rattle.st_heap.proofs.objects.HeapObjects.set_next.Goals as goal

pub set_next-requires : goal.set_next-requires
set_next-requires c = sym (is_some-entry (stored_of c.args.self.now.store) (c.args.o.0 / 2)) ∙ c.requires

pub invariant_of-self : goal.invariant_of-self
invariant_of-self c = record { sound = subst (λ (xs : List (Option Stored)). AllSound xs) (sym c.set_next.ensures.stored) c.args.self.now.sound }
