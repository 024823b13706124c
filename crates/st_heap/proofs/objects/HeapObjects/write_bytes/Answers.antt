use Rattle.std.proofs.Common.{List, Option, length, sym, ap, ◌∙◌, subst, arith}
use Rattle.st_heap.specs.inside.Stored.{Stored}
use Rattle.st_heap.specs.inside.Forms.{objects_in, AllSound}
use Rattle.st_heap.specs.inside.Stores.{stored_of}
use Rattle.st_heap.proofs.Living.{live_stored}
use Rattle.st_heap.proofs.Parts.{bytes_within, bytes_put}
use Rattle.st_heap.proofs.objects.HeapObjects.write_bytes.Goals as goal

pub write_bytes-requires : goal.write_bytes-requires
write_bytes-requires c = record { there = live_stored (stored_of c.args.self.now.store) c.args.o c.requires.live; range = bytes_within c.args.self.now c.args.o c.requires.live c.requires.kind c.args.at (length c.args.bytes.now) c.requires.above c.requires.range }

pub invariant_of-self : goal.invariant_of-self
invariant_of-self c = record { sound = subst (λ (xs : List (Option Stored)). AllSound xs) (sym c.write_bytes.ensures.stored) (bytes_put c.args.self.now c.args.o c.requires.live c.requires.kind c.args.at c.args.bytes.now c.requires.above c.requires.range (λ j. let small = (c.type_inv.bytes j).fits in omega (arith, small))).0 }

pub returns-clause-objects : goal.returns-clause-objects
returns-clause-objects c = ap objects_in c.write_bytes.ensures.stored ∙ (bytes_put c.args.self.now c.args.o c.requires.live c.requires.kind c.args.at c.args.bytes.now c.requires.above c.requires.range (λ j. let small = (c.type_inv.bytes j).fits in omega (arith, small))).1
