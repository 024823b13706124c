use Rattle.std.proofs.Common.{◌/◌, sym, ap, ◌∙◌, arith}
use Rattle.st_model.specs.Formed.{fresh}
use Rattle.st_model.specs.View.{is_live, with_object}
use Rattle.st_model.proofs.Making.{placed_object}
use Rattle.st_heap.specs.inside.Forms.{objects_in}
use Rattle.st_heap.proofs.Placing.{length-objects, free_dead}
use Rattle.st_heap.specs.inside.Stores.{stored_of}
use Rattle.st_heap.proofs.objects.HeapObjects.make.Goals as goal

pub place-requires-clause-free : goal.place-requires-clause-free
place-requires-clause-free c = ap (is_live (objects_in (stored_of c.args.self.now.store))) c.least_free-at.ensures.least ∙ free_dead (objects_in (stored_of c.args.self.now.store))

pub returns-clause-objects : goal.returns-clause-objects
returns-clause-objects c =
    let t = objects_in (stored_of c.args.self.now.store) in
    let o = fresh (c.args.class.0 / 2) c.args.kind c.args.size c.args.literals in
    let long = length-objects c.args.self.now.store in
    let left = c.requires.left in
    c.place.ensures.objects ∙ ap (λ v. with_object t v o) c.least_free-at.ensures.least ∙ sym (placed_object t o (omega (arith, left, long)))
