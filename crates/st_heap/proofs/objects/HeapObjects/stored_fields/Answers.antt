use Rattle.std.proofs.Common.{◌≡◌, ◌/◌, true, length, sym, ap, ◌∙◌, arith}
use Rattle.st_heap.specs.inside.Stored.{stored}
use Rattle.st_heap.specs.inside.Forms.{cell}
use Rattle.st_model.specs.Objects.{is_method}
use Rattle.st_heap.proofs.Forming.{some_field}
use Rattle.st_heap.proofs.Living.{sound_stored}
use Rattle.st_heap.specs.inside.Stores.{stored_of}
use Rattle.st_heap.proofs.objects.HeapObjects.stored_fields.Goals as goal

pub word-requires-clause-range : goal.word-requires-clause-range
word-requires-clause-range c =
    let f = (sound_stored (stored_of c.args.self.now.store) c.args.o c.args.self.now.sound c.requires).fields in omega (arith, f)

pub word-requires-in-Method-clause-range : goal.word-requires-in-Method-clause-range
word-requires-in-Method-clause-range c =
    let s = stored (stored_of c.args.self.now.store) (c.args.o.0 / 2) in
    let f = (sound_stored (stored_of c.args.self.now.store) c.args.o c.args.self.now.sound c.requires).fields in
    let method : is_method s.kind ≡ true = ap is_method (sym c.kind.ensures ∙ c.in-Method.is) in
    let some = some_field s.kind (length s.cells) (cell s 2) method in
    omega (arith, f, some)
