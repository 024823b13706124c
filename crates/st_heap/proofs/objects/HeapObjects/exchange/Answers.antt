use Rattle.std.proofs.Common.{◌/◌, List, Option, sym, ap, ◌∙◌, subst}
use Rattle.st_heap.specs.inside.Stored.{Stored, stored}
use Rattle.st_heap.specs.inside.Forms.{AllSound}
use Rattle.st_heap.specs.inside.Forms.{objects_in}
use Rattle.st_heap.proofs.Living.{live_stored, known}
use Rattle.st_heap.proofs.Changing.{exchanged_objects, exchanged_sound}
use Rattle.st_heap.specs.inside.Stores.{stored_of}
use Rattle.st_heap.proofs.objects.HeapObjects.exchange.Goals as goal

pub exchange-requires-clause-first : goal.exchange-requires-clause-first
exchange-requires-clause-first c = live_stored (stored_of c.args.self.now.store) c.args.a c.requires.first

pub exchange-requires-clause-second : goal.exchange-requires-clause-second
exchange-requires-clause-second c = live_stored (stored_of c.args.self.now.store) c.args.b c.requires.second

pub invariant_of-self : goal.invariant_of-self
invariant_of-self c =
    let all = stored_of c.args.self.now.store in
    let first = known all c.args.a c.args.self.now.sound c.requires.first in
    let second = known all c.args.b c.args.self.now.sound c.requires.second in
    record {
      sound = subst (λ (xs : List (Option Stored)). AllSound xs) (sym c.exchange.ensures.stored)
          (exchanged_sound all c.args.a c.args.b (stored all (c.args.a.0 / 2)) (stored all (c.args.b.0 / 2)) first second c.args.self.now.sound);
    }

pub returns-clause-objects : goal.returns-clause-objects
returns-clause-objects c =
    let all = stored_of c.args.self.now.store in
    let first = known all c.args.a c.args.self.now.sound c.requires.first in
    let second = known all c.args.b c.args.self.now.sound c.requires.second in
    ap objects_in c.exchange.ensures.stored ∙ exchanged_objects all c.args.a c.args.b (stored all (c.args.a.0 / 2)) (stored all (c.args.b.0 / 2)) first second
