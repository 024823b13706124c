use Rattle.std.proofs.Common.{◌/◌, ◌<◌, List, Option, sym, ap, ◌∙◌, subst, arith}
use Rattle.st_heap.specs.inside.Stored.{Stored}
use Rattle.st_heap.specs.inside.Forms.{AllSound}
use Rattle.st_model.proofs.Pointers.{even_word}
use Rattle.st_heap.specs.inside.Forms.{objects_in}
use Rattle.st_heap.specs.inside.Fresh.{new_stored}
use Rattle.st_heap.proofs.Changing.{sound_set, unused_dead, placed_stored, total_words}
use Rattle.st_heap.proofs.Placing.{place_within}
use Rattle.st_heap.specs.inside.Stores.{stored_of}
use Rattle.st_heap.proofs.objects.HeapObjects.place.Goals as goal

pub new-form-requires-clause-even : goal.new-form-requires-clause-even
new-form-requires-clause-even c = even_word c.args.class.0 c.requires.class

pub store-requires-clause-unused : goal.store-requires-clause-unused
store-requires-clause-unused c =
    let all = stored_of c.args.self.now.store in
    let small : c.args.at.0 < 65536 = omega arith in
    unused_dead all c.args.at c.requires.even c.requires.borne (place_within c.args.self.now.store c.args.at.0 small) c.requires.free

pub store-requires-clause-room : goal.store-requires-clause-room
store-requires-clause-room c =
    let all = stored_of c.args.self.now.store in
    let words = total_words all c.args.self.now.sound in
    let size = c.new-form.ensures.words in
    let fits = c.requires.words in
    omega (arith, words, size, fits)

pub invariant_of-self : goal.invariant_of-self
invariant_of-self c =
    let all = stored_of c.args.self.now.store in
    record {
      sound = subst (λ (xs : List (Option Stored)). AllSound xs) (sym c.store.ensures.stored)
          (sound_set all (c.args.at.0 / 2) (new_stored c.new-form.result) c.args.self.now.sound c.new-form.ensures.sound);
    }

pub returns-clause-objects : goal.returns-clause-objects
returns-clause-objects c =
    let all = stored_of c.args.self.now.store in
    ap objects_in c.store.ensures.stored ∙ placed_stored all c.args.at (new_stored c.new-form.result) _ c.requires.even c.new-form.ensures.fresh
