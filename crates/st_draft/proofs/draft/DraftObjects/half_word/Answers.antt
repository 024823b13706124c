use Rattle.std.proofs.Common.{arith}
use Rattle.st_model.specs.Values.{word}
use Rattle.st_draft.proofs.Behind.{made_fit}
use Rattle.st_draft.proofs.Moved.{half_exchanged}
use Rattle.st_draft.proofs.Freeing.{half_made, half_base}
use Rattle.st_draft.proofs.draft.DraftObjects.half_word.Goals as goal

pub free_place-requires : goal.free_place-requires
free_place-requires g c =
    let d = c.args.self.now in
    let few = d.notes.few in
    let l = c.in-Some.ensures.below in
    omega (arith, few, l)

pub returns-in-Some-clause-half : goal.returns-in-Some-clause-half
returns-in-Some-clause-half g c =
    let d = c.args.self.now in
    half_exchanged _ d.exchanges d.there (word c.args.o) _
    (half_made _ d.notes.made d.notes.made_count d.notes.changes d.notes.count (g.met.M.Memory.whole d.base.now).places (made_fit d.notes) (word c.args.o) c.in-Some.number _ c.in-Some.ensures.named c.in-Some.ensures.below c.free_place.ensures.place)

pub returns-in-None-clause-half : goal.returns-in-None-clause-half
returns-in-None-clause-half g c =
    let d = c.args.self.now in
    half_exchanged _ d.exchanges d.there (word c.args.o) _
    (half_base _ d.notes.made d.notes.made_count d.notes.changes d.notes.count (g.met.M.Memory.whole d.base.now).places (made_fit d.notes) (word c.args.o) _ c.in-None.ensures.none c.half_word.ensures.half)
