use Rattle.std.proofs.Common.{subst, arith}
use Rattle.std.proofs.lemmas.List.{length-take-le}
use Rattle.st_emit.specs.inside.NamePlaces.{NotesFirst}
use Rattle.st_emit.proofs.NamePlaces.{index_more}
use Rattle.st_emit.proofs.declared_names.places_of.Goals as goal

pub loop-i-preserved : goal.loop-i-preserved
loop-i-preserved c =
    let i = c.loop-i.i in
    let name = c.index-names-i.result in
    let first = subst (λ t. NotesFirst t i c.loop-i.places.entries c.note.new.places.entries) c.deref.ensures.value c.in_ok-note.ensures in
    index_more c.args.names.now i name c.loop-i.places.entries c.note.new.places.entries c.loop-i-test.true c.index-names-i.is (length-take-le i c.args.names.now (omega arith)) c.loop-i.invariant first
