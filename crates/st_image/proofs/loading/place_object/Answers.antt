use Rattle.std.proofs.Common.{arith, refl, ◌∙◌}
use Rattle.st_model.proofs.Words.{is_small-value_of}
use Rattle.st_image.specs.inside.Loads.{fresh_in}
use Rattle.st_image.proofs.FaultRows.{used_above, named_even}
use Rattle.st_image.proofs.Shapes.{makeable, fresh_in-words}
use Rattle.st_image.proofs.Tables.{puts_object}
use Rattle.st_image.proofs.loading.place_object.Goals as goal
use Rattle.st_model.proofs.Entries.{free_at}

pub place-requires-clause-borne : goal.place-requires-clause-borne
place-requires-clause-borne g c = λ e. let a = used_above c.args.image.now.head c.args.image.now.bytes.now c.args.k c.requires.used in let b = c.pointer_of-at.ensures.pointer in omega arith

pub place-requires-clause-free : goal.place-requires-clause-free
place-requires-clause-free g c = free_at (g.L.Loader.loaded c.args.loader.now) _ c.args.k c.pointer_of-at.ensures.value c.requires.room.free

pub place-requires-clause-class : goal.place-requires-clause-class
place-requires-clause-class g c =
    let a = named_even c.args.image.now.head c.args.image.now.bytes.now _ c.requires.shape.sound.class_used in
    rw (c.class.ensures, is_small-value_of) (rw a refl)

pub place-requires-clause-makeable : goal.place-requires-clause-makeable
place-requires-clause-makeable g c =
    let s = c.requires.shape in
    rw (c.class.ensures, c.size.ensures, c.literals.ensures, s.kind, s.fields, s.units)
    (makeable c.args.image.now.head c.args.image.now.bytes.now c.args.k c.requires.shape.sound (named_even c.args.image.now.head c.args.image.now.bytes.now _ c.requires.shape.sound.class_used) (let a = s.few_words in omega arith))

pub place-requires-clause-words : goal.place-requires-clause-words
unfolding fresh_in
place-requires-clause-words g c =
    let s = c.requires.shape in
    let a = fresh_in-words c.args.image.now.head c.args.image.now.bytes.now c.args.k c.requires.shape.sound in
    rw (c.class.ensures, c.size.ensures, c.literals.ensures, s.kind, s.fields, s.units) (let b = c.requires.room.words in omega arith)

pub returns : goal.returns
unfolding fresh_in
returns g c =
    let s = c.requires.shape in
    puts_object (g.L.Loader.loaded c.args.loader.now) (g.L.Loader.loaded c.place.new.self) _ c.args.k _ c.pointer_of-at.ensures.value
    (c.place.ensures.objects ∙ rw (c.class.ensures, c.size.ensures, c.literals.ensures, s.kind, s.fields, s.units) refl) c.place.ensures.held c.place.ensures.head
