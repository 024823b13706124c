use Rattle.std.proofs.Common.{◌≡◌, ◌∙◌, length, arith}
use Rattle.st_memory.proofs.Bodies.{most_units}
use Rattle.st_model.specs.Values.{value}
use Rattle.st_model.specs.View.{object_of}
use Rattle.st_writer.specs.Written.{unit_words}
use Rattle.st_writer.proofs.Places.{object_words}
use Rattle.st_writer.proofs.object.count_words.Goals as goal

pub count_unit_words-requires : goal.count_unit_words-requires
count_unit_words-requires g c =
    omega (arith, c.count_units-units.ensures, most_units {v = g.M.Memory.view c.args.m.now} (value c.args.o) (g.met.M.Memory.whole c.args.m.now) c.requires)

pub overflow_add-result : goal.overflow_add-result
overflow_add-result g c =
    omega (arith, c.count_fields-fields.ensures, most_units {v = g.M.Memory.view c.args.m.now} (value c.args.o) (g.met.M.Memory.whole c.args.m.now) c.requires)

pub overflow_add-result-2 : goal.overflow_add-result-2
overflow_add-result-2 g c =
    let o = object_of (g.M.Memory.view c.args.m.now).objects (value c.args.o) in
    let w = object_words (g.M.Memory.view c.args.m.now) (value c.args.o) (g.met.M.Memory.whole c.args.m.now) c.requires in
    let units : c.count_unit_words.result ≡ unit_words o.kind (length o.units) = c.count_unit_words.ensures ∙ (λ k. unit_words (c.kind.ensures.kind k) (c.count_units-units.ensures k)) in
    omega (arith, units, w.0, w.1, c.count_fields-fields.ensures)

pub returns-clause-words : goal.returns-clause-words
returns-clause-words g c =
    let o = object_of (g.M.Memory.view c.args.m.now).objects (value c.args.o) in
    let w = object_words (g.M.Memory.view c.args.m.now) (value c.args.o) (g.met.M.Memory.whole c.args.m.now) c.requires in
    let units : c.count_unit_words.result ≡ unit_words o.kind (length o.units) = c.count_unit_words.ensures ∙ (λ k. unit_words (c.kind.ensures.kind k) (c.count_units-units.ensures k)) in
    omega (arith, units, w.0, c.count_fields-fields.ensures)

pub returns-clause-few : goal.returns-clause-few
returns-clause-few g c =
    let o = object_of (g.M.Memory.view c.args.m.now).objects (value c.args.o) in
    let w = object_words (g.M.Memory.view c.args.m.now) (value c.args.o) (g.met.M.Memory.whole c.args.m.now) c.requires in
    let units : c.count_unit_words.result ≡ unit_words o.kind (length o.units) = c.count_unit_words.ensures ∙ (λ k. unit_words (c.kind.ensures.kind k) (c.count_units-units.ensures k)) in
    omega (arith, units, w.0, w.1, c.count_fields-fields.ensures)
