use Rattle.std.proofs.Common.{◌*◌, ◌++◌, map, refl, arith}
use Rattle.std.specs.List.{flat_map}
use Rattle.std.proofs.lemmas.List.{length-map}
use Rattle.st_memory.proofs.Bodies.{most_units}
use Rattle.st_model.specs.Objects.{words_of}
use Rattle.st_model.specs.Values.{value}
use Rattle.st_model.specs.View.{object_of}
use Rattle.st_host.proofs.Pushing.{push_then, push_cut}
use Rattle.st_writer.specs.Written.{word_bytes, word_of, unit_bytes}
use Rattle.st_writer.proofs.Bytes.{length-words}
use Rattle.st_writer.proofs.object.push_object.Goals as goal

pub push_units-requires-clause-end : goal.push_units-requires-clause-end
push_units-requires-clause-end g c =
    let o = object_of (g.M.Memory.view c.args.m.now).objects (value c.args.o) in
    omega (
      arith,
      c.requires.end,
      c.in_ok-push_heading.ensures.adds.end,
      c.in_ok-push_fields.ensures.adds.end,
      length-words (map word_of o.fields),
      length-map o.fields word_of,
      most_units {v = g.M.Memory.view c.args.m.now} (value c.args.o) (g.met.M.Memory.whole c.args.m.now) c.requires.live,
    )

pub returns-in_err-push_fields : goal.returns-in_err-push_fields
returns-in_err-push_fields g c =
    let o = object_of (g.M.Memory.view c.args.m.now).objects (value c.args.o) in
    push_cut g.H.Host c.args.name.now _ (word_bytes (words_of o) ++ word_bytes (2 * o.class)) (flat_map word_bytes (map word_of o.fields)) _ _ _ _ _ _ _ _
    c.from_residual-in_err-push_fields.ensures.0 c.in_ok-push_heading.ensures c.in_err-push_fields.ensures

pub returns : goal.returns
returns g c =
    let o = object_of (g.M.Memory.view c.args.m.now).objects (value c.args.o) in
    let heading = word_bytes (words_of o) ++ word_bytes (2 * o.class) in
    let fields = flat_map word_bytes (map word_of o.fields) in
    push_then g.H.Host c.args.name.now _ heading (fields ++ unit_bytes o.kind o.units) _ _ _ _ _ _ _ c.in_ok-push_heading.ensures
    (push_then g.H.Host c.args.name.now _ fields (unit_bytes o.kind o.units) _ _ _ _ _ _ _ c.in_ok-push_fields.ensures c.push_units.ensures refl) refl
