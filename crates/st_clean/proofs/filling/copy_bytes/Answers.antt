use Rattle.std.proofs.Common.{◌≡◌, ◌<◌, ◌≤◌, ◌+◌, ◌-◌, ◌*◌, length, sym, subst, ap, ◌∙◌, arith}
use Rattle.std.specs.Prelude.{slice_get}
use Rattle.std.proofs.lemmas.Grind.{common_steps}
use Rattle.st_model.specs.Values.{value}
use Rattle.st_model.specs.Objects.{is_words, first_unit}
use Rattle.st_model.specs.View.{object_of, with_unit}
use Rattle.st_memory.proofs.Bodies.{most_units}
use Rattle.st_clean.specs.Filling.{PutsPart}
use Rattle.st_clean.proofs.Places.{puts_itself, among, part_live, part_is, puts_unit}
use Rattle.st_clean.proofs.filling.copy_bytes.Goals as goal

pub loop-i-init : goal.loop-i-init
loop-i-init g c = puts_itself (g.L.Loader.loaded c.args.loader.now) (value c.args.o) c.args.fields 0 (object_of (g.M.Memory.view c.args.m.now).objects (value c.args.o)) c.requires.placed

pub set_byte-requires-clause-live : goal.set_byte-requires-clause-live
set_byte-requires-clause-live g c =
    let o = object_of (g.M.Memory.view c.args.m.now).objects (value c.args.o) in
    let a = among (g.L.Loader.loaded c.args.loader.now) (g.L.Loader.loaded c.loop-i.loader) (value c.args.o) o c.requires.placed.place c.requires.placed.is c.requires.placed.inside c.args.fields c.loop-i.i c.loop-i.invariant in
    part_live (g.L.Loader.loaded c.loop-i.loader) (value c.args.o) c.args.fields c.loop-i.i o a

pub set_byte-requires-clause-kind : goal.set_byte-requires-clause-kind
set_byte-requires-clause-kind g c =
    let o = object_of (g.M.Memory.view c.args.m.now).objects (value c.args.o) in
    let a = among (g.L.Loader.loaded c.args.loader.now) (g.L.Loader.loaded c.loop-i.loader) (value c.args.o) o c.requires.placed.place c.requires.placed.is c.requires.placed.inside c.args.fields c.loop-i.i c.loop-i.invariant in
    ap (λ p. is_words p.kind) (part_is (g.L.Loader.loaded c.loop-i.loader) (value c.args.o) c.args.fields c.loop-i.i o a) ∙ (ap is_words a.is_part.kind ∙ c.requires.words)

pub set_byte-requires-clause-above : goal.set_byte-requires-clause-above
set_byte-requires-clause-above g c =
    let o = object_of (g.M.Memory.view c.args.m.now).objects (value c.args.o) in
    let a = among (g.L.Loader.loaded c.args.loader.now) (g.L.Loader.loaded c.loop-i.loader) (value c.args.o) o c.requires.placed.place c.requires.placed.is c.requires.placed.inside c.args.fields c.loop-i.i c.loop-i.invariant in
    let l : first_unit a.part ≤ 2 * c.args.fields + c.loop-i.i = let m = a.is_part.many_fields in let n = c.requires.fields in omega (arith, m, n) in
    subst (λ p. first_unit p ≤ 2 * c.args.fields + c.loop-i.i) (sym (part_is (g.L.Loader.loaded c.loop-i.loader) (value c.args.o) c.args.fields c.loop-i.i o a)) l

pub set_byte-requires-clause-range : goal.set_byte-requires-clause-range
set_byte-requires-clause-range g c =
    let o = object_of (g.M.Memory.view c.args.m.now).objects (value c.args.o) in
    let a = among (g.L.Loader.loaded c.args.loader.now) (g.L.Loader.loaded c.loop-i.loader) (value c.args.o) o c.requires.placed.place c.requires.placed.is c.requires.placed.inside c.args.fields c.loop-i.i c.loop-i.invariant in
    let l : 2 * c.args.fields + c.loop-i.i < first_unit a.part + length a.part.units =
    let m = a.is_part.many_fields in let n = c.requires.fields in let p = a.is_part.many_units in let q = c.requires.units in omega (arith, m, n, p, q) in
    subst (λ p. 2 * c.args.fields + c.loop-i.i < first_unit p + length p.units) (sym (part_is (g.L.Loader.loaded c.loop-i.loader) (value c.args.o) c.args.fields c.loop-i.i o a)) l

pub loop-i-preserved : goal.loop-i-preserved
loop-i-preserved g c =
    let o = object_of (g.M.Memory.view c.args.m.now).objects (value c.args.o) in
    let a = among (g.L.Loader.loaded c.args.loader.now) (g.L.Loader.loaded c.loop-i.loader) (value c.args.o) o c.requires.placed.place c.requires.placed.is c.requires.placed.inside c.args.fields c.loop-i.i c.loop-i.invariant in
    let f = c.requires.fields in
    let from : 2 * c.args.fields + c.loop-i.i - first_unit o ≡ c.loop-i.i = omega (arith, f) in
    let same = part_is (g.L.Loader.loaded c.loop-i.loader) (value c.args.o) c.args.fields c.loop-i.i o a in
    let m = a.is_part.many_fields in
    let to : 2 * c.args.fields + c.loop-i.i - first_unit a.part ≡ c.loop-i.i = omega (arith, f, m) in
    let place = ap (λ p. 2 * c.args.fields + c.loop-i.i - first_unit p) same ∙ to in
    puts_unit (g.L.Loader.loaded c.args.loader.now) (g.L.Loader.loaded c.loop-i.loader) (value c.args.o) o c.requires.placed.place c.requires.placed.is c.requires.placed.inside (g.L.Loader.loaded c.set_byte.new.self) c.set_byte.ensures.held c.set_byte.ensures.head
    c.args.fields c.loop-i.i c.byte.result c.loop-i.invariant (ap (slice_get o.units) (sym from) ∙ c.byte.ensures)
    (c.set_byte.ensures.objects ∙ ap (λ i. with_unit (g.L.Loader.loaded c.loop-i.loader).objects (value c.args.o) i c.byte.result) place)

pub returns : goal.returns
returns g c =
    let o = object_of (g.M.Memory.view c.args.m.now).objects (value c.args.o) in
    let e : c.loop-i.i ≡ c.args.units = omega arith in
    subst (λ n. PutsPart (g.L.Loader.loaded c.args.loader.now) (g.L.Loader.loaded c.loop-i.loader) (value c.args.o) c.args.fields n o) e c.loop-i.invariant

pub overflow_mul-fields : goal.overflow_mul-fields
overflow_mul-fields g c =
    let b = most_units (value c.args.o) (g.met.M.Memory.whole c.args.m.now) c.requires.live in
    let f = c.requires.fields in
    let u = c.requires.units in
    let t = c.loop-i-test.true in
    grind (arith, common_steps, b, f, u, t)

pub overflow_add-fields : goal.overflow_add-fields
overflow_add-fields g c =
    let b = most_units (value c.args.o) (g.met.M.Memory.whole c.args.m.now) c.requires.live in
    let f = c.requires.fields in
    let u = c.requires.units in
    let t = c.loop-i-test.true in
    grind (arith, common_steps, b, f, u, t)

pub overflow_mul-fields-in-loop-i : goal.overflow_mul-fields-in-loop-i
overflow_mul-fields-in-loop-i g c =
    let b = most_units (value c.args.o) (g.met.M.Memory.whole c.args.m.now) c.requires.live in
    let f = c.requires.fields in
    let u = c.requires.units in
    let t = c.loop-i-test.true in
    grind (arith, common_steps, b, f, u, t)

pub overflow_add-fields-in-loop-i : goal.overflow_add-fields-in-loop-i
overflow_add-fields-in-loop-i g c =
    let b = most_units (value c.args.o) (g.met.M.Memory.whole c.args.m.now) c.requires.live in
    let f = c.requires.fields in
    let u = c.requires.units in
    let t = c.loop-i-test.true in
    grind (arith, common_steps, b, f, u, t)
