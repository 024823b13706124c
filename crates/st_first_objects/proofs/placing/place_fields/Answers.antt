use Rattle.std.proofs.Common.{◌≡◌, ℕ, ◌/◌, ◌+◌, length, replicate, List, [], arith, refl, sym, ap, subst, ◌∙◌, false, get_or}
use Rattle.std.specs.Prelude.{map, slice_set}
use Rattle.std.proofs.lemmas.Bool.{both_ways}
use Rattle.st_model.specs.declared.kind.Kind.TheVariants as kind
use Rattle.st_model.specs.Values.{Value, value}
use Rattle.st_model.specs.Objects.{Object, nil}
use Rattle.st_first_objects.specs.Pointers.{value_in}
use Rattle.st_first_objects.specs.inside.Placing.{Puts, filled}
use Rattle.st_first_objects.specs.inside.Views.{field_of, fields_of}
use Rattle.st_first_objects.specs.declared.content.Field.TheVariants.{Empty as code_empty}
use Rattle.st_first_objects.proofs.Tables.{put_first, put_live, put_object, put_field, filled_none, filled_all, filled_length, filled_next}
use Rattle.st_first_objects.proofs.Lists.{values_long, value_at}
use Rattle.st_first_objects.proofs.placing.place_fields.Goals as goal
use Rattle.st_model.proofs.Entries.{free_at}

abbrev fields_object : ℕ → List Value → Object
fields_object class fields = record { class = class; kind = kind.Pointers; fields = fields; units = [] }

pub place-requires-clause-free : goal.place-requires-clause-free
place-requires-clause-free g c = free_at (g.L.Loader.loaded c.args.loader.now) _ _ c.requires.can.here c.requires.can.free

pub loop-i-init : goal.loop-i-init
loop-i-init g c =
    let values = map (value_in c.args.plan.now.order.things) (fields_of c.args.fields.now) in
    put_first (g.L.Loader.loaded c.args.loader.now) (g.L.Loader.loaded c.place.new.self) _ _ (fields_object (c.args.class.0 / 2) (replicate (length c.args.fields.now) nil)) _
    c.requires.can.here c.place.ensures.objects
    (ap (fields_object (c.args.class.0 / 2)) (ap (λ n. replicate n nil) (sym (values_long c.args.plan.now.order.things c.args.fields.now)) ∙ filled_none nil values))
    c.place.ensures.held c.place.ensures.head

pub set_pointer-requires-clause-live : goal.set_pointer-requires-clause-live
set_pointer-requires-clause-live g c =
    put_live (g.L.Loader.loaded c.args.loader.now) (g.L.Loader.loaded c.loop-i.loader) _ _ c.requires.can.inside c.loop-i.invariant _ c.requires.can.here

pub set_pointer-requires-clause-range : goal.set_pointer-requires-clause-range
set_pointer-requires-clause-range g c =
    let values = map (value_in c.args.plan.now.order.things) (fields_of c.args.fields.now) in
    let l = filled_length nil values c.loop-i.i in
    let n = values_long c.args.plan.now.order.things c.args.fields.now in
    let t = c.loop-i-test.true in
    rw (put_object (g.L.Loader.loaded c.args.loader.now) (g.L.Loader.loaded c.loop-i.loader) _ _ c.requires.can.inside c.loop-i.invariant _ c.requires.can.here) (omega arith)

pub set_pointer-requires-clause-header : goal.set_pointer-requires-clause-header
set_pointer-requires-clause-header g c =
    rw (put_object (g.L.Loader.loaded c.args.loader.now) (g.L.Loader.loaded c.loop-i.loader) _ _ c.requires.can.inside c.loop-i.invariant _ c.requires.can.here)
    (λ e. absurd (both_ways false refl e))

pub loop-i-preserved : goal.loop-i-preserved
loop-i-preserved g c =
    let things = c.args.plan.now.order.things in
    let values = map (value_in things) (fields_of c.args.fields.now) in
    let n = values_long things c.args.fields.now in
    let is : value c.word.result ≡ get_or values c.loop-i.i (value_in things (field_of code_empty)) = c.word.ensures ∙ sym (value_at things c.args.fields.now c.loop-i.i code_empty) in
    let next : slice_set (filled nil values c.loop-i.i) c.loop-i.i (value c.word.result) ≡ filled nil values (c.loop-i.i + 1) =
    ap (slice_set (filled nil values c.loop-i.i) c.loop-i.i) is ∙ filled_next nil (value_in things (field_of code_empty)) values c.loop-i.i (let t = c.loop-i-test.true in omega arith) in
    subst (λ vs. Puts (g.L.Loader.loaded c.args.loader.now) (g.L.Loader.loaded c.set_pointer.new.self) (c.args.at.0 / 2) (fields_object (c.args.class.0 / 2) vs)) next
    (put_field (g.L.Loader.loaded c.args.loader.now) (g.L.Loader.loaded c.loop-i.loader) (g.L.Loader.loaded c.set_pointer.new.self) _ _ _ c.loop-i.i (value c.word.result)
    c.requires.can.inside c.requires.can.here c.loop-i.invariant c.set_pointer.ensures.objects c.set_pointer.ensures.held c.set_pointer.ensures.head)

pub returns : goal.returns
returns g c =
    let values = map (value_in c.args.plan.now.order.things) (fields_of c.args.fields.now) in
    let n = values_long c.args.plan.now.order.things c.args.fields.now in
    subst (λ vs. Puts (g.L.Loader.loaded c.args.loader.now) (g.L.Loader.loaded c.loop-i.loader) (c.args.at.0 / 2) (fields_object (c.args.class.0 / 2) vs))
    (filled_all nil values c.loop-i.i (let t = c.loop-i-test.false in omega arith)) c.loop-i.invariant
