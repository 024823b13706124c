use Rattle.std.proofs.Common.{◌/◌, ℕ, length, replicate, List, [], arith, refl, ap, subst, get_or}
use Rattle.st_model.specs.declared.kind.Kind.TheVariants as kind
use Rattle.st_model.specs.Objects.{Object, first_unit}
use Rattle.st_first_objects.specs.inside.Placing.{Puts}
use Rattle.st_first_objects.proofs.Tables.{put_first, put_live, put_object, put_unit_at, filled_none, filled_all, filled_length, filled_next}
use Rattle.st_first_objects.proofs.placing.place_bytes.Goals as goal
use Rattle.st_model.proofs.Entries.{free_at}

abbrev bytes_object : ℕ → List ℕ → Object
bytes_object class units = record { class = class; kind = kind.Bytes; fields = []; units = units }

pub place-requires-clause-free : goal.place-requires-clause-free
place-requires-clause-free g c = free_at (g.L.Loader.loaded c.args.loader.now) _ _ c.requires.can.here c.requires.can.free

pub loop-i-init : goal.loop-i-init
loop-i-init g c =
    put_first (g.L.Loader.loaded c.args.loader.now) (g.L.Loader.loaded c.place.new.self) _ _ (bytes_object (c.args.class.0 / 2) (replicate (length c.args.bytes.now) 0)) _
    c.requires.can.here c.place.ensures.objects (ap (bytes_object (c.args.class.0 / 2)) (filled_none 0 c.args.bytes.now)) c.place.ensures.held c.place.ensures.head

pub set_byte-requires-clause-live : goal.set_byte-requires-clause-live
set_byte-requires-clause-live g c =
    put_live (g.L.Loader.loaded c.args.loader.now) (g.L.Loader.loaded c.loop-i.loader) _ _ c.requires.can.inside c.loop-i.invariant _ c.requires.can.here

pub set_byte-requires-clause-kind : goal.set_byte-requires-clause-kind
set_byte-requires-clause-kind g c =
    rw (put_object (g.L.Loader.loaded c.args.loader.now) (g.L.Loader.loaded c.loop-i.loader) _ _ c.requires.can.inside c.loop-i.invariant _ c.requires.can.here) refl

pub set_byte-requires-clause-above : goal.set_byte-requires-clause-above
set_byte-requires-clause-above g c =
    rw (put_object (g.L.Loader.loaded c.args.loader.now) (g.L.Loader.loaded c.loop-i.loader) _ _ c.requires.can.inside c.loop-i.invariant _ c.requires.can.here) (omega arith)

pub set_byte-requires-clause-range : goal.set_byte-requires-clause-range
set_byte-requires-clause-range g c =
    let l = filled_length 0 c.args.bytes.now c.loop-i.i in
    let t = c.loop-i-test.true in
    rw (put_object (g.L.Loader.loaded c.args.loader.now) (g.L.Loader.loaded c.loop-i.loader) _ _ c.requires.can.inside c.loop-i.invariant _ c.requires.can.here) (omega arith)

pub loop-i-preserved : goal.loop-i-preserved
loop-i-preserved g c =
    let first = ap first_unit (put_object (g.L.Loader.loaded c.args.loader.now) (g.L.Loader.loaded c.loop-i.loader) _ _ c.requires.can.inside c.loop-i.invariant _ c.requires.can.here) in
    subst (λ us. Puts (g.L.Loader.loaded c.args.loader.now) (g.L.Loader.loaded c.set_byte.new.self) (c.args.at.0 / 2) (bytes_object (c.args.class.0 / 2) us))
    (filled_next 0 0 c.args.bytes.now c.loop-i.i c.loop-i-test.true)
    (put_unit_at (g.L.Loader.loaded c.args.loader.now) (g.L.Loader.loaded c.loop-i.loader) (g.L.Loader.loaded c.set_byte.new.self) _ _ _ c.loop-i.i _ (get_or c.args.bytes.now c.loop-i.i 0)
    c.requires.can.inside c.requires.can.here c.loop-i.invariant c.set_byte.ensures.objects (omega (arith, first)) c.set_byte.ensures.held c.set_byte.ensures.head)

pub returns : goal.returns
returns g c =
    subst (λ us. Puts (g.L.Loader.loaded c.args.loader.now) (g.L.Loader.loaded c.loop-i.loader) (c.args.at.0 / 2) (bytes_object (c.args.class.0 / 2) us))
    (filled_all 0 c.args.bytes.now c.loop-i.i c.loop-i-test.false) c.loop-i.invariant
