use Rattle.std.proofs.Common.{◌≡◌, ℕ, ◌*◌, ◌+◌, ◌-◌, length, arith, sym, subst, ap, ◌∙◌, add-one}
use Rattle.st_model.specs.Objects.{Object, is_words, first_unit}
use Rattle.st_model.specs.Values.{value}
use Rattle.st_model.specs.View.{object_of}
use Rattle.st_model.specs.Start.{units_in, unit_in}
use Rattle.st_image.specs.inside.Loads.{IsAt, Puts, filled_in, with_units}
use Rattle.st_image.proofs.Shapes.{bytes_range}
use Rattle.st_image.proofs.Parts.{with_units-length, with_units-rest, filled_in-rest, object_is, unit_byte}
use Rattle.st_image.proofs.Tables.{puts_same, at_puts, puts_puts, live_at, object_at, puts_unit_at}
use Rattle.st_image.proofs.loading.load_bytes.Goals as goal

pub loop-i-init : goal.loop-i-init
loop-i-init g c = puts_same (g.L.Loader.loaded c.args.loader.now) c.args.k (filled_in c.args.image.now.head c.args.image.now.bytes.now c.args.k) c.requires.at

pub bounds-image-start : goal.bounds-image-start
bounds-image-start g c =
    let a = bytes_range c.args.image.now.head c.args.image.now.bytes.now c.args.k c.requires.shape.sound c.requires.kind in
    let f = c.requires.shape.fields in
    let u = c.requires.shape.units in
    let s = c.requires.shape.sound.inside.space in
    omega arith

pub set_byte-requires : goal.set_byte-requires
set_byte-requires g c =
    let at : IsAt (g.L.Loader.loaded c.loop-i.loader) c.args.k (with_units (filled_in c.args.image.now.head c.args.image.now.bytes.now c.args.k) (unit_in c.args.image.now.head c.args.image.now.bytes.now c.args.k) c.loop-i.i) = at_puts (g.L.Loader.loaded c.args.loader.now) (g.L.Loader.loaded c.loop-i.loader) c.args.k _ c.requires.at.place c.loop-i.invariant in
    let there = object_at (g.L.Loader.loaded c.loop-i.loader) _ c.args.k _ c.pointer_of.ensures.value at in
    let rest = with_units-rest (filled_in c.args.image.now.head c.args.image.now.bytes.now c.args.k) (unit_in c.args.image.now.head c.args.image.now.bytes.now c.args.k) c.loop-i.i in
    let l = ap length rest.2 ∙ (filled_in-rest c.args.image.now.head c.args.image.now.bytes.now c.args.k).1 in
    let m = with_units-length (filled_in c.args.image.now.head c.args.image.now.bytes.now c.args.k) (unit_in c.args.image.now.head c.args.image.now.bytes.now c.args.k) c.loop-i.i ∙ (filled_in-rest c.args.image.now.head c.args.image.now.bytes.now c.args.k).2 in
    let b = c.requires.shape.fields in
    let d = c.requires.shape.units in
    record {
      live = live_at (g.L.Loader.loaded c.loop-i.loader) _ c.args.k _ c.pointer_of.ensures.value at;
      kind = rw there (ap is_words (rest.1 ∙ (filled_in-rest c.args.image.now.head c.args.image.now.bytes.now c.args.k).0) ∙ c.requires.kind);
      above = rw there (omega arith);
      range = rw there (omega arith);
    }

pub loop-i-preserved : goal.loop-i-preserved
loop-i-preserved g c =
    let at : IsAt (g.L.Loader.loaded c.loop-i.loader) c.args.k (with_units (filled_in c.args.image.now.head c.args.image.now.bytes.now c.args.k) (unit_in c.args.image.now.head c.args.image.now.bytes.now c.args.k) c.loop-i.i) = at_puts (g.L.Loader.loaded c.args.loader.now) (g.L.Loader.loaded c.loop-i.loader) c.args.k _ c.requires.at.place c.loop-i.invariant in
    let l = ap length (with_units-rest (filled_in c.args.image.now.head c.args.image.now.bytes.now c.args.k) (unit_in c.args.image.now.head c.args.image.now.bytes.now c.args.k) c.loop-i.i).2 ∙ (filled_in-rest c.args.image.now.head c.args.image.now.bytes.now c.args.k).1 in
    let b = c.requires.shape.fields in
    let place : 2 * c.args.shape.fields + c.loop-i.i - first_unit (object_of (g.L.Loader.loaded c.loop-i.loader).objects (value c.pointer_of.result)) ≡ c.loop-i.i =
    rw (object_at (g.L.Loader.loaded c.loop-i.loader) _ c.args.k _ c.pointer_of.ensures.value at) (omega arith) in
    rw add-one
    (puts_puts (g.L.Loader.loaded c.args.loader.now) (g.L.Loader.loaded c.loop-i.loader) (g.L.Loader.loaded c.set_byte.new.self) c.args.k _ _ c.loop-i.invariant
    (puts_unit_at (g.L.Loader.loaded c.loop-i.loader) (g.L.Loader.loaded c.set_byte.new.self) _ c.args.k _ c.loop-i.i (unit_in c.args.image.now.head c.args.image.now.bytes.now c.args.k c.loop-i.i) _ _ c.pointer_of.ensures.value at
    c.set_byte.ensures.objects place (rw (c.place.ensures, c.requires.shape.fields) (sym (unit_byte c.args.image.now.head c.args.image.now.bytes.now c.args.k c.loop-i.i c.requires.kind))) c.set_byte.ensures.held c.set_byte.ensures.head))

pub returns : goal.returns
returns g c =
    let e : c.loop-i.i ≡ units_in c.args.image.now.head c.args.image.now.bytes.now c.args.k = let a = c.requires.shape.units in omega arith in
    let p = subst (λ (n : ℕ). Puts (g.L.Loader.loaded c.args.loader.now) (g.L.Loader.loaded c.loop-i.loader) c.args.k (with_units (filled_in c.args.image.now.head c.args.image.now.bytes.now c.args.k) (unit_in c.args.image.now.head c.args.image.now.bytes.now c.args.k) n)) e c.loop-i.invariant in
    subst (λ (o : Object). Puts (g.L.Loader.loaded c.args.loader.now) (g.L.Loader.loaded c.loop-i.loader) c.args.k o) (object_is c.args.image.now.head c.args.image.now.bytes.now c.args.k) p
