use Rattle.std.proofs.Common.{◌≡◌, ℕ, arith, sym, subst, ap, ◌∙◌, add-one}
use Rattle.st_model.specs.Objects.{Object, is_words}
use Rattle.st_model.specs.Start.{units_in, unit_in}
use Rattle.st_image.specs.inside.Loads.{IsAt, Puts, filled_in, with_units}
use Rattle.st_image.proofs.Shapes.{units_range}
use Rattle.st_image.proofs.Parts.{with_units-length, with_units-rest, filled_in-rest, object_is, unit_word}
use Rattle.st_image.proofs.Tables.{puts_same, at_puts, puts_puts, live_at, object_at, puts_unit}
use Rattle.st_image.proofs.loading.load_words.Goals as goal

pub loop-i-init : goal.loop-i-init
loop-i-init g c = puts_same (g.L.Loader.loaded c.args.loader.now) c.args.k (filled_in c.args.image.now.head c.args.image.now.bytes.now c.args.k) c.requires.at

pub body-requires-clause-range : goal.body-requires-clause-range
body-requires-clause-range g c = let a = units_range c.args.image.now.head c.args.image.now.bytes.now c.args.k c.requires.shape.sound c.requires.kind in let b = c.requires.shape.units in omega arith

pub set_word-requires : goal.set_word-requires
set_word-requires g c =
    let at : IsAt (g.L.Loader.loaded c.loop-i.loader) c.args.k (with_units (filled_in c.args.image.now.head c.args.image.now.bytes.now c.args.k) (unit_in c.args.image.now.head c.args.image.now.bytes.now c.args.k) c.loop-i.i) = at_puts (g.L.Loader.loaded c.args.loader.now) (g.L.Loader.loaded c.loop-i.loader) c.args.k _ c.requires.at.place c.loop-i.invariant in
    let there = object_at (g.L.Loader.loaded c.loop-i.loader) _ c.args.k _ c.pointer_of.ensures.value at in
    let l = with_units-length (filled_in c.args.image.now.head c.args.image.now.bytes.now c.args.k) (unit_in c.args.image.now.head c.args.image.now.bytes.now c.args.k) c.loop-i.i ∙ (filled_in-rest c.args.image.now.head c.args.image.now.bytes.now c.args.k).2 in
    let b = c.requires.shape.units in
    record {
      live = live_at (g.L.Loader.loaded c.loop-i.loader) _ c.args.k _ c.pointer_of.ensures.value at;
      kind = rw there (ap is_words ((with_units-rest (filled_in c.args.image.now.head c.args.image.now.bytes.now c.args.k) (unit_in c.args.image.now.head c.args.image.now.bytes.now c.args.k) c.loop-i.i).1 ∙ (filled_in-rest c.args.image.now.head c.args.image.now.bytes.now c.args.k).0) ∙ c.requires.kind);
      range = rw there (omega arith);
    }

pub loop-i-preserved : goal.loop-i-preserved
loop-i-preserved g c =
    let at : IsAt (g.L.Loader.loaded c.loop-i.loader) c.args.k (with_units (filled_in c.args.image.now.head c.args.image.now.bytes.now c.args.k) (unit_in c.args.image.now.head c.args.image.now.bytes.now c.args.k) c.loop-i.i) = at_puts (g.L.Loader.loaded c.args.loader.now) (g.L.Loader.loaded c.loop-i.loader) c.args.k _ c.requires.at.place c.loop-i.invariant in
    let u = unit_word c.args.image.now.head c.args.image.now.bytes.now c.args.k c.loop-i.i c.requires.kind ∙ sym c.body.ensures in
    rw (add-one, u)
    (puts_puts (g.L.Loader.loaded c.args.loader.now) (g.L.Loader.loaded c.loop-i.loader) (g.L.Loader.loaded c.set_word.new.self) c.args.k _ _ c.loop-i.invariant
    (puts_unit (g.L.Loader.loaded c.loop-i.loader) (g.L.Loader.loaded c.set_word.new.self) _ c.args.k _ c.loop-i.i _ c.pointer_of.ensures.value at c.set_word.ensures.objects c.set_word.ensures.held c.set_word.ensures.head))

pub returns : goal.returns
returns g c =
    let e : c.loop-i.i ≡ units_in c.args.image.now.head c.args.image.now.bytes.now c.args.k = let a = c.requires.shape.units in omega arith in
    let p = subst (λ (n : ℕ). Puts (g.L.Loader.loaded c.args.loader.now) (g.L.Loader.loaded c.loop-i.loader) c.args.k (with_units (filled_in c.args.image.now.head c.args.image.now.bytes.now c.args.k) (unit_in c.args.image.now.head c.args.image.now.bytes.now c.args.k) n)) e c.loop-i.invariant in
    subst (λ (o : Object). Puts (g.L.Loader.loaded c.args.loader.now) (g.L.Loader.loaded c.loop-i.loader) c.args.k o) (object_is c.args.image.now.head c.args.image.now.bytes.now c.args.k) p
