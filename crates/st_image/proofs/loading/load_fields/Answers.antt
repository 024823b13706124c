use Rattle.std.proofs.Common.{◌≡◌, ℕ, arith, subst, ◌∙◌, add-one}
use Rattle.st_model.specs.Start.{fields_in, field_in}
use Rattle.st_image.specs.inside.Loads.{IsAt, Puts, fresh_in, filled_in, with_fields}
use Rattle.st_image.proofs.Shapes.{fields_range, fresh_in-class, fresh_in-fields}
use Rattle.st_image.proofs.Parts.{with_fields-length, with_fields-rest, header_is}
use Rattle.st_image.proofs.Tables.{puts_same, at_puts, puts_puts, live_at, object_at, puts_field}
use Rattle.st_image.proofs.loading.load_fields.Goals as goal

pub loop-i-init : goal.loop-i-init
loop-i-init g c = puts_same (g.L.Loader.loaded c.args.loader.now) c.args.k (fresh_in c.args.image.now.head c.args.image.now.bytes.now c.args.k) c.requires.at

pub body-requires-clause-range : goal.body-requires-clause-range
body-requires-clause-range g c = let a = fields_range c.args.image.now.head c.args.image.now.bytes.now c.args.k c.requires.shape.sound in let b = c.requires.shape.fields in omega arith

pub set_pointer-requires : goal.set_pointer-requires
set_pointer-requires g c =
    let at : IsAt (g.L.Loader.loaded c.loop-i.loader) c.args.k (with_fields (fresh_in c.args.image.now.head c.args.image.now.bytes.now c.args.k) (field_in c.args.image.now.head c.args.image.now.bytes.now c.args.k) c.loop-i.i) = at_puts (g.L.Loader.loaded c.args.loader.now) (g.L.Loader.loaded c.loop-i.loader) c.args.k _ c.requires.at.place c.loop-i.invariant in
    let there = object_at (g.L.Loader.loaded c.loop-i.loader) _ c.args.k _ c.pointer_of.ensures.value at in
    let l = with_fields-length (fresh_in c.args.image.now.head c.args.image.now.bytes.now c.args.k) (field_in c.args.image.now.head c.args.image.now.bytes.now c.args.k) c.loop-i.i ∙ fresh_in-fields c.args.image.now.head c.args.image.now.bytes.now c.args.k in
    let b = c.requires.shape.fields in
    record {
      live = live_at (g.L.Loader.loaded c.loop-i.loader) _ c.args.k _ c.pointer_of.ensures.value at;
      range = rw there (omega arith);
      header =
          rw (there, c.body.ensures)
          (header_is c.args.image.now.head c.args.image.now.bytes.now c.args.k c.loop-i.i (with_fields (fresh_in c.args.image.now.head c.args.image.now.bytes.now c.args.k) (field_in c.args.image.now.head c.args.image.now.bytes.now c.args.k) c.loop-i.i) c.requires.shape.sound ((with_fields-rest (fresh_in c.args.image.now.head c.args.image.now.bytes.now c.args.k) (field_in c.args.image.now.head c.args.image.now.bytes.now c.args.k) c.loop-i.i).1 ∙ (fresh_in-class c.args.image.now.head c.args.image.now.bytes.now c.args.k).1) l);
    }

pub loop-i-preserved : goal.loop-i-preserved
unfolding field_in
loop-i-preserved g c =
    let at : IsAt (g.L.Loader.loaded c.loop-i.loader) c.args.k (with_fields (fresh_in c.args.image.now.head c.args.image.now.bytes.now c.args.k) (field_in c.args.image.now.head c.args.image.now.bytes.now c.args.k) c.loop-i.i) = at_puts (g.L.Loader.loaded c.args.loader.now) (g.L.Loader.loaded c.loop-i.loader) c.args.k _ c.requires.at.place c.loop-i.invariant in
    rw (add-one, ← c.body.ensures)
    (puts_puts (g.L.Loader.loaded c.args.loader.now) (g.L.Loader.loaded c.loop-i.loader) (g.L.Loader.loaded c.set_pointer.new.self) c.args.k _ _ c.loop-i.invariant
    (puts_field (g.L.Loader.loaded c.loop-i.loader) (g.L.Loader.loaded c.set_pointer.new.self) _ c.args.k _ c.loop-i.i _ c.pointer_of.ensures.value at c.set_pointer.ensures.objects c.set_pointer.ensures.held c.set_pointer.ensures.head))

pub returns : goal.returns
unfolding filled_in
returns g c =
    let e : c.loop-i.i ≡ fields_in c.args.image.now.head c.args.image.now.bytes.now c.args.k = let a = c.requires.shape.fields in omega arith in
    subst (λ (n : ℕ). Puts (g.L.Loader.loaded c.args.loader.now) (g.L.Loader.loaded c.loop-i.loader) c.args.k (with_fields (fresh_in c.args.image.now.head c.args.image.now.bytes.now c.args.k) (field_in c.args.image.now.head c.args.image.now.bytes.now c.args.k) n)) e c.loop-i.invariant
