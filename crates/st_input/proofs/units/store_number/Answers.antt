use Rattle.std.proofs.Common.{◌∙◌, ◌≡◌, ◌+◌, ◌-◌, ◌/◌, suc, sym, ap, arith}
use Rattle.st_model.specs.Values.{word}
use Rattle.st_model.specs.Primitives.{bytes_within}
use Rattle.st_model.specs.Deeds.{changed_by, bytes_stored}
use Rattle.st_input.proofs.Done.{last_byte, next_byte, no_byte}
use Rattle.st_input.proofs.units.store_number.Goals as goal

pub returns-then-left-lt256 : goal.returns-then-left-lt256
returns-then-left-lt256 g c = record {
  objects = last_byte (g.M.Memory.view c.loop-place.m).objects (g.M.Memory.view c.store_byte.new.m).objects (word c.args.object) c.loop-place.place c.loop-place.left c.loop-place-test.true c.if-left-lt256.true c.store_byte.ensures.objects
      ∙ c.loop-place.invariant.objects;
  held = c.store_byte.ensures.held ∙ c.loop-place.invariant.held;
  head = c.store_byte.ensures.head ∙ c.loop-place.invariant.head;
}

pub loop-place-preserved : goal.loop-place-preserved
loop-place-preserved g c =
    let k = c.loop-place.place in
    let v = word c.args.object in
    let e : k + 1 ≡ suc k = omega arith in
    record {
      objects = ap (λ n. changed_by (bytes_stored n (bytes_within (16 - n) (c.loop-place.left / 256))) (g.M.Memory.view c.store_byte-in-loop-place.new.m).objects v) e
          ∙ next_byte (g.M.Memory.view c.loop-place.m).objects (g.M.Memory.view c.store_byte-in-loop-place.new.m).objects v k c.loop-place.left c.loop-place-test.true c.if-left-lt256.false c.store_byte-in-loop-place.ensures.objects
          ∙ c.loop-place.invariant.objects;
      held = c.store_byte-in-loop-place.ensures.held ∙ c.loop-place.invariant.held;
      head = c.store_byte-in-loop-place.ensures.head ∙ c.loop-place.invariant.head;
    }

pub returns : goal.returns
returns g c =
    let t = (g.M.Memory.view c.loop-place.m).objects in
    let v = word c.args.object in
    let l = c.loop-place-test.false in
    let none : 16 - c.loop-place.place ≡ 0 = omega (arith, l) in
    record {
      objects = no_byte t v c.loop-place.place ∙ ap (λ n. changed_by (bytes_stored c.loop-place.place (bytes_within n c.loop-place.left)) t v) (sym none) ∙ c.loop-place.invariant.objects;
      held = c.loop-place.invariant.held;
      head = c.loop-place.invariant.head;
    }
