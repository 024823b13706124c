use Rattle.std.proofs.Common.{◌≡◌, ℕ, ◌+◌, ◌*◌, ◌/◌, true, sym, ap, ◌∙◌, arith}
use Rattle.st_model.specs.declared.oop.Oop.{Oop}
use Rattle.st_model.specs.Values.{Ref, value}
use Rattle.st_model.specs.Table.{entry}
use Rattle.st_model.specs.View.{IsWhole, IsKnown, is_live, object_of}
use Rattle.st_heap.specs.inside.Tables.{objects_of}
use Rattle.st_counted.specs.declared.contents.Contents.{Contents}
use Rattle.st_counted.specs.inside.Counts.{number_at}
use Rattle.st_counted.specs.inside.Contents.{counts_of}
use Rattle.st_counted.specs.inside.References.{object_uses}
use Rattle.st_counted.specs.inside.Counted.{counted_view, numbers_of}
use Rattle.st_counted.proofs.Swept.{place_value, live_entry, dead_entry}
use Rattle.st_counted.proofs.Tallying.{known_counted, entered_tally, tally_entered, tally_same}
use Rattle.st_counted.proofs.Finishing.{class_known, raised_tally, raised_few, adds_object}
use Rattle.st_counted.proofs.contents.Contents.raise_object.Goals as goal

-- the class of a live object is one
class_named : (m : Contents) (k : ℕ) (o class : Oop) → IsWhole (counted_view m) → o.0 ≡ 2 * k → is_live (objects_of m.objects) (value o) ≡ true → value class ≡ Ref (object_of (objects_of m.objects) (value o)).class → IsKnown (objects_of m.objects) (value class)
class_named m k o class whole two live is =
    let t = objects_of m.objects in
    class_known (counted_view m) k (object_of t (value o)) (value class) whole (live_entry t (value o) k (place_value o.0 k two) live) is

pub add-requires-clause-counted : goal.add-requires-clause-counted
add-requires-clause-counted c small =
    let m = c.args.self.now in
    let known = class_named m c.args.k c.pointer_of-o.result c.class_of-class.result c.requires.whole c.pointer_of-o.ensures (sym c.live.ensures ∙ c.if-live.true) c.class_of-class.ensures in
    known_counted (objects_of m.objects) (number_at (numbers_of m)) (numbers_of m) c.class_of-class.result.0 (entered_tally (objects_of m.objects) (numbers_of m) c.requires.entered) known small

pub add-requires-clause-room : goal.add-requires-clause-room
add-requires-clause-room c = let a = c.requires.room (c.class_of-class.result.0 / 2) in omega (arith, a)

pub raise_fields-requires-clause-entered : goal.raise_fields-requires-clause-entered
raise_fields-requires-clause-entered c =
    let m = c.args.self.now in
    let known = class_named m c.args.k c.pointer_of-o.result c.class_of-class.result c.requires.whole c.pointer_of-o.ensures (sym c.live.ensures ∙ c.if-live.true) c.class_of-class.ensures in
    let cs1 = counts_of c.add.new.counts in
    tally_entered (objects_of m.objects) _ cs1 (raised_tally (objects_of m.objects) (numbers_of m) cs1 (value c.class_of-class.result) 1 c.requires.entered known c.add.ensures)

pub raise_fields-requires-clause-room : goal.raise_fields-requires-clause-room
raise_fields-requires-clause-room c = λ j.
    let m = c.args.self.now in
    let known = class_named m c.args.k c.pointer_of-o.result c.class_of-class.result c.requires.whole c.pointer_of-o.ensures (sym c.live.ensures ∙ c.if-live.true) c.class_of-class.ensures in
    let a = raised_few (objects_of m.objects) (numbers_of m) (counts_of c.add.new.counts) (value c.class_of-class.result) 1 j c.requires.entered known c.add.ensures in
    let b = c.requires.room j in omega (arith, a, b)

pub returns-then-live-clause-tallied : goal.returns-then-live-clause-tallied
returns-then-live-clause-tallied c =
    let m = c.args.self.now in
    let v = counted_view m in
    let cs = numbers_of m in
    let cs1 = counts_of c.add.new.counts in
    let x = value c.class_of-class.result in
    let o = object_of v.objects (value c.pointer_of-o.result) in
    let is = live_entry v.objects (value c.pointer_of-o.result) c.args.k (place_value c.pointer_of-o.result.0 c.args.k c.pointer_of-o.ensures) (sym c.live.ensures ∙ c.if-live.true) in
    adds_object v.objects cs cs1 (numbers_of c.raise_fields.new.self) c.args.k o x c.requires.entered (class_known v c.args.k o x c.requires.whole is c.class_of-class.ensures)
    c.class_of-class.ensures is c.add.ensures c.raise_fields.ensures.adds

pub returns-else-live-clause-tallied : goal.returns-else-live-clause-tallied
returns-else-live-clause-tallied c =
    let m = c.args.self.now in
    let v = counted_view m in
    let cs = numbers_of m in
    let dead = dead_entry v.objects (value c.pointer_of-o.result) c.args.k (place_value c.pointer_of-o.result.0 c.args.k c.pointer_of-o.ensures) (sym c.live.ensures ∙ c.if-live.false) in
    tally_same v.objects (number_at cs) (λ j. object_uses j (entry v.objects c.args.k) + number_at cs j) cs (entered_tally v.objects cs c.requires.entered)
    (λ j. let a : object_uses j (entry v.objects c.args.k) ≡ 0 = ap (object_uses j) dead in omega (arith, a))
