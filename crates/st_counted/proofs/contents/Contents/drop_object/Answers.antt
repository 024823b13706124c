use Rattle.std.proofs.Common.{◌≡◌, ℕ, ◌*◌, ◌/◌, ◌<◌, List, [], ◌∷◌, set, true, sym, ap, ◌∙◌, subst, arith}
use Rattle.std.specs.Prelude.{Option, None, slice_set}
use Rattle.st_model.specs.declared.oop.Oop.{Oop}
use Rattle.st_model.specs.Values.{Ref, value}
use Rattle.st_model.specs.Table.{Table}
use Rattle.st_model.specs.View.{is_live, object_of}
use Rattle.st_counted.specs.inside.Counts.{is_unused}
use Rattle.st_counted.specs.inside.Contents.{counts_of}
use Rattle.st_heap.specs.declared.objects.HeapObjects.{HeapObjects}
use Rattle.st_heap.specs.inside.Tables.{objects_of}
use Rattle.st_heap.proofs.Placing.{length-objects}
use Rattle.st_counted.specs.declared.contents.Contents.{Contents}
use Rattle.st_counted.specs.declared.contents.Head.{Head}
use Rattle.st_counted.specs.inside.Held.{held_of}
use Rattle.st_counted.specs.inside.References.{all_roots, references, IsCounted}
use Rattle.st_counted.specs.inside.Counted.{counted_view, numbers_of, AllCounted}
use Rattle.st_counted.proofs.Swept.{place_value, live_entry}
use Rattle.st_counted.proofs.Tallying.{hand_counted, hand_some}
use Rattle.st_counted.proofs.Dropping.{unused_live, counted_dropped}
use Rattle.st_counted.proofs.Listing.{listed_gone}
use Rattle.st_counted.proofs.Storing.{lowered_to}
use Rattle.st_counted.proofs.contents.Contents.drop_object.Goals as goal

-- the class and the fields of the object are in hand
in_hand : (m : Contents) (left : HeapObjects) (cs1 : List (Option ℕ)) (k : ℕ) (o class : Oop) → AllCounted m → is_unused (numbers_of m) k ≡ true → k < 32768 → o.0 ≡ 2 * k → value class ≡ Ref (object_of (objects_of left) (value o)).class
    → objects_of left ≡ objects_of m.objects → cs1 ≡ set (numbers_of m) k None → IsCounted (slice_set (objects_of m.objects) k None) (all_roots (counted_view m)) (value class ∷ (object_of (objects_of m.objects) (value o)).fields) cs1
in_hand m left cs1 k o class h unused within two is same gone =
    let t = objects_of m.objects in
    let roots = all_roots (counted_view m) in
    let x = value o in
    let named = place_value o.0 k two in
    let live = ap (is_live t) named ∙ unused_live t (references t roots []) (numbers_of m) k h.tallied unused in
    subst (λ ns. IsCounted (slice_set t k None) roots (value class ∷ (object_of t x).fields) ns) (sym gone)
    (subst (λ y. IsCounted (slice_set t k None) roots (y ∷ (object_of t x).fields) (set (numbers_of m) k None)) (sym (is ∙ ap (λ (u : Table). Ref (object_of u x).class) same))
    (counted_dropped t roots (numbers_of m) k (object_of t x) h unused (live_entry t x k named live) (subst (λ n. k < n) (sym (length-objects m.objects.store)) within)))

pub class_of-class-requires : goal.class_of-class-requires
class_of-class-requires c =
    let v = counted_view c.args.self.now in
    ap (λ (t : Table). is_live t (value c.pointer_of-o.result)) c.leave.ensures.rest.objects
    ∙ ap (is_live v.objects) (place_value c.pointer_of-o.result.0 c.args.k c.pointer_of-o.ensures)
    ∙ unused_live v.objects (references v.objects (all_roots v) []) (numbers_of c.args.self.now) c.args.k c.requires.counted.tallied c.requires.unused

pub lower-requires : goal.lower-requires
lower-requires c =
    let m = c.args.self.now in
    let t = objects_of m.objects in
    let rest = slice_set t c.args.k None in
    let fields = (object_of t (value c.pointer_of-o.result)).fields in
    let hand = in_hand m c.leave.new.objects (counts_of c.leave.new.self) c.args.k c.pointer_of-o.result c.class_of-class.result c.requires.counted c.requires.unused c.requires.place c.pointer_of-o.ensures c.class_of-class.ensures c.leave.ensures.rest.objects c.leave.ensures.counts in
    record {
      counted = hand_counted rest (all_roots (counted_view m)) fields (counts_of c.leave.new.self) c.class_of-class.result.0 hand;
      some = hand_some rest (all_roots (counted_view m)) fields (counts_of c.leave.new.self) c.class_of-class.result.0 hand;
      listed = c.leave.ensures.listed;
    }

pub lower_fields-requires-clause-live : goal.lower_fields-requires-clause-live
lower_fields-requires-clause-live c =
    let v = counted_view c.args.self.now in
    ap (λ (t : Table). is_live t (value c.pointer_of-o.result)) (c.lower.ensures.rest.objects ∙ c.leave.ensures.rest.objects)
    ∙ ap (is_live v.objects) (place_value c.pointer_of-o.result.0 c.args.k c.pointer_of-o.ensures)
    ∙ unused_live v.objects (references v.objects (all_roots v) []) (numbers_of c.args.self.now) c.args.k c.requires.counted.tallied c.requires.unused

pub lower_fields-requires-clause-counted : goal.lower_fields-requires-clause-counted
lower_fields-requires-clause-counted c =
    let m = c.args.self.now in
    let v = counted_view m in
    let k = c.args.k in
    let x = value c.pointer_of-o.result in
    let two = c.pointer_of-o.ensures in
    let half : c.pointer_of-o.result.0 / 2 ≡ k = omega (arith, two) in
    subst (λ (t : Table). IsCounted (slice_set t (c.pointer_of-o.result.0 / 2) None) (all_roots v) (object_of t x).fields (counts_of c.lower.new.counts)) (sym (c.lower.ensures.rest.objects ∙ c.leave.ensures.rest.objects))
    (subst (λ n. IsCounted (slice_set v.objects n None) (all_roots v) (object_of v.objects x).fields (counts_of c.lower.new.counts)) (sym half)
    (lowered_to (slice_set v.objects k None) (all_roots v) (object_of v.objects x).fields (counts_of c.leave.new.self) (counts_of c.lower.new.counts) (value c.class_of-class.result)
    (in_hand m c.leave.new.objects (counts_of c.leave.new.self) c.args.k c.pointer_of-o.result c.class_of-class.result c.requires.counted c.requires.unused c.requires.place c.pointer_of-o.ensures c.class_of-class.ensures c.leave.ensures.rest.objects c.leave.ensures.counts) c.lower.ensures.counts))

pub remove-requires : goal.remove-requires
remove-requires c =
    let v = counted_view c.args.self.now in
    ap (λ (t : Table). is_live t (value c.pointer_of-o.result)) (c.lower_fields.ensures.rest.objects ∙ c.lower.ensures.rest.objects ∙ c.leave.ensures.rest.objects)
    ∙ ap (is_live v.objects) (place_value c.pointer_of-o.result.0 c.args.k c.pointer_of-o.ensures)
    ∙ unused_live v.objects (references v.objects (all_roots v) []) (numbers_of c.args.self.now) c.args.k c.requires.counted.tallied c.requires.unused

pub returns-clause-objects : goal.returns-clause-objects
returns-clause-objects c =
    let v = counted_view c.args.self.now in
    let two = c.pointer_of-o.ensures in
    let half : c.pointer_of-o.result.0 / 2 ≡ c.args.k = omega (arith, two) in
    c.remove.ensures.objects
    ∙ ap (λ (t : Table). slice_set t (c.pointer_of-o.result.0 / 2) None) (c.lower_fields.ensures.rest.objects ∙ c.lower.ensures.rest.objects ∙ c.leave.ensures.rest.objects)
    ∙ ap (λ n. slice_set v.objects n None) half

pub returns-clause-held : goal.returns-clause-held
returns-clause-held c = ap held_of c.lower_fields.ensures.rest.roots

pub returns-clause-head : goal.returns-clause-head
returns-clause-head c = c.lower_fields.ensures.rest.head

pub returns-clause-counted : goal.returns-clause-counted
returns-clause-counted c =
    let l = c.lower_fields.new.self in
    subst (λ (t : Table). IsCounted t (all_roots (counted_view l)) [] (numbers_of l)) (sym c.remove.ensures.objects) c.lower_fields.ensures.counted

pub returns-clause-listed : goal.returns-clause-listed
returns-clause-listed c =
    let l = c.lower_fields.new.self in
    listed_gone l.objects c.remove.new.self l.counts (objects_of l.objects) _ (c.pointer_of-o.result.0 / 2) c.lower_fields.ensures.listed c.remove.ensures.links c.lower_fields.ensures.counted.tallied c.remove.ensures.objects

pub returns-clause-room : goal.returns-clause-room
returns-clause-room c = λ h.
    let rest = c.lower_fields.ensures.rest in
    c.remove.ensures.room ∙ rest.room ∙ c.lower.ensures.rest.room ∙ c.leave.ensures.rest.room ∙ h ∙ sym (ap (λ (y : Head). y.capacity.words) rest.head)

pub returns-clause-places : goal.returns-clause-places
returns-clause-places c = λ k other.
    let two = c.pointer_of-o.ensures in
    let half : c.pointer_of-o.result.0 / 2 ≡ c.args.k = omega (arith, two) in
    c.remove.ensures.places k (λ q. other (q ∙ half)) ∙ c.lower_fields.ensures.places k ∙ c.lower.ensures.rest.places k ∙ c.leave.ensures.rest.places k
