use Rattle.std.proofs.Common.{◌≡◌, ℕ, true, ◌∷◌, ◌/◌, [], refl, sym, ◌∙◌, subst, arith}
use Rattle.std.specs.Prelude.{Some, slice_get}
use Rattle.st_model.specs.declared.oop.Oop.{Oop}
use Rattle.st_model.specs.Values.{value}
use Rattle.st_model.specs.View.{IsKnown, is_live, object_of, with_stored}
use Rattle.st_heap.specs.declared.objects.HeapObjects.{HeapObjects}
use Rattle.st_counted.specs.declared.contents.Contents.{Contents}
use Rattle.st_model.specs.Table.{Table}
use Rattle.st_counted.specs.inside.Contents.{counts_of}
use Rattle.st_heap.specs.inside.Tables.{objects_of}
use Rattle.st_counted.specs.inside.References.{all_roots, raised_by, IsCounted}
use Rattle.st_counted.specs.inside.Counted.{counted_view, numbers_of, AllCounted}
use Rattle.st_counted.proofs.Tallying.{hand_counted, hand_some}
use Rattle.st_counted.proofs.Listing.{stored_listed}
use Rattle.st_counted.proofs.Rooting.{counted_few}
use Rattle.st_counted.proofs.Storing.{name_counted, stored, lowered_to}
use Rattle.st_counted.proofs.contents.Contents.set_placed_pointer.Goals as goal

pub raise-requires-clause-counted : goal.raise-requires-clause-counted
raise-requires-clause-counted c small = name_counted c.args.self.now c.args.v c.requires.counted c.requires.known small

pub raise-requires-clause-room : goal.raise-requires-clause-room
raise-requires-clause-room c =
    let a = counted_few (counted_view c.args.self.now) [] (numbers_of c.args.self.now) (c.args.v.0 / 2) c.requires.whole c.requires.counted in omega (arith, a)

pub lower-requires : goal.lower-requires
lower-requires c =
    let v = counted_view c.args.self.now in
    let now = objects_of c.set_placed_field.new.self in
    let cs1 = counts_of c.raise.new.counts in
    let hand = stored v (numbers_of c.args.self.now) cs1 now (value c.args.o) c.args.at (value c.args.v) (value c.placed_field-old.result)
    c.requires.counted c.requires.known c.requires.live c.placed_field-old.ensures c.raise.ensures.counts c.set_placed_field.ensures.objects in
    record {
      counted = hand_counted now (all_roots v) [] cs1 c.placed_field-old.result.0 hand;
      some = hand_some now (all_roots v) [] cs1 c.placed_field-old.result.0 hand;
      listed = c.raise.ensures.listed;
    }

pub returns : goal.returns
returns c =
    let v = counted_view c.args.self.now in
    record {
      objects = c.lower.ensures.rest.objects ∙ c.raise.ensures.rest.objects ∙ c.set_placed_field.ensures.objects;
      held = refl;
      head = refl;
      counted =
          subst (λ (t : Table). IsCounted t (all_roots v) [] (counts_of c.lower.new.counts)) (sym (c.lower.ensures.rest.objects ∙ c.raise.ensures.rest.objects))
          (lowered_to (objects_of c.set_placed_field.new.self) (all_roots v) [] (counts_of c.raise.new.counts) (counts_of c.lower.new.counts) (value c.placed_field-old.result)
          (stored v (numbers_of c.args.self.now) (counts_of c.raise.new.counts) (objects_of c.set_placed_field.new.self) (value c.args.o) c.args.at (value c.args.v) (value c.placed_field-old.result)
          c.requires.counted c.requires.known c.requires.live c.placed_field-old.ensures c.raise.ensures.counts c.set_placed_field.ensures.objects) c.lower.ensures.counts);
      listed = c.lower.ensures.listed;
      room = λ h. c.lower.ensures.rest.room ∙ c.raise.ensures.rest.room ∙ c.set_placed_field.ensures.room ∙ h;
      places = λ k. c.lower.ensures.rest.places k ∙ c.raise.ensures.rest.places k ∙ c.set_placed_field.ensures.places k;
    }

-- the links stay where a field is stored
pub raise-requires-clause-listed : goal.raise-requires-clause-listed
raise-requires-clause-listed c =
    let e = c.set_placed_field.ensures in stored_listed c.args.self.now.objects c.set_placed_field.new.self c.args.self.now.counts (value c.args.o) c.args.at (value c.args.v) c.requires.listed e.links e.objects

-- the same where nothing referred to what is stored
pub names_unused-requires : goal.names_unused-requires
names_unused-requires c small = name_counted c.args.self.now c.args.v c.requires.counted c.requires.known small

-- what the field held is in hand once the new value is counted
old_in_hand : (m : Contents) (now : HeapObjects) (o y old : Oop) (i : ℕ) → AllCounted m → IsKnown (objects_of m.objects) (value y) → is_live (objects_of m.objects) (value o) ≡ true → slice_get (object_of (objects_of m.objects) (value o)).fields i ≡ Some (value old)
    → objects_of now ≡ with_stored (objects_of m.objects) (value o) i (value y) → IsCounted (objects_of now) (all_roots (counted_view m)) (value old ∷ []) (raised_by (numbers_of m) (value y) 1)
old_in_hand m now o y old i h known live there is = stored (counted_view m) (numbers_of m) (raised_by (numbers_of m) (value y) 1) (objects_of now) (value o) i (value y) (value old) h known live there refl is

pub count_store-requires : goal.count_store-requires
count_store-requires c =
    let m = c.args.self.now in
    let now = c.set_placed_field.new.self in
    let e = c.set_placed_field.ensures in
    let few = counted_few (counted_view m) [] (numbers_of m) (c.args.v.0 / 2) c.requires.whole c.requires.counted in
    let more = raised_by (numbers_of m) (value c.args.v) 1 in
    let hand = old_in_hand m now c.args.o c.args.v c.placed_field-old.result c.args.at c.requires.counted c.requires.known c.requires.live c.placed_field-old.ensures e.objects in
    record {
      counted = name_counted m c.args.v c.requires.counted c.requires.known;
      room = omega (arith, few);
      listed = stored_listed m.objects now m.counts (value c.args.o) c.args.at (value c.args.v) c.requires.listed e.links e.objects;
      stood = hand_counted (objects_of now) (all_roots (counted_view m)) [] more c.placed_field-old.result.0 hand;
      some = hand_some (objects_of now) (all_roots (counted_view m)) [] more c.placed_field-old.result.0 hand;
    }

pub returns-then-names_unused : goal.returns-then-names_unused
returns-then-names_unused c =
    let m = c.args.self.now in
    let now = c.set_placed_field.new.self in
    let roots = all_roots (counted_view m) in
    record {
      objects = c.count_store.ensures.rest.objects ∙ c.set_placed_field.ensures.objects;
      held = refl;
      head = refl;
      counted =
          subst (λ (u : Table). IsCounted u roots [] (counts_of c.count_store.new.counts)) (sym c.count_store.ensures.rest.objects)
          (lowered_to (objects_of now) roots [] (raised_by (numbers_of m) (value c.args.v) 1) (counts_of c.count_store.new.counts) (value c.placed_field-old.result) (old_in_hand m now c.args.o c.args.v c.placed_field-old.result c.args.at c.requires.counted c.requires.known c.requires.live c.placed_field-old.ensures c.set_placed_field.ensures.objects) c.count_store.ensures.counts);
      listed = c.count_store.ensures.listed;
      room = λ h. c.count_store.ensures.rest.room ∙ c.set_placed_field.ensures.room ∙ h;
      places = λ k. c.count_store.ensures.rest.places k ∙ c.set_placed_field.ensures.places k;
    }
