use Rattle.std.proofs.Common.{◌≡◌, ◌≢◌, ℕ, ◌+◌, ◌<◌, List, [], ◌∷◌, ◌++◌, length, drop, replicate, refl, sym, ap, ◌∙◌, subst, arith}
use Rattle.std.specs.Prelude.{Option, Some, None, slice_get, slice_set}
use Rattle.st_model.specs.Values.{Value, value, value_of}
use Rattle.st_model.specs.Objects.{nil}
use Rattle.st_model.specs.Table.{Table}
use Rattle.st_model.specs.View.{is_live, object_of}
use Rattle.st_table.specs.inside.Entries.{place}
use Rattle.st_counted.specs.inside.Contents.{counts_of}
use Rattle.st_heap.specs.inside.Places.{SamePlaces}
use Rattle.st_heap.specs.inside.Tables.{objects_of}
use Rattle.st_counted.specs.declared.contents.Contents.{Contents}
use Rattle.st_counted.specs.inside.References.{all_roots, IsCounted}
use Rattle.st_counted.specs.inside.Counted.{counted_view, numbers_of, SameButLinks}
use Rattle.st_counted.specs.inside.Links.{IsListed}
use Rattle.st_counted.proofs.Moved.{moved}
use Rattle.st_counted.proofs.Placed.{all_stand}
use Rattle.st_counted.proofs.Tallying.{hand_counted, hand_some}
use Rattle.st_counted.proofs.Storing.{nil_is, lowered_to, dropped_all, taken_in_hand, nil_more, nils_counted, nils_few, without_nils}
use Rattle.st_counted.proofs.contents.Contents.lower_fields.Goals as goal
use Rattle.st_counted.proofs.contents.Contents.lower_fields.Goals.{then-v, else-v}

-- the field that is read is the first in hand
next_first : (m l : Contents) (t : Table) (o : Value) (roots : List Value) (nils i : ℕ) (x : Value) → SameButLinks m l → i < length (object_of (objects_of m.objects) o).fields → slice_get (object_of (objects_of l.objects) o).fields i ≡ Some x
    → IsCounted t roots (replicate nils nil ++ drop i (object_of (objects_of m.objects) o).fields) (numbers_of l) → IsCounted t roots (x ∷ (replicate nils nil ++ drop (i + 1) (object_of (objects_of m.objects) o).fields)) (numbers_of l)
next_first m l t o roots nils i x rest within is h =
    let there : slice_get (object_of (objects_of m.objects) o).fields i ≡ Some x = subst (λ (u : Table). slice_get (object_of u o).fields i ≡ Some x) rest.objects is in
    taken_in_hand t roots (numbers_of l) nils (object_of (objects_of m.objects) o).fields i x within there h

pub placed_field-v-requires-clause-live : goal.placed_field-v-requires-clause-live
placed_field-v-requires-clause-live c = ap (λ (t : Table). is_live t (value c.args.o)) c.loop-i.invariant.rest.objects ∙ c.requires.live

pub placed_field-v-requires-clause-range : goal.placed_field-v-requires-clause-range
placed_field-v-requires-clause-range c =
    let count = c.count_fields-i-end.ensures in
    let within : c.loop-i.i < length (object_of (counted_view c.args.self.now).objects (value c.args.o)).fields = omega (arith, count) in
    subst (λ (t : Table). c.loop-i.i < length (object_of t (value c.args.o)).fields) (sym c.loop-i.invariant.rest.objects) within

-- where the object stands it stood
pub placed_field-v-requires-clause-place : goal.placed_field-v-requires-clause-place
placed_field-v-requires-clause-place c = all_stand c.args.self.now.objects c.loop-i.self.objects c.loop-i.invariant.places (value c.args.o) c.place_of-stand.result c.place_of-stand.ensures

pub lower-requires : goal.lower-requires
lower-requires c =
    let m = c.args.self.now in
    let v = counted_view m in
    let t = slice_set v.objects (place c.args.o) None in
    let i = c.loop-i.invariant in
    let count = c.count_fields-i-end.ensures in
    let first = next_first m c.loop-i.self t (value c.args.o) (all_roots v) c.loop-i.nils c.loop-i.i (value c.placed_field-v.result) i.rest (omega (arith, count)) c.placed_field-v.ensures i.counted in
    record {
      counted = hand_counted t (all_roots v) _ (numbers_of c.loop-i.self) c.placed_field-v.result.0 first;
      some = hand_some t (all_roots v) _ (numbers_of c.loop-i.self) c.placed_field-v.result.0 first;
      listed = i.listed;
    }

pub loop-i-init : goal.loop-i-init
loop-i-init c = record { counted = c.requires.counted; few = omega arith; listed = c.requires.listed; rest = record { objects = refl; room = refl; roots = refl; head = refl }; places = λ k. refl }

pub loop-i-preserved : goal.loop-i-preserved
loop-i-preserved c =
    let m = c.args.self.now in
    let v = counted_view m in
    let t = slice_set v.objects (place c.args.o) None in
    let i = c.loop-i.invariant in
    let count = c.count_fields-i-end.ensures in
    let fields = (object_of v.objects (value c.args.o)).fields in
    let left = drop (c.loop-i.i + 1) fields in
    let first = next_first m c.loop-i.self t (value c.args.o) (all_roots v) c.loop-i.nils c.loop-i.i (value c.placed_field-v.result) i.rest (omega (arith, count)) c.placed_field-v.ensures i.counted in
    elim c.if-v.branch [
      | then-v w ↦
          let met : value c.placed_field-v.result ≡ nil = ap value_of w.if-v.true ∙ nil_is in
          let more = nil_more t (all_roots v) (numbers_of c.loop-i.self) c.loop-i.nils left (value c.placed_field-v.result) met first in
          record {
            counted = subst (λ (l : Contents). IsCounted t (all_roots v) (replicate c.if-v.nils nil ++ left) (numbers_of l)) (sym w.self-is)
                (subst (λ n. IsCounted t (all_roots v) (replicate n nil ++ left) (numbers_of c.loop-i.self)) (sym w.nils-is) more);
            few = omega (arith, w.nils-is, i.few);
            listed = subst (λ (l : Contents). IsListed l.objects l.counts) (sym w.self-is) i.listed;
            rest = subst (λ (l : Contents). SameButLinks m l) (sym w.self-is) i.rest;
            places = subst (λ (l : Contents). SamePlaces m.objects.store l.objects.store) (sym w.self-is) i.places;
          }
      | else-v w ↦
          let less = lowered_to t (all_roots v) (replicate c.loop-i.nils nil ++ left) (numbers_of c.loop-i.self) (counts_of w.lower.new.counts) (value c.placed_field-v.result) first w.lower.ensures.counts in
          record {
            counted = subst (λ n. IsCounted t (all_roots v) (replicate n nil ++ left) (numbers_of c.if-v.self)) (sym w.nils-is)
                (subst (λ (l : Contents). IsCounted t (all_roots v) (replicate c.loop-i.nils nil ++ left) (numbers_of l)) (sym w.self-is) less);
            few = omega (arith, w.nils-is, i.few);
            listed = subst (λ (l : Contents). IsListed l.objects l.counts) (sym w.self-is) w.lower.ensures.listed;
            rest = subst (λ (l : Contents). SameButLinks m l) (sym w.self-is) (record { objects = w.lower.ensures.rest.objects ∙ i.rest.objects; room = w.lower.ensures.rest.room ∙ i.rest.room; roots = i.rest.roots; head = i.rest.head });
            places = subst (λ (l : Contents). SamePlaces m.objects.store l.objects.store) (sym w.self-is) (λ k. w.lower.ensures.rest.places k ∙ i.places k);
          }
    ]

-- nil alone is in hand
all_met : (t : Table) (roots : List Value) (cs : List (Option ℕ)) (nils n : ℕ) (fields : List Value) → n ≡ length fields → IsCounted t roots (replicate nils nil ++ drop n fields) cs → IsCounted t roots (replicate nils nil ++ []) cs
all_met t roots cs nils n fields end h = subst (λ xs. IsCounted t roots (replicate nils nil ++ xs) cs) (dropped_all fields n end) h

pub lower-requires-then-nils-gt0 : goal.lower-requires-then-nils-gt0
lower-requires-then-nils-gt0 c =
    let v = counted_view c.args.self.now in
    let t = slice_set v.objects (place c.args.o) None in
    let count = c.count_fields-i-end.ensures in
    let some = c.if-nils-gt0.true in
    let more : c.loop-i.nils ≢ 0 = omega (arith, some) in
    let met = all_met t (all_roots v) _ c.loop-i.nils c.loop-i.i (object_of v.objects (value c.args.o)).fields (omega (arith, count)) c.loop-i.invariant.counted in
    record {
      counted = nils_counted t (all_roots v) (numbers_of c.loop-i.self) c.loop-i.nils more met;
      some = omega (arith, some);
      most = nils_few t (all_roots v) (numbers_of c.loop-i.self) c.loop-i.nils more met;
      listed = c.loop-i.invariant.listed;
    }

pub returns-then-nils-gt0-clause-counted : goal.returns-then-nils-gt0-clause-counted
returns-then-nils-gt0-clause-counted c =
    let m = c.args.self.now in
    let v = counted_view m in
    let t = slice_set v.objects (place c.args.o) None in
    let i = c.loop-i.invariant in
    let count = c.count_fields-i-end.ensures in
    let fields = (object_of v.objects (value c.args.o)).fields in
    let some = c.if-nils-gt0.true in
    let e = c.lower-then-nils-gt0.ensures in
    let cs = counts_of c.lower-then-nils-gt0.new.self in
    moved m (record c.loop-i.self { objects = c.lower-then-nils-gt0.new.objects }) (place c.args.o) [] cs
    (record { objects = e.rest.objects ∙ i.rest.objects; room = e.rest.room ∙ i.rest.room; roots = i.rest.roots; head = i.rest.head })
    (subst (λ ns. IsCounted t (all_roots v) [] ns) (sym e.counts)
    (without_nils t (all_roots v) (numbers_of c.loop-i.self) c.loop-i.nils (omega (arith, some)) (all_met t (all_roots v) _ c.loop-i.nils c.loop-i.i fields (omega (arith, count)) i.counted)))

pub returns-then-nils-gt0-clause-rest : goal.returns-then-nils-gt0-clause-rest
returns-then-nils-gt0-clause-rest c =
    let i = c.loop-i.invariant in
    let e = c.lower-then-nils-gt0.ensures in
    record { objects = e.rest.objects ∙ i.rest.objects; room = e.rest.room ∙ i.rest.room; roots = i.rest.roots; head = i.rest.head }

pub returns-else-nils-gt0-clause-counted : goal.returns-else-nils-gt0-clause-counted
returns-else-nils-gt0-clause-counted c =
    let m = c.args.self.now in
    let v = counted_view m in
    let i = c.loop-i.invariant in
    let count = c.count_fields-i-end.ensures in
    let fields = (object_of v.objects (value c.args.o)).fields in
    let t = slice_set v.objects (place c.args.o) None in
    let none : c.loop-i.nils ≡ 0 = omega (arith, c.if-nils-gt0.false) in
    moved m c.loop-i.self (place c.args.o) [] (numbers_of c.loop-i.self) i.rest
    (subst (λ n. IsCounted t (all_roots v) (replicate n nil ++ []) (numbers_of c.loop-i.self)) none
    (all_met t (all_roots v) _ c.loop-i.nils c.loop-i.i fields (omega (arith, count)) i.counted))

pub returns-then-nils-gt0-clause-places : goal.returns-then-nils-gt0-clause-places
returns-then-nils-gt0-clause-places c = λ k. c.lower-then-nils-gt0.ensures.rest.places k ∙ c.loop-i.invariant.places k
