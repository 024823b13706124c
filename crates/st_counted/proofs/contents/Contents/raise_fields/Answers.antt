use Rattle.std.proofs.Common.{◌≡◌, ℕ, ◌+◌, ◌/◌, ◌<◌, true, refl, sym, ap, ◌∙◌, subst, length, take, arith}
use Rattle.std.specs.Prelude.{Some, slice_get}
use Rattle.std.proofs.lemmas.List.{length-take-le}
use Rattle.std.proofs.Math.Seq.{take-length}
use Rattle.st_model.specs.Values.{Value, value}
use Rattle.st_model.specs.View.{is_live, object_of}
use Rattle.st_model.proofs.WholeLemmas.{formed_live, field_known}
use Rattle.st_counted.specs.inside.Counts.{number_at}
use Rattle.st_counted.specs.inside.Contents.{counts_of}
use Rattle.st_heap.specs.inside.Tables.{objects_of}
use Rattle.st_heap.specs.declared.objects.HeapObjects.{HeapObjects}
use Rattle.st_counted.specs.declared.contents.Contents.{Contents}
use Rattle.st_counted.specs.inside.References.{times, AddsReferences}
use Rattle.st_counted.specs.inside.Counted.{counted_view, numbers_of}
use Rattle.st_counted.proofs.Tallying.{known_counted, tally_most}
use Rattle.st_counted.proofs.Rooting.{times_few}
use Rattle.st_counted.proofs.Finishing.{few_fields, times_more, adds_none, adds_more}
use Rattle.st_counted.proofs.contents.Contents.raise_fields.Goals as goal

-- the field that was read, in the objects of the beginning
same_field : (m l : Contents) (o : Value) (i : ℕ) (x : Value) → m.objects ≡ l.objects → slice_get (object_of (objects_of m.objects) o).fields i ≡ Some x → slice_get (object_of (objects_of l.objects) o).fields i ≡ Some x
same_field m l o i x same h = subst (λ (y : HeapObjects). slice_get (object_of (objects_of y) o).fields i ≡ Some x) same h

pub field-v-requires-clause-live : goal.field-v-requires-clause-live
field-v-requires-clause-live c = subst (λ (m : Contents). is_live (objects_of m.objects) (value c.args.o) ≡ true) (sym c.loop-i.invariant.rest) c.requires.live

pub field-v-requires-clause-range : goal.field-v-requires-clause-range
field-v-requires-clause-range c =
    let count = c.count_fields-i-end.ensures in
    let within : c.loop-i.i < length (object_of (counted_view c.args.self.now).objects (value c.args.o)).fields = omega (arith, count) in
    subst (λ (m : Contents). c.loop-i.i < length (object_of (objects_of m.objects) (value c.args.o)).fields) (sym c.loop-i.invariant.rest) within

pub add-requires-clause-counted : goal.add-requires-clause-counted
add-requires-clause-counted c small =
    let v = counted_view c.args.self.now in
    let i = c.loop-i.invariant in
    let is = same_field c.loop-i.self c.args.self.now (value c.args.o) c.loop-i.i (value c.field-v.result) (ap (λ (m : Contents). m.objects) i.rest) c.field-v.ensures in
    known_counted v.objects _ (numbers_of c.loop-i.self) c.field-v.result.0 i.adds (field_known v c.requires.whole (value c.args.o) c.requires.live c.loop-i.i (value c.field-v.result) is) small

pub add-requires-clause-room : goal.add-requires-clause-room
add-requires-clause-room c =
    let v = counted_view c.args.self.now in
    let fields = (object_of v.objects (value c.args.o)).fields in
    let i = c.loop-i.invariant in
    let k = c.field-v.result.0 / 2 in
    let count = c.count_fields-i-end.ensures in
    let few = few_fields (object_of v.objects (value c.args.o)) (formed_live v c.requires.whole (value c.args.o) c.requires.live) in
    let a = tally_most v.objects (λ j. times j (take c.loop-i.i fields) + number_at (numbers_of c.args.self.now) j) (numbers_of c.loop-i.self) k i.adds in
    let b = times_few k (take c.loop-i.i fields) in
    let d = length-take-le c.loop-i.i fields (omega (arith, count)) in
    let e = c.requires.room k in omega (arith, a, b, d, e, few, count)

pub loop-i-init : goal.loop-i-init
loop-i-init c = record { adds = adds_none (counted_view c.args.self.now).objects (numbers_of c.args.self.now) c.requires.entered; rest = refl }

pub loop-i-preserved : goal.loop-i-preserved
loop-i-preserved c =
    let m = c.args.self.now in
    let v = counted_view m in
    let fields = (object_of v.objects (value c.args.o)).fields in
    let i = c.loop-i.invariant in
    let at = c.loop-i.i in
    let x = value c.field-v.result in
    let count = c.count_fields-i-end.ensures in
    let is = same_field c.loop-i.self m (value c.args.o) at x (ap (λ (l : Contents). l.objects) i.rest) c.field-v.ensures in
    record {
      adds = adds_more v.objects (numbers_of m) (numbers_of c.loop-i.self) (counts_of c.add.new.counts) (take at fields) (take (at + 1) fields) x c.requires.entered i.adds
          (field_known v c.requires.whole (value c.args.o) c.requires.live at x is) c.add.ensures (λ j. times_more j fields at x (omega (arith, count)) is);
      rest = ap (λ (l : Contents). record l { counts = c.add.new.counts }) i.rest;
    }

pub returns-clause-adds : goal.returns-clause-adds
returns-clause-adds c =
    let m = c.args.self.now in
    let v = counted_view m in
    let fields = (object_of v.objects (value c.args.o)).fields in
    let count = c.count_fields-i-end.ensures in
    let end : c.loop-i.i ≡ length fields = omega (arith, count) in
    subst (AddsReferences v.objects (numbers_of m) (numbers_of c.loop-i.self)) (ap (λ n. take n fields) end ∙ take-length fields) c.loop-i.invariant.adds
