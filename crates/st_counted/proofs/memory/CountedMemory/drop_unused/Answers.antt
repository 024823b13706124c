use Rattle.std.proofs.Common.{◌<◌, List, [], sym, ap, ◌∙◌, subst, refl}
use Rattle.std.specs.Prelude.{None, slice_set}
use Rattle.st_model.specs.Values.{Value}
use Rattle.st_model.specs.Objects.{one}
use Rattle.st_model.specs.Table.{Table, total_used}
use Rattle.st_model.specs.View.{view_roots, head_of}
use Rattle.st_model.proofs.Settling.{DropsTo, drops_none, left}
use Rattle.st_model.proofs.Rounds.{KeepsNeeded, drops_all, whole_settled, moved_roots}
use Rattle.st_counted.specs.declared.contents.Head.{Head}
use Rattle.st_counted.specs.inside.References.{all_roots, references}
use Rattle.st_counted.specs.inside.Counted.{counted_view, numbers_of}
use Rattle.st_counted.proofs.Dropping.{no_reference, keeps_left, without_is, fewer, settles_to, unused_within}
use Rattle.st_counted.proofs.Placed.{left_live, left_stand}
use Rattle.st_counted.proofs.memory.CountedMemory.drop_unused.Goals as goal

pub drop_object-requires-clause-place : goal.drop_object-requires-clause-place
drop_object-requires-clause-place c =
    let m = c.loop-k.self.contents in
    subst (λ n. c.in-Some.k < n) m.counts.places (unused_within (numbers_of m) c.in-Some.k c.in-Some.ensures.found)

pub invariant_of-self : goal.invariant_of-self
invariant_of-self c =
    let m = c.loop-k.self in
    let v = counted_view m.contents in
    let w = counted_view c.drop_object.new.self in
    let e = c.drop_object.ensures in
    let k = c.in-Some.k in
    let cs = numbers_of m.contents in
    let unused = c.in-Some.ensures.found in
    record {
      whole = whole_settled v w (left (slice_set v.objects k None)) m.whole (keeps_left v cs k m.counted unused) (e.objects ∙ without_is v cs k m.counted unused) e.held
          (ap (λ (h : Head). head_of h.capacity h.globals h.symbols) e.head);
      room = e.room m.room;
      counted = e.counted;
      listed = e.listed;
    }

pub loop-k-init : goal.loop-k-init
loop-k-init c = record { drops = drops_none (counted_view c.args.self.now.contents).objects (view_roots (counted_view c.args.self.now.contents)); held = refl; head = refl; places = λ v p l s. s }

pub loop-k-smaller : goal.loop-k-smaller
loop-k-smaller c =
    let m = c.loop-k.self in
    let v = counted_view m.contents in
    let k = c.in-Some.k in
    let live = (no_reference v.objects (references v.objects (all_roots v) []) (numbers_of m.contents) k m.counted.tallied c.in-Some.ensures.found).0 in
    subst (λ (t : Table). total_used one t < total_used one v.objects) (sym c.drop_object.ensures.objects) (fewer v.objects k live)

pub loop-k-preserved : goal.loop-k-preserved
loop-k-preserved c =
    let first = counted_view c.args.self.now.contents in
    let m = c.loop-k.self in
    let v = counted_view m.contents in
    let e = c.drop_object.ensures in
    let i = c.loop-k.invariant in
    let k = c.in-Some.k in
    let cs = numbers_of m.contents in
    let unused = c.in-Some.ensures.found in
    let keep = left (slice_set v.objects k None) in
    record {
      drops = subst (λ (t : Table). DropsTo first.objects t (view_roots first)) (sym (e.objects ∙ without_is v cs k m.counted unused))
          (drops_all first.objects v.objects (view_roots first) keep i.drops
          (subst (λ (xs : List Value). KeepsNeeded v.objects xs keep) (moved_roots first v i.held i.head) (keeps_left v cs k m.counted unused)));
      held = e.held ∙ i.held;
      head = ap (λ (h : Head). head_of h.capacity h.globals h.symbols) e.head ∙ i.head;
      places = λ x p live s. left_stand m.contents.objects c.drop_object.new.self.objects k e.objects e.places x p live (i.places x p (left_live m.contents.objects c.drop_object.new.self.objects k e.objects x live) s);
    }

pub returns-clause-settles : goal.returns-clause-settles
returns-clause-settles c =
    let m = c.loop-k.self in
    let i = c.loop-k.invariant in
    settles_to (counted_view c.args.self.now.contents) (counted_view m.contents) (numbers_of m.contents) i.drops i.held i.head m.counted c.in_default.ensures.none
