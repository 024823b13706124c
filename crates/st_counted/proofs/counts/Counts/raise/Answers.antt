use Rattle.std.proofs.Common.{◌≢◌, ◌+◌, false, Some, refl, ap, ◌∙◌, arith}
use Rattle.st_heap.specs.inside.Tables.{objects_of}
use Rattle.st_model.specs.View.{is_live}
use Rattle.st_counted.proofs.Linked.{test_other}
use Rattle.st_counted.proofs.Swept.{place_value}
use Rattle.st_counted.proofs.Listing.{half_of, live_place, next_end, before_end, listed_without, listed_still_with}
use Rattle.st_counted.proofs.ZeroList.{zero_unused, some_used}
use Rattle.st_counted.specs.inside.Slots.{counts_in}
use Rattle.st_counted.proofs.Slots.{counts_still}
use Rattle.st_counted.proofs.counts.Counts.raise.Goals as goal

pub invariant_of-self : goal.invariant_of-self
invariant_of-self c =
    let s = c.args.self.now in counts_still (counts_in s.counts.items) _ c.args.k (Some (c.count-count.result + c.args.by)) c.set_count.ensures s.places s.none_first c.requires.counted

pub unlink-self-requires-clause-live : goal.unlink-self-requires-clause-live
unlink-self-requires-clause-live c =
    let t = objects_of c.args.objects.now in
    let k = c.args.k in
    ap (is_live t) (place_value c.pointer_of.result.0 k c.pointer_of.ensures) ∙ live_place t k (c.requires.listed.stored k c.requires.counted)

pub unlink-self-requires-clause-next : goal.unlink-self-requires-clause-next
unlink-self-requires-clause-next c =
    next_end c.args.objects.now c.args.self.now c.pointer_of.result.0 c.args.k c.pointer_of.ensures c.requires.listed
    (zero_unused (counts_in c.args.self.now.counts.items) c.args.k c.count-count.result c.requires.counted c.count-count.ensures c.if-count-eq0.true)

pub unlink-self-requires-clause-before : goal.unlink-self-requires-clause-before
unlink-self-requires-clause-before c =
    before_end c.args.objects.now c.args.self.now c.pointer_of.result.0 c.args.k c.pointer_of.ensures c.requires.listed
    (zero_unused (counts_in c.args.self.now.counts.items) c.args.k c.count-count.result c.requires.counted c.count-count.ensures c.if-count-eq0.true)

pub returns-then-count-eq0-clause-listed : goal.returns-then-count-eq0-clause-listed
returns-then-count-eq0-clause-listed c =
    let n = c.count-count.result + c.args.by in
    let some = c.requires.some in
    let more : n ≢ 0 = λ q. absurd (omega (arith, q, some)) in
    listed_without c.args.objects.now c.unlink-self.new.objects c.args.self.now _ c.pointer_of.result.0 c.args.k (Some n) c.requires.listed
    (zero_unused (counts_in c.args.self.now.counts.items) c.args.k c.count-count.result c.requires.counted c.count-count.ensures c.if-count-eq0.true)
    (test_other n 0 more) (half_of c.pointer_of.result.0 c.args.k c.pointer_of.ensures) c.set_count.ensures c.unlink-self.ensures.rest.objects c.unlink-self.ensures.holds

pub returns-else-count-eq0-clause-listed : goal.returns-else-count-eq0-clause-listed
returns-else-count-eq0-clause-listed c =
    let s = c.args.self.now in
    let n = c.count-count.result + c.args.by in
    let some = c.requires.some in
    let was = some_used (counts_in s.counts.items) c.args.k c.requires.counted (λ q. c.if-count-eq0.false (c.count-count.ensures ∙ q)) in
    let more : n ≢ 0 = λ q. absurd (omega (arith, q, some)) in
    listed_still_with c.args.objects.now s _ c.args.k (Some n) false c.requires.listed c.requires.counted (test_other n 0 more) was refl c.set_count.ensures
