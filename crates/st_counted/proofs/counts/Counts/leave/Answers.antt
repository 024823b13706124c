use Rattle.std.proofs.Common.{None, refl, ap, ◌∙◌, false, arith}
use Rattle.st_heap.specs.inside.Tables.{objects_of}
use Rattle.st_model.specs.View.{is_live}
use Rattle.st_counted.specs.inside.Counts.{count_at}
use Rattle.st_counted.proofs.Swept.{place_value}
use Rattle.st_counted.proofs.Listing.{half_of, live_place, next_end, before_end, listed_without}
use Rattle.st_counted.proofs.ZeroList.{zero_counted}
use Rattle.st_counted.specs.inside.Slots.{counts_in}
use Rattle.st_counted.proofs.Slots.{counted_slot, counts_set, counts_still}
use Rattle.st_counted.proofs.counts.Counts.leave.Goals as goal

pub index_mut-requires : goal.index_mut-requires
index_mut-requires c =
    let counts = c.args.self.now.counts in
    let long = counts.ok.0 in
    let within = counted_slot counts.items c.args.k (zero_counted (count_at (counts_in counts.items) c.args.k) c.requires.unused) in omega (arith, long, within)

pub invariant_of-self : goal.invariant_of-self
invariant_of-self c =
    let s = c.args.self.now in
    let cs = counts_in s.counts.items in
    let is = counts_set s.counts.items c.args.k (record { number = c.index_mut.result.now.number; counted = false }) in
    counts_still cs _ c.args.k None is s.places s.none_first (zero_counted (count_at cs c.args.k) c.requires.unused)

pub unlink-self-requires-clause-live : goal.unlink-self-requires-clause-live
unlink-self-requires-clause-live c =
    let t = objects_of c.args.objects.now in
    let k = c.args.k in
    ap (is_live t) (place_value c.pointer_of.result.0 k c.pointer_of.ensures) ∙ live_place t k (c.requires.listed.stored k (zero_counted (count_at (counts_in c.args.self.now.counts.items) k) c.requires.unused))

pub unlink-self-requires-clause-next : goal.unlink-self-requires-clause-next
unlink-self-requires-clause-next c =
    next_end c.args.objects.now c.args.self.now c.pointer_of.result.0 c.args.k c.pointer_of.ensures c.requires.listed c.requires.unused

pub unlink-self-requires-clause-before : goal.unlink-self-requires-clause-before
unlink-self-requires-clause-before c =
    before_end c.args.objects.now c.args.self.now c.pointer_of.result.0 c.args.k c.pointer_of.ensures c.requires.listed c.requires.unused

pub returns-clause-listed : goal.returns-clause-listed
returns-clause-listed c =
    let s = c.args.self.now in
    listed_without c.args.objects.now c.unlink-self.new.objects s _ c.pointer_of.result.0 c.args.k None c.requires.listed c.requires.unused refl (half_of c.pointer_of.result.0 c.args.k c.pointer_of.ensures)
    (counts_set s.counts.items c.args.k (record { number = c.index_mut.result.now.number; counted = false })) c.unlink-self.ensures.rest.objects c.unlink-self.ensures.holds

pub returns-clause-counts : goal.returns-clause-counts
returns-clause-counts c = counts_set c.args.self.now.counts.items c.args.k (record { number = c.index_mut.result.now.number; counted = false })
