use Rattle.std.proofs.Common.{◌-◌, false, Some, refl, ◌∙◌}
use Rattle.st_table.specs.inside.Entries.{place}
use Rattle.st_counted.specs.inside.Counts.{is_unused}
use Rattle.st_counted.proofs.Linked.{test_other}
use Rattle.st_counted.proofs.Listing.{first_end, listed_with, listed_still_with}
use Rattle.st_counted.proofs.ZeroList.{counted_within, lowered_used, test_of}
use Rattle.st_counted.specs.inside.Slots.{counts_in}
use Rattle.st_counted.proofs.Slots.{counts_still}
use Rattle.st_counted.proofs.counts.Counts.lower.Goals as goal

pub invariant_of-self : goal.invariant_of-self
invariant_of-self c =
    let s = c.args.self.now in counts_still (counts_in s.counts.items) _ c.args.k (Some (c.count.result - c.args.by)) c.set_count.ensures s.places s.none_first c.requires.counted

pub list-requires-clause-head : goal.list-requires-clause-head
list-requires-clause-head c =
    let s = c.args.self.now in first_end c.args.objects.now (place s.first) (counts_in s.counts.items) c.requires.listed.list c.requires.listed.stored

pub returns-then-count-eq0-clause-listed : goal.returns-then-count-eq0-clause-listed
returns-then-count-eq0-clause-listed c =
    let s = c.args.self.now in
    let r = c.requires in
    let was = lowered_used (counts_in s.counts.items) c.args.k c.args.by r.counted r.some r.most in
    listed_with c.args.objects.now c.list.new.objects s c.list.new.self c.args.k (Some (c.count.result - c.args.by)) r.listed (counted_within (counts_in s.counts.items) c.args.k r.counted) (r.listed.stored c.args.k r.counted)
    (test_of (c.count.result - c.args.by) 0 c.if-count-eq0.true) (c.list.ensures.counts ∙ c.set_count.ensures) c.list.ensures.rest.objects (c.list.ensures.holds (is_unused (counts_in s.counts.items)) r.listed.list was)

pub returns-else-count-eq0-clause-listed : goal.returns-else-count-eq0-clause-listed
returns-else-count-eq0-clause-listed c =
    let s = c.args.self.now in
    let r = c.requires in
    let was = lowered_used (counts_in s.counts.items) c.args.k c.args.by r.counted r.some r.most in
    listed_still_with c.args.objects.now s _ c.args.k (Some (c.count.result - c.args.by)) false r.listed r.counted (test_other (c.count.result - c.args.by) 0 c.if-count-eq0.false) was refl c.set_count.ensures
