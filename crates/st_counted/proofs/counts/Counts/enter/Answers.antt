use Rattle.std.proofs.Common.{◌<◌, Some, refl, sym, ◌∙◌, subst}
use Rattle.st_model.specs.declared.oop.Oop.{Oop}
use Rattle.st_table.specs.inside.Entries.{place}
use Rattle.st_counted.specs.inside.Counts.{count_at, is_unused}
use Rattle.st_counted.specs.inside.Links.{Holds, IsEnd}
use Rattle.st_counted.proofs.Listing.{first_end, listed_with, some_place}
use Rattle.st_counted.proofs.ZeroList.{absent_zero}
use Rattle.st_counted.specs.inside.Slots.{counts_in}
use Rattle.st_counted.proofs.counts.Counts.enter.Goals as goal

pub start-requires-clause-some : goal.start-requires-clause-some
start-requires-clause-some c = some_place c.args.objects.now c.args.k c.requires.stored

pub list-requires-clause-head : goal.list-requires-clause-head
list-requires-clause-head c =
    let s = c.args.self.now in
    subst (λ (o : Oop). IsEnd c.args.objects.now (place o)) (sym c.start.ensures.first) (first_end c.args.objects.now (place s.first) (counts_in s.counts.items) c.requires.listed.list c.requires.listed.stored)

pub returns-clause-listed : goal.returns-clause-listed
returns-clause-listed c =
    let s = c.args.self.now in
    let o = c.args.objects.now in
    let k = c.args.k in
    let cs = counts_in s.counts.items in
    listed_with o c.list.new.objects s c.list.new.self k (Some 0) c.requires.listed (subst (λ n. k < n) (sym s.places) c.requires.place) c.requires.stored refl (c.list.ensures.counts ∙ c.start.ensures.counts) c.list.ensures.rest.objects
    (c.list.ensures.holds (is_unused cs) (subst (λ (f : Oop). Holds o.store (place f) (is_unused cs)) (sym c.start.ensures.first) c.requires.listed.list) (absent_zero (count_at cs k) c.requires.absent))
