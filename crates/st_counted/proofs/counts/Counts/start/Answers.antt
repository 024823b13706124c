use Rattle.std.proofs.Common.{Some, true, arith}
use Rattle.st_counted.specs.inside.Slots.{counts_in}
use Rattle.st_counted.proofs.Slots.{within_slots, counts_set, as_many, none_first_still}
use Rattle.st_counted.proofs.counts.Counts.start.Goals as goal

pub index_mut-requires : goal.index_mut-requires
index_mut-requires c =
    let s = c.args.self.now in
    let long = s.counts.ok.0 in
    let within = within_slots s.counts.items c.args.k s.places c.requires.place in omega (arith, long, within)

pub invariant_of-self : goal.invariant_of-self
invariant_of-self c =
    let s = c.args.self.now in
    let k = c.args.k in
    let cs = counts_in s.counts.items in
    let is = counts_set s.counts.items k (record { number = 0; counted = true }) in
    record { places = as_many cs _ k (Some 0) is s.places; none_first = none_first_still cs _ k (Some 0) is s.none_first c.requires.some }

pub returns-clause-counts : goal.returns-clause-counts
returns-clause-counts c = counts_set c.args.self.now.counts.items c.args.k (record { number = 0; counted = true })
