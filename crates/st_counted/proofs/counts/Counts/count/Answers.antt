use Rattle.std.proofs.Common.{sym, arith}
use Rattle.st_counted.proofs.Slots.{counted_slot, slot_number}
use Rattle.st_counted.proofs.counts.Counts.count.Goals as goal

pub index-requires : goal.index-requires
index-requires c =
    let counts = c.args.self.now.counts in
    let long = counts.ok.0 in
    let within = counted_slot counts.items c.args.k c.requires in omega (arith, long, within)

pub returns : goal.returns
returns c = sym (slot_number c.args.self.now.counts.items c.args.k c.index.result.now c.index.ensures c.requires)
