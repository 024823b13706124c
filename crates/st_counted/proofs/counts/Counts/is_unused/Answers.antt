use Rattle.std.proofs.Common.{arith}
use Rattle.st_counted.proofs.Slots.{within_slots, unused_counted, unused_free}
use Rattle.st_counted.proofs.counts.Counts.is_unused.Goals as goal

pub index-slot-requires : goal.index-slot-requires
index-slot-requires c =
    let s = c.args.self.now in
    let long = s.counts.ok.0 in
    let within = within_slots s.counts.items c.args.k s.places c.requires in omega (arith, long, within)

pub returns-then-slot : goal.returns-then-slot
returns-then-slot c =
    let s = c.args.self.now in
    unused_counted s.counts.items c.args.k c.index-slot.result.now (within_slots s.counts.items c.args.k s.places c.requires) c.index-slot.ensures c.if-slot.true

pub returns-else-slot : goal.returns-else-slot
returns-else-slot c =
    let s = c.args.self.now in
    unused_free s.counts.items c.args.k c.index-slot.result.now (within_slots s.counts.items c.args.k s.places c.requires) c.index-slot.ensures c.if-slot.false
