use Rattle.std.proofs.Common.{arith}
use Rattle.st_counted.proofs.Slots.{counted_slot, number_set}
use Rattle.st_counted.proofs.counts.set_count.Goals as goal

pub index_mut-requires : goal.index_mut-requires
index_mut-requires c =
    let counts = c.args.counts.now in
    let long = counts.ok.0 in
    let within = counted_slot counts.items c.args.k c.requires in omega (arith, long, within)

pub returns : goal.returns
returns c = number_set c.args.counts.now.items c.args.k c.args.count c.index_mut.result.now c.index_mut.ensures.value c.requires
