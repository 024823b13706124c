use Rattle.std.proofs.Common.{arith}
use Rattle.st_table.proofs.Keeping.{mapped_new}
use Rattle.st_table.proofs.table.Table.new.Goals as goal

pub invariant_of-result : goal.invariant_of-result
invariant_of-result c =
    let few = c.requires in
    let made = c.in_ok-places.ensures in
    rw c.in_ok-entries.ensures (mapped_new c.in_ok-places.places.words.items c.args.entries (omega (arith, few)) made.free made.first made.others)
