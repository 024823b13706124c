use Rattle.std.proofs.Common.{◌+◌, Some}
use Rattle.st_counted.specs.inside.Slots.{counts_in}
use Rattle.st_counted.proofs.Slots.{counts_still}
use Rattle.st_counted.proofs.counts.Counts.add.Goals as goal

pub invariant_of-self : goal.invariant_of-self
invariant_of-self c =
    let s = c.args.self.now in counts_still (counts_in s.counts.items) _ c.args.k (Some (c.count-count.result + c.args.by)) c.set_count.ensures s.places s.none_first c.requires.counted
