use Rattle.std.proofs.Common.{◌+◌, ◌-◌, arith}
use Rattle.st_memory_host.proofs.Windows.{overlaid}
use Rattle.st_memory_host.proofs.log.overlay.Goals as goal

pub returns-then-gap-into : goal.returns-then-gap-into
returns-then-gap-into c =
    let skipped = c.saturating_sub-skipped.result in
    let gap = c.saturating_sub-gap.result in
    let n = c.min-count.result in
    overlaid c.args.at c.args.place skipped gap n (skipped + n - skipped) (gap + n - gap) c.args.bytes.now c.args.into.now c.copy_from_slice.new.self
    c.saturating_sub-skipped.ensures c.saturating_sub-gap.ensures c.min-count.ensures (omega arith) (omega arith) c.copy_from_slice.ensures.after c.if-gap-into.true
