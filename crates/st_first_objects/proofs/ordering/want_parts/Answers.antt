use Rattle.std.proofs.Common.{arith, ap, length, drop}
use Rattle.st_kernel_text.specs.inside.Views.{parts_of}
use Rattle.st_first_objects.specs.Orders.{Order}
use Rattle.st_first_objects.proofs.Counts.{no_memory, fewer, parts_begin}
use Rattle.st_first_objects.proofs.ordering.want_parts.Goals as goal

pub returns-in_err-want_part : goal.returns-in_err-want_part
returns-in_err-want_part c = no_memory _ _ _ c.from_residual.ensures.1

pub returns-then-count-gt-MOST_OBJECTS : goal.returns-then-count-gt-MOST_OBJECTS
returns-then-count-gt-MOST_OBJECTS c =
    let l = fewer _ _ (parts_begin c.args.names.now c.loop-number.order c.loop-number.number (parts_of (drop c.loop-number.number c.args.parts.now))) in
    let e = ap (λ (o : Order). length o.things) c.loop-number.invariant in
    let n = c.count.ensures in
    omega arith
