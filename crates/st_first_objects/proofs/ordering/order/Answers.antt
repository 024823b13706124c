use Rattle.std.proofs.Common.{subst, ap, ◌∙◌}
use Rattle.std.specs.Prelude.{Err}
use Rattle.st_kernel_text.specs.inside.Views.{account_of, parts_of}
use Rattle.st_first_objects.specs.Orders.{first_things, want_parts}
use Rattle.st_first_objects.specs.inside.Ordered.{Becomes}
use Rattle.st_first_objects.proofs.Counts.{passed_on}
use Rattle.st_first_objects.proofs.ordering.order.Goals as goal

pub returns-in-Err : goal.returns-in-Err
returns-in-Err c =
    let kernel = c.args.kernel.now in
    passed_on (account_of kernel) c.want_first.new.order c.want_parts.new.order c.in-Err.unmade (c.in_ok-want_first.ensures ∙ ap first_things c.new-order.ensures)
    (subst (λ ps. Becomes (want_parts kernel.names c.want_first.new.order 0 (parts_of ps)) c.want_parts.new.order (Err c.in-Err.unmade)) c.deref.ensures.value c.in-Err.ensures)
