use Rattle.std.proofs.Common.{◌≡◌, ℕ, ◌+◌, IfOk, length, ap, ◌∙◌, subst, arith}
use Rattle.st_scan.specs.Views.{expression_view, messages_view, statements_view}
use Rattle.st_emit.specs.Resolving.{names_in, names_in_messages, names_in_statements}
use Rattle.st_emit.proofs.Counts.{names_in-block, names_in-send, size-inner}
use Rattle.st_emit.proofs.counting.+counting.Goals as goal

pub names_in-returns-in-Block : goal.names_in-returns-in-Block
names_in-returns-in-Block t c =
    let parts = names_in-block c.down.inner.now c.in-Block.names c.in-Block.body c.in-Block.is in
    let inside = c.in_ok-inside-in-Block.ensures in
    let many : c.len.result ≡ length c.in-Block.names.items = c.len.ensures ∙ c.in-Block.names.ok.0 in
    let body = ap (λ ss. names_in_statements (statements_view ss)) c.deref.ensures.value in
    let whole : c.in_ok-inside-in-Block.inside + names_in_statements (statements_view c.deref.result.now) ≡ c.args.start + names_in (expression_view c.args.e.now) = omega (arith, parts, inside, many, body, c.down.invariant.total) in
    subst (λ (x : ℕ). IfOk c.names_in_statements.result (λ n. n ≡ x)) whole c.names_in_statements.ensures

pub names_in-down-preserved : goal.names_in-down-preserved
names_in-down-preserved t c =
    let parts = names_in-send c.down.inner.now c.in-Send.receiver c.in-Send.messages c.in-Send.is in
    let total = c.in_ok-total-in-Send.ensures in
    let messages = ap (λ ms. names_in_messages (messages_view ms)) c.deref-in-Send.ensures.value in
    let receiver = ap (λ e. names_in (expression_view e)) c.deref-inner-in-Send.ensures in
    let size = size-inner c.down.inner.now c.deref-inner-in-Send.result.now c.in-Send.receiver c.in-Send.messages c.in-Send.is c.deref-inner-in-Send.ensures in
    record { total = omega (arith, parts, total, messages, receiver, c.down.invariant.total); within = omega (arith, size, c.down.invariant.within) }
