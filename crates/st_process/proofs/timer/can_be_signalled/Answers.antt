use Rattle.std.proofs.Common.{◌≡◌, ◌∙◌, sym, rules, Err}
use Rattle.st_process.proofs.Semaphores.{kind-died, kind-other, fields-uncounted}
use Rattle.st_process.proofs.timer.can_be_signalled.Goals as goal

pub returns-in_err-fetch_kind : goal.returns-in_err-fetch_kind
returns-in_err-fetch_kind g c = λ s q.
    let e : c.from_residual.result ≡ Err c.in_err-fetch_kind.field-0.0 = search rules in
    rw e (kind-died g.O.Objects.names _ s _ (sym c.is_small.ensures ∙ c.if-is_small.false) (c.in_err-fetch_kind.ensures s q))

pub returns-then-not-is_pointers : goal.returns-then-not-is_pointers
returns-then-not-is_pointers g c = λ s q.
    kind-other g.O.Objects.names _ s _ (sym c.is_small.ensures ∙ c.if-is_small.false) (c.in_ok-fetch_kind.ensures s q) (sym c.is_pointers.ensures ∙ c.if-not-is_pointers.true)

pub returns-in_err-count_fields : goal.returns-in_err-count_fields
returns-in_err-count_fields g c = λ s q.
    let e : c.from_residual-in_err-count_fields.result ≡ Err c.in_err-count_fields.field-0.0 = search rules in
    rw e (fields-uncounted g.O.Objects.names _ s _ _ (sym c.is_small.ensures ∙ c.if-is_small.false) (c.in_ok-fetch_kind.ensures s q) (sym c.is_pointers.ensures ∙ c.if-not-is_pointers.false) (c.in_err-count_fields.ensures.counts s q))
