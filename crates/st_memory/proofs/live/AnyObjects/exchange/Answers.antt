use Rattle.std.proofs.Common.{◌≡◌, true, sym, ap, ◌∙◌, subst}
use Rattle.std.proofs.lemmas.Result.{err_from_is_err_and}
use Rattle.st_model.specs.Values.{Value, word, value}
use Rattle.st_model.specs.View.{is_live, with_exchanged}
use Rattle.st_memory.specs.inside.Tabular.{bounded_tabular}
use Rattle.st_memory.proofs.Swapping.{exchanges_small_first, exchanges_small_second, exchanges_err_first, exchanges_err_second, exchanges}
use Rattle.st_memory.proofs.live.AnyObjects.exchange.Goals as goal

pub returns-then-is_small-clause-exchanges : goal.returns-then-is_small-clause-exchanges
returns-then-is_small-clause-exchanges g c =
    let v = g.M.Memory.view c.args.self.now in
    exchanges_small_first bounded_tabular v.objects v.objects (word c.args.a) (word c.args.b) v.head (sym c.is_small.ensures ∙ c.if-is_small.true)

pub returns-then-is_small-2-clause-exchanges : goal.returns-then-is_small-2-clause-exchanges
returns-then-is_small-2-clause-exchanges g c =
    let v = g.M.Memory.view c.args.self.now in
    exchanges_small_second bounded_tabular v.objects v.objects (word c.args.a) (word c.args.b) v.head (sym c.is_small-2.ensures ∙ c.if-is_small-2.true)

pub returns-in_err-first-clause-exchanges : goal.returns-in_err-first-clause-exchanges
returns-in_err-first-clause-exchanges g c =
    let v = g.M.Memory.view c.args.self.now in
    let p = err_from_is_err_and c.from_residual.result c.from_residual.ensures.1 in
    rw (p.1, p.2) (exchanges_err_first bounded_tabular v.objects v.objects (word c.args.a) (word c.args.b) v.head c.in_err-first.field-0.0 (sym c.is_small.ensures ∙ c.if-is_small.false) (sym c.is_small-2.ensures ∙ c.if-is_small-2.false) c.in_err-first.ensures.gone (c.in_err-first.ensures.lacks 0 0))

pub returns-in_err-second-clause-exchanges : goal.returns-in_err-second-clause-exchanges
returns-in_err-second-clause-exchanges g c =
    let v = g.M.Memory.view c.args.self.now in
    let p = err_from_is_err_and c.from_residual-in_err-second.result c.from_residual-in_err-second.ensures.1 in
    rw (p.1, p.2) (exchanges_err_second bounded_tabular v.objects v.objects (word c.args.a) (word c.args.b) v.head c.in_err-second.field-0.0 (sym c.is_small.ensures ∙ c.if-is_small.false) (sym c.is_small-2.ensures ∙ c.if-is_small-2.false) c.in_err-second.ensures.gone (c.in_err-second.ensures.lacks 0 0))

pub returns-clause-exchanges : goal.returns-clause-exchanges
returns-clause-exchanges g c =
    let v = g.M.Memory.view c.args.self.now in
    let a = c.in_ok-first.ensures in
    let b = c.in_ok-second.ensures in
    let live_a = subst (λ (x : Value). is_live v.objects x ≡ true) a.same a.live in
    let live_b = subst (λ (x : Value). is_live v.objects x ≡ true) b.same b.live in
    exchanges bounded_tabular v.objects _ (word c.args.a) (word c.args.b) v.head live_a live_b
    (c.swap.ensures.objects ∙ ap (λ x. with_exchanged v.objects x (value c.in_ok-second.second)) a.same ∙ ap (with_exchanged v.objects (word c.args.a)) b.same)
