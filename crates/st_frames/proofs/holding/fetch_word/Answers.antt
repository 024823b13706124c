use Rattle.std.proofs.Common.{rules, ◌≡◌, Err, sym, subst}
use Rattle.st_model.specs.Values.{word}
use Rattle.st_model.specs.Contexts.{fetch_context_registers}
use Rattle.st_model.specs.Table.{table}
use Rattle.st_frames.specs.inside.Shown.{FetchesFrame}
use Rattle.st_frames.proofs.Scheduled.{dead-fetched, fetched-frame}
use Rattle.st_frames.proofs.holding.fetch_word.Goals as goal

pub returns-in_err-new-clause-registers : goal.returns-in_err-new-clause-registers
returns-in_err-new-clause-registers g c =
    let v = g.M.Memory.view c.args.m.now in
    let e : c.from_residual.result ≡ Err c.in_err-new.field-0.0 = search rules in
    subst (λ x. FetchesFrame (fetch_context_registers table (word c.args.context)) v x v) (sym e) (dead-fetched v v (word c.args.context) c.in_err-new.field-0.0 c.in_err-new.ensures.dead)

pub returns-clause-registers : goal.returns-clause-registers
returns-clause-registers g c =
    let v = g.M.Memory.view c.args.m.now in
    let w = g.M.Memory.view c.hold_fetched.new.m in
    let held = c.hold_fetched.ensures in
    let read = c.in_ok-new.ensures in
    fetched-frame v w (word c.args.context) c.in_ok-new.new c.hold_fetched.result read.registers read.there held.same held.objects held.head
