use Rattle.std.proofs.Common.{rules, ◌≡◌, Err, sym, subst}
use Rattle.st_model.specs.Contexts.{fetch_scheduled_registers}
use Rattle.st_model.specs.Table.{table}
use Rattle.st_frames.specs.inside.Shown.{FetchesFrame}
use Rattle.st_frames.proofs.Scheduled.{dead-context, scheduled-fetched}
use Rattle.st_frames.proofs.holding.fetch_scheduled.Goals as goal

pub returns-in_err-context-clause-registers : goal.returns-in_err-context-clause-registers
returns-in_err-context-clause-registers g c =
    let v = g.M.Memory.view c.args.m.now in
    let e : c.from_residual.result ≡ Err c.in_err-context.field-0.0 = search rules in
    subst (λ x. FetchesFrame (fetch_scheduled_registers table) v x v) (sym e) (dead-context v v c.in_err-context.field-0.0 c.in_err-context.ensures)

pub returns-clause-registers : goal.returns-clause-registers
returns-clause-registers g c =
    let v = g.M.Memory.view c.args.m.now in
    let w = g.M.Memory.view c.fetch_word.new.m in
    scheduled-fetched v w c.in_ok-context.context c.fetch_word.result c.in_ok-context.ensures c.fetch_word.ensures.registers
