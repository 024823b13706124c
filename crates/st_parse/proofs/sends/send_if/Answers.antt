use Rattle.std.proofs.Common.{◌≡◌, sym, subst}
use Rattle.std.specs.Prelude.{IfOk}
use Rattle.st_scan.specs.Views.{ExpressionView, expression_view}
use Rattle.st_parse.proofs.Assigning.{sent_if-some}
use Rattle.st_parse.proofs.sends.send_if.Goals as goal

pub returns : goal.returns
returns c =
    let is = sent_if-some (expression_view c.args.receiver) c.args.parts.selector.items c.args.parts.arguments.items _ c.args.parts.arguments.ok.0 c.if-is_empty.ensures in
    subst (λ (v : ExpressionView). IfOk c.send.result (λ e. expression_view e ≡ v)) (sym is) c.send.ensures
