use Rattle.std.proofs.Common.{◌≡◌, arith, sym, ap, ◌∙◌, subst}
use Rattle.std.specs.Prelude.{IfOk}
use Rattle.std.specs.Fmt.{decimal}
use Rattle.st_expression_stack.proofs.NameTurns.{numeral_small}
use Rattle.st_expression_stack.proofs.own.numeral.Goals as goal

pub returns : goal.returns
returns c =
    let same = ap decimal c.in_ok-count.ensures ∙ sym (numeral_small c.args.number (omega (arith, c.in_ok-count.ensures))) in
    subst (λ v. IfOk c.decimal_text.result (λ t. t.items ≡ v)) same c.decimal_text.ensures
