use Rattle.std.proofs.Common.{◌≡◌, Some, None, sym, ap, ◌∙◌, subst}
use Rattle.std.specs.Prelude.{IfOk, option_map}
use Rattle.st_scan.specs.Views.{expression_view, statements_view}
use Rattle.st_expression_stack.specs.Choosing.{alone, one_sided_by}
use Rattle.st_expression_stack.specs.inside.Stacks.{text_now}
use Rattle.st_expression_stack.proofs.TreeTurns.{choice_is}
use Rattle.st_expression_stack.proofs.make.choice_tree.Goals as goal

pub returns-in-Some : goal.returns-in-Some
returns-in-Some c =
    let known = ap (option_map text_now) (sym c.in-Some.is) ∙ c.one_sided_by.ensures ∙ ap (one_sided_by c.args.on) (c.alone.ensures ∙ ap (λ xs. alone (statements_view xs)) c.deref.ensures.value) in
    let same = choice_is c.args.on (expression_view c.args.condition) (statements_view c.args.first.list.items) c.args.first.least (statements_view c.args.second.list.items) c.args.second.least (Some c.in-Some.selector.now) known in
    subst (λ v. IfOk c.with_block.result (λ e. expression_view e ≡ v)) same c.with_block.ensures

pub returns-in-None : goal.returns-in-None
returns-in-None c =
    let known = ap (option_map text_now) (sym c.in-None.is) ∙ c.one_sided_by.ensures ∙ ap (one_sided_by c.args.on) (c.alone.ensures ∙ ap (λ xs. alone (statements_view xs)) c.deref.ensures.value) in
    let same = choice_is c.args.on (expression_view c.args.condition) (statements_view c.args.first.list.items) c.args.first.least (statements_view c.args.second.list.items) c.args.second.least None known in
    subst (λ v. IfOk c.two_sides.result (λ e. expression_view e ≡ v)) same c.two_sides.ensures
