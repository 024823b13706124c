use Rattle.std.proofs.Common.{◌≡◌, ◌++◌, Some, None, sym, ap, ◌∙◌, subst}
use Rattle.st_scan.specs.Views.{names_view}
use Rattle.st_expression_stack.specs.Items.{arguments_of}
use Rattle.st_decompile.specs.Reading.{least_among}
use Rattle.st_expression_stack.specs.inside.Stacks.{stack_view, IsArgumentPopped}
use Rattle.st_decompile.specs.inside.Read.{arguments_by}
use Rattle.st_expression_stack.proofs.Stacking.{arguments_end}
use Rattle.st_decompile.proofs.ReadTurns.{others_turn, none_declared}
use Rattle.st_decompile.proofs.reading.arguments_of.Goals as goal

pub returns-in_default : goal.returns-in_default
returns-in_default c =
    let xs = stack_view c.args.items.now.items in
    let top : IsArgumentPopped c.args.items.now.items c.pop_argument.new.items.items None = subst (IsArgumentPopped c.args.items.now.items c.pop_argument.new.items.items) c.in_default.is c.in_ok-place.ensures in
    (none_declared c.args.reading c.new-names.result.items xs c.new-names.ensures.items top.0, ap (λ ps. least_among ps c.args.least) (sym (arguments_end xs top.0)))

pub returns : goal.returns
returns c =
    let r = c.args.reading in
    let old = c.args.items.now.items in
    let xs = stack_view old in
    let mid = c.pop_argument.new.items.items in
    let top : IsArgumentPopped old mid (Some c.in-Some.place) = subst (IsArgumentPopped old mid) c.in-Some.is c.in_ok-place.ensures in
    let none : names_view c.new-names.result.items ++ arguments_by r xs ≡ arguments_by r xs = ap (λ ns. names_view ns ++ arguments_by r xs) c.new-names.ensures.items in (
      c.in_ok-names.ensures ∙ others_turn r c.new-names.result.items c.push.new.self.items c.in_ok-first.first xs (stack_view mid) c.in-Some.place (arguments_by r xs) top.0 c.in_ok-push.ensures.items c.in_ok-first.ensures none,
      c.argument_number-least.ensures ∙ sym (ap (λ zs. least_among (arguments_of zs) c.args.least) top.0),
    )
