use Rattle.std.proofs.Common.{◌≡◌, ◌-◌, ap, ap₂, ◌∙◌, rules}
use Rattle.st_emit.specs.Selectors.{arity}
use Rattle.st_code.specs.inside.MethodDrafts.{parts_view}
use Rattle.st_expression_stack.specs.inside.Called.{calling_view}
use Rattle.st_expression_stack.specs.Names.{name_in}
use Rattle.st_decompile.specs.Whole.{own_in, variables_called}
use Rattle.st_decompile.proofs.Assembled.{method_is}
use Rattle.st_decompile.proofs.whole.method_of.Goals as goal

pub returns : goal.returns
returns c =
    let f = name_in (calling_view c.args.calling.now) in
    let few : c.in_ok-count.count ≡ arity c.args.parts.now.selector.items = c.in_ok-count.ensures ∙ ap arity c.deref.ensures.value in
    let own = c.own_in-own.ensures ∙ ap (λ v. own_in v c.args.body.least) c.variables_in.ensures in
    let more = c.saturating_sub.ensures ∙ ap₂ (λ a b. a - b) own few in
    let selector : c.in_ok-selector.selector.items ≡ c.args.parts.now.selector.items = search rules in
    method_is _ _ _ _ _ _ _ _ _ _ selector (c.in_ok-arguments.ensures ∙ ap (variables_called f 0) few) (c.in_ok-temporaries.ensures ∙ ap₂ (variables_called f) few more) c.primitive_in-primitive.ensures c.without_self-body.ensures
