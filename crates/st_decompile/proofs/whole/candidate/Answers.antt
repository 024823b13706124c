use Rattle.std.proofs.Common.{◌≡◌, List, Some, None, sym, ap, ◌∙◌}
use Rattle.st_emit.specs.inside.Views.{literals_view}
use Rattle.st_code.specs.inside.MethodDrafts.{parts_view}
use Rattle.st_expression_stack.specs.Items.{Taken}
use Rattle.st_expression_stack.specs.inside.Called.{calling_view}
use Rattle.st_expression_stack.specs.Names.{name_in}
use Rattle.st_expression_stack.specs.inside.Stacks.{stack_if, stack_view}
use Rattle.st_decompile.specs.Whole.{method_of}
use Rattle.st_decompile.proofs.Assembled.{candidate_by}
use Rattle.st_decompile.proofs.whole.candidate.Goals as goal

pub returns-in_default : goal.returns-in_default
returns-in_default c =
    candidate_by (name_in (calling_view c.args.calling.now)) (parts_view c.args.parts.now) (literals_view c.deref.result.now) c.deref-2.result.now None (ap literals_view c.deref.ensures.value) c.deref-2.ensures.value
    (ap stack_if (sym c.in_default.is) ∙ c.in_ok-items.ensures)

pub returns : goal.returns
returns c =
    let p = parts_view c.args.parts.now in
    let f = name_in (calling_view c.args.calling.now) in
    let items = c.in-Some.items in
    ap (λ m. Some m) (c.in_ok-method.ensures ∙ ap (method_of f p) c.in_ok-body.ensures)
    ∙ candidate_by f p (literals_view c.deref.result.now) c.deref-2.result.now (Some (stack_view items.items)) (ap literals_view c.deref.ensures.value) c.deref-2.ensures.value
    (ap stack_if (sym c.in-Some.is) ∙ c.in_ok-items.ensures)
