use Rattle.std.proofs.Common.{sym, ap, ◌∙◌, subst}
use Rattle.std.specs.Prelude.{IfOk, ◌∷◌}
use Rattle.st_meaning.specs.declared.code.Top.{Top}
use Rattle.st_meaning.specs.inside.Courses.{top_walked, stack_view, Does}
use Rattle.st_meaning.proofs.Stacks.{top_stored, top_doubled}
use Rattle.st_meaning.proofs.code.on_value.Goals as goal

pub returns-in_ok-push-in-Stored : goal.returns-in_ok-push-in-Stored
returns-in_ok-push-in-Stored c =
    top_stored c.in-Stored.variable c.args.value c.args.stack.now.items c.push.new.self.items c.in_ok-push-in-Stored.ensures.items
    ∙ ap (λ (w : Top). top_walked w (c.args.value ∷ stack_view c.args.stack.now.items)) (sym c.in-Stored.is)

pub returns-in_ok-push-in-Doubled : goal.returns-in_ok-push-in-Doubled
returns-in_ok-push-in-Doubled c =
    subst (λ (w : Top). IfOk c.pushed.result (Does (top_walked w (c.args.value ∷ stack_view c.args.stack.now.items)) c.pushed.new.stack.items)) (sym c.in-Doubled.is)
    (top_doubled _ c.args.value c.args.stack.now.items c.push-in-Doubled.new.self.items c.pushed.new.stack.items c.pushed.result c.in_ok-push-in-Doubled.ensures.items c.pushed.ensures)
