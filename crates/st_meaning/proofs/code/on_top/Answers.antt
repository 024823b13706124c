use Rattle.std.proofs.Common.{List, sym, ap, ◌∙◌, subst}
use Rattle.std.specs.Prelude.{IfOk}
use Rattle.st_meaning.specs.declared.deed.Value.{Value}
use Rattle.st_meaning.specs.inside.Courses.{top_walked, Does}
use Rattle.st_meaning.proofs.Stacks.{top_none}
use Rattle.st_meaning.proofs.code.on_top.Goals as goal

pub returns-in-Some : goal.returns-in-Some
returns-in-Some c = subst (λ (s : List Value). IfOk c.on_value.result (Does (top_walked c.args.what s) c.on_value.new.stack.items)) (sym c.in-Some.ensures) c.on_value.ensures

pub returns-in-None : goal.returns-in-None
returns-in-None c = top_none c.args.what ∙ ap (λ (s : List Value). top_walked c.args.what s) (sym c.in-None.ensures)
