use Rattle.st_call.proofs.Pushing.{push_then, push_begun}
use Rattle.st_browse.specs.Display.{rows_text}
use Rattle.st_browse.specs.inside.Shown.{form_in}
use Rattle.st_browse.proofs.display.push_form.Goals as goal

pub returns-in_err-push_line : goal.returns-in_err-push_line
returns-in_err-push_line g c =
    push_begun (rows_text (form_in (g.M.Memory.view c.args.m.now).objects c.args.form)) c.from_residual.ensures.0 c.in_err-push_line.ensures

pub returns : goal.returns
returns g c = push_then c.in_ok-push_line.ensures c.push_rows.ensures
