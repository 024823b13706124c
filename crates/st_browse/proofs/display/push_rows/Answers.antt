use Rattle.std.proofs.Common.{ap}
use Rattle.std.specs.List.{flat_map, range_with_len}
use Rattle.st_call.proofs.Pushing.{push_none, push_next, push_stopped, push_as}
use Rattle.st_browse.specs.Display.{row_line, row_of}
use Rattle.st_browse.specs.inside.Shown.{form_in}
use Rattle.st_browse.proofs.Forms.{row_number, all_rows}
use Rattle.st_browse.proofs.display.push_rows.Goals as goal

pub loop-y-init : goal.loop-y-init
loop-y-init g c = push_none g.H.Host c.args.host.now (g.met.H.Host.only_now c.args.host.now)

pub returns-in_err-push_row : goal.returns-in_err-push_row
returns-in_err-push_row g c =
    let form = form_in (g.M.Memory.view c.args.m.now).objects c.args.form in
    push_stopped (λ y. row_line (row_of form y)) (range_with_len 0 c.args.form.height) c.loop-y.y c.from_residual.ensures.0
    (row_number c.args.form.height c.loop-y.y c.loop-y-test.true) c.loop-y.invariant c.in_err-push_row.ensures

pub loop-y-preserved : goal.loop-y-preserved
loop-y-preserved g c =
    let form = form_in (g.M.Memory.view c.args.m.now).objects c.args.form in
    push_next (λ y. row_line (row_of form y)) (range_with_len 0 c.args.form.height) c.loop-y.y
    (row_number c.args.form.height c.loop-y.y c.loop-y-test.true) c.loop-y.invariant c.in_ok-push_row.ensures

pub returns : goal.returns
returns g c =
    let form = form_in (g.M.Memory.view c.args.m.now).objects c.args.form in
    push_as c.loop-y.invariant (ap (flat_map (λ y. row_line (row_of form y))) (all_rows c.args.form.height c.loop-y.y c.loop-y-test.false))
