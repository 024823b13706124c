use Rattle.std.proofs.Common.{take, Ok}
use Rattle.std.specs.List.{flat_map, range_with_len}
use Rattle.st_host.specs.declared.host.SayFault.{SayFault}
use Rattle.st_call.specs.inside.Saying.{Pushes}
use Rattle.st_browse.specs.Display.{row_line, row_of}
use Rattle.st_browse.specs.inside.Shown.{form_in}
use Rattle.st_browse.proofs.display.push_rows.Given as goal

-- the rows so far were added
abbrev pub invariant-loop-y : goal.invariant-loop-y
invariant-loop-y g l =
    let form = form_in (g.M.Memory.view l.m).objects l.form in
    Pushes {E = SayFault} g.H.Host (flat_map (λ y. row_line (row_of form y)) (take l.y (range_with_len 0 l.form.height))) l.initial.host l.host l.initial.out l.out (Ok tt)
