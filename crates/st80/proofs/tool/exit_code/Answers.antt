use Rattle.std.proofs.Common.{◌∙◌, ap}
use Rattle.st_protocol.specs.Statuses.{number_of}
use Rattle.st80.proofs.tool.exit_code.Goals as goal
use Rattle.st80.proofs.tool.exit_code.Goals.{in-Ok, in-Err}

pub returns : goal.returns
returns g c =
    let number = c.from.ensures ∙ c.number.ensures in
    elim c.match-words.branch [
      | in-Ok w ↦ rw (w.in-Ok.is, w.host-is, w.script-is) (record {
        ends = (w.tool-status.result, number ∙ ap number_of w.status-is, rw w.as_slice.ensures.value at w.tool-status.ensures.ends);
        refused = tt;
      })
      | in-Err w ↦ rw (w.in-Err.is, w.host-is) (record { ends = tt; refused = (number ∙ ap number_of w.status-is, w.report_status.ensures.line) })
    ]
