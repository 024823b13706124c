use Rattle.std.proofs.Common.{ap, sym}
use Rattle.std.proofs.lemmas.List.{length-map}
use Rattle.st_call.proofs.Pushing.{push_then, push_begun, push_as}
use Rattle.st_recover.specs.inside.Replayings.{loss_of}
use Rattle.st_session.specs.FirstLines.{opened_text}
use Rattle.st_session.proofs.first_lines.push_opening.Goals as goal

pub returns-in_err-push_line : goal.returns-in_err-push_line
returns-in_err-push_line g c =
    push_begun _ c.from_residual.ensures.0 (push_as c.in_err-push_line.ensures (ap (opened_text c.args.replayed) (sym (length-map c.args.lost.now loss_of))))

pub returns : goal.returns
returns g c =
    push_then (push_as c.in_ok-push_line.ensures (ap (opened_text c.args.replayed) (sym (length-map c.args.lost.now loss_of)))) c.push_all_lost.ensures
