use Rattle.std.proofs.Common.{◌++◌, length, ap, sym}
use Rattle.std.specs.Prelude.{codes}
use Rattle.std.specs.List.{flat_map}
use Rattle.st_call.proofs.Pushing.{push_then, push_begun, push_as}
use Rattle.st_browse.specs.Replies.{count_text}
use Rattle.st_browse.specs.Sources.{lines_of, source_byte}
use Rattle.st_browse.proofs.Sourcing.{lines_are}
use Rattle.st_browse.proofs.source.push_source.Goals as goal

pub returns-in_err-push_long_line : goal.returns-in_err-push_long_line
returns-in_err-push_long_line g c =
    push_begun _ c.from_residual.ensures.0 (push_as c.in_err-push_long_line.ensures (ap (count_text (codes "source")) (c.count_lines.ensures)))

pub returns-in_err-push : goal.returns-in_err-push
returns-in_err-push g c =
    let text = c.args.text.now in
    let count = count_text (codes "source") (length (lines_of text)) in
    push_as (push_then (push_as c.in_ok-push_long_line.ensures (ap (count_text (codes "source")) c.count_lines.ensures))
    (push_begun (flat_map source_byte text ++ codes "\n") c.from_residual-in_err-push.ensures.0 c.in_err-push.ensures)) (ap (λ t. count ++ t) (sym (lines_are text)))

pub returns-in_err-push_source_bytes : goal.returns-in_err-push_source_bytes
returns-in_err-push_source_bytes g c =
    let text = c.args.text.now in
    let count = count_text (codes "source") (length (lines_of text)) in
    push_as (push_then (push_as c.in_ok-push_long_line.ensures (ap (count_text (codes "source")) c.count_lines.ensures))
    (push_then c.in_ok-push.ensures (push_begun (codes "\n") c.from_residual-in_err-push_source_bytes.ensures.0 c.in_err-push_source_bytes.ensures))) (ap (λ t. count ++ t) (sym (lines_are text)))

pub returns : goal.returns
returns g c =
    let text = c.args.text.now in
    let count = count_text (codes "source") (length (lines_of text)) in
    push_as (push_then (push_as c.in_ok-push_long_line.ensures (ap (count_text (codes "source")) c.count_lines.ensures))
    (push_then c.in_ok-push.ensures (push_then c.in_ok-push_source_bytes.ensures c.push-2.ensures))) (ap (λ t. count ++ t) (sym (lines_are text)))
