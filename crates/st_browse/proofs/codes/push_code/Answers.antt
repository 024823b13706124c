use Rattle.std.proofs.Common.{◌+◌, ◌*◌, ◌++◌, take, drop, sym, ap, append_assoc}
use Rattle.std.specs.Prelude.{codes}
use Rattle.std.specs.Fmt.{decimal}
use Rattle.st_model.specs.Values.{value}
use Rattle.st_model.specs.View.{object_of}
use Rattle.st_model.specs.Text.{numbers_text}
use Rattle.st_call.proofs.Pushing.{push_then, push_begun, push_as}
use Rattle.st_browse.proofs.Parting.{those_there}
use Rattle.st_browse.proofs.codes.push_code.Goals as goal

pub returns-in_err-push : goal.returns-in_err-push
returns-in_err-push g c = push_begun _ c.from_residual.ensures.0 c.in_err-push.ensures

pub returns-in_err-push_number : goal.returns-in_err-push_number
returns-in_err-push_number g c =
    let us = (object_of (g.M.Memory.view c.args.m.now).objects (value c.args.body.method)).units in
    let n = codes " " ++ decimal (2 * c.args.body.fields + 1 + c.args.at) in
    let bytes = numbers_text (take c.args.length (drop c.args.at us)) in
    push_as (push_then c.in_ok-push.ensures (push_begun (bytes ++ codes "\n") c.from_residual-in_err-push_number.ensures.0 c.in_err-push_number.ensures))
    (ap (λ t. codes "code" ++ t) (sym (append_assoc n bytes (codes "\n"))))

pub returns-in_err-push_units : goal.returns-in_err-push_units
returns-in_err-push_units g c =
    let us = (object_of (g.M.Memory.view c.args.m.now).objects (value c.args.body.method)).units in
    let n = codes " " ++ decimal (2 * c.args.body.fields + 1 + c.args.at) in
    let bytes = numbers_text (take c.args.length (drop c.args.at us)) in
    let there = ap numbers_text (those_there us c.args.at c.args.length c.min.result c.args.body.units c.requires.body.units c.min.ensures) in
    push_as (push_then c.in_ok-push.ensures (push_then c.in_ok-push_number.ensures
    (push_begun (codes "\n") c.from_residual-in_err-push_units.ensures.0 (push_as c.in_err-push_units.ensures there))))
    (ap (λ t. codes "code" ++ t) (sym (append_assoc n bytes (codes "\n"))))

pub returns : goal.returns
returns g c =
    let us = (object_of (g.M.Memory.view c.args.m.now).objects (value c.args.body.method)).units in
    let n = codes " " ++ decimal (2 * c.args.body.fields + 1 + c.args.at) in
    let bytes = numbers_text (take c.args.length (drop c.args.at us)) in
    let there = ap numbers_text (those_there us c.args.at c.args.length c.min.result c.args.body.units c.requires.body.units c.min.ensures) in
    push_as (push_then c.in_ok-push.ensures (push_then c.in_ok-push_number.ensures (push_then (push_as c.in_ok-push_units.ensures there) c.push-2.ensures)))
    (ap (λ t. codes "code" ++ t) (sym (append_assoc n bytes (codes "\n"))))
