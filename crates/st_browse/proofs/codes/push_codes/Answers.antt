use Rattle.std.proofs.Common.{◌+◌, ◌*◌, arith}
use Rattle.st_model.specs.Values.{value}
use Rattle.st_model.specs.View.{object_of}
use Rattle.st_browse.proofs.Parting.{pushed_none, pushed_more, pushed_stopped, pushed_all}
use Rattle.st_browse.proofs.codes.push_codes.Goals as goal

pub loop-at-init : goal.loop-at-init
loop-at-init g c =
    let us = (object_of (g.M.Memory.view c.args.m.now).objects (value c.args.body.method)).units in
    (pushed_none g.H.Host us (2 * c.args.body.fields + 1) c.args.host.now c.args.out.now (g.met.H.Host.only_now c.args.host.now), omega arith)

pub returns-in_err-push_code : goal.returns-in_err-push_code
returns-in_err-push_code g c =
    let us = (object_of (g.M.Memory.view c.args.m.now).objects (value c.args.body.method)).units in
    pushed_stopped g.H.Host us (2 * c.args.body.fields + 1) c.loop-at.at c.unit.result c.code_length-length.result c.unit.ensures
    c.code_length-length.ensures.length c.code_length-length.ensures.some c.from_residual.ensures.0 c.loop-at.invariant.0 c.in_err-push_code.ensures

pub loop-at-preserved : goal.loop-at-preserved
loop-at-preserved g c =
    let us = (object_of (g.M.Memory.view c.args.m.now).objects (value c.args.body.method)).units in
    let f = c.code_length-length.ensures.few in
    let l = c.loop-at-test.true in (
      pushed_more g.H.Host us (2 * c.args.body.fields + 1) c.loop-at.at c.unit.result c.code_length-length.result c.unit.ensures
          c.code_length-length.ensures.length c.code_length-length.ensures.some c.loop-at.invariant.0 c.in_ok-push_code.ensures,
      omega (arith, f, l),
    )

pub returns : goal.returns
returns g c =
    let us = (object_of (g.M.Memory.view c.args.m.now).objects (value c.args.body.method)).units in
    let u = c.requires.units in
    let l = c.loop-at-test.false in
    pushed_all g.H.Host us (2 * c.args.body.fields + 1) (omega (arith, u, l)) c.loop-at.invariant.0
