use Rattle.std.proofs.Common.{◌≡◌, length, drop, ap, arith}
use Rattle.st_model.specs.Values.{value}
use Rattle.st_model.specs.View.{object_of}
use Rattle.st_parts.specs.Cutting.{codes_of}
use Rattle.st_browse.proofs.Parting.{count_next, codes_end}
use Rattle.st_browse.proofs.codes.count_codes.Goals as goal

pub loop-at-preserved : goal.loop-at-preserved
loop-at-preserved g c =
    let us = (object_of (g.M.Memory.view c.args.m.now).objects (value c.args.body.method)).units in
    let i = c.loop-at.invariant in
    let a = i.1 in
    let s = c.code_length-at.ensures.some in
    let f = c.code_length-at.ensures.few in
    let l = c.loop-at-test.true in
    (count_next us c.loop-at.at c.unit.result c.code_length-at.result c.unit.ensures c.code_length-at.ensures.length s c.loop-at.count (length (codes_of us)) i.0, omega (arith, a, s), omega (arith, f, l))

pub returns : goal.returns
returns g c =
    let us = (object_of (g.M.Memory.view c.args.m.now).objects (value c.args.body.method)).units in
    let i = c.loop-at.invariant.0 in
    let u = c.requires.units in
    let l = c.loop-at-test.false in
    let e : length (codes_of (drop c.loop-at.at us)) ≡ 0 = ap length (codes_end us c.loop-at.at (omega (arith, u, l))) in
    omega (arith, i, e)
