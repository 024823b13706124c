use Rattle.std.proofs.Common.{Some, ap, sym, ◌∙◌, arith}
use Rattle.std.specs.List.{list_any}
use Rattle.st_model.specs.Values.{value}
use Rattle.st_model.specs.View.{object_of}
use Rattle.st_parts.specs.Cutting.{codes_of}
use Rattle.st_browse.specs.Senders.{is_special}
use Rattle.st_browse.proofs.Parting.{special_here, special_next, codes_end}
use Rattle.st_browse.proofs.codes.has_special.Goals as goal

pub returns-then-first-k : goal.returns-then-first-k
returns-then-first-k g c =
    let us = (object_of (g.M.Memory.view c.args.m.now).objects (value c.args.body.method)).units in
    special_here us c.loop-at.at c.unit-first.result c.unit-first.ensures c.args.k (list_any (is_special (Some c.args.k)) (codes_of us)) c.loop-at.invariant.0 c.if-first-k.true

pub loop-at-preserved : goal.loop-at-preserved
loop-at-preserved g c =
    let us = (object_of (g.M.Memory.view c.args.m.now).objects (value c.args.body.method)).units in
    let f = c.code_length-at.ensures.few in
    let l = c.loop-at-test.true in (
      special_next us c.loop-at.at c.unit-first.result c.unit-first.ensures c.args.k (list_any (is_special (Some c.args.k)) (codes_of us)) c.loop-at.invariant.0
          c.code_length-at.result c.code_length-at.ensures.length c.code_length-at.ensures.some c.if-first-k.false,
      omega (arith, f, l),
    )

pub returns : goal.returns
returns g c =
    let us = (object_of (g.M.Memory.view c.args.m.now).objects (value c.args.body.method)).units in
    let u = c.requires.body.units in
    let l = c.loop-at-test.false in
    sym (ap (list_any (is_special (Some c.args.k))) (codes_end us c.loop-at.at (omega (arith, u, l)))) ∙ c.loop-at.invariant.0
