use Rattle.std.proofs.Common.{◌<◌, ◌≤◌, length, refl, arith}
use Rattle.st_model.specs.Values.{value}
use Rattle.st_scope.proofs.SameTexts.{next_same, differs, all_same, other_size}
use Rattle.st_scope.proofs.reading.has_bytes.Goals as goal

pub returns-then-size-text-clause-other : goal.returns-then-size-text-clause-other
returns-then-size-text-clause-other g c =
    λ f. other_size (g.met.M.Memory.whole c.args.m.now) (value c.args.o) c.requires.live c.requires.kind c.args.text.now c.size-size.result c.size-size.ensures.size c.if-size-text.true

pub loop-i-init : goal.loop-i-init
loop-i-init g c = refl

pub returns-then-byte-text-clause-other : goal.returns-then-byte-text-clause-other
returns-then-byte-text-clause-other g c =
    let e = c.if-size-text.false in
    let l = c.loop-i-test.true in
    let bound : c.loop-i.i < length c.args.text.now = omega (arith, e, l) in
    λ f. differs (g.met.M.Memory.whole c.args.m.now) (value c.args.o) c.requires.live c.requires.kind c.args.text.now c.loop-i.i c.byte.result c.byte.ensures bound c.if-byte-text.true

pub loop-i-preserved : goal.loop-i-preserved
loop-i-preserved g c =
    let e = c.if-size-text.false in
    let l = c.loop-i-test.true in
    let bound : c.loop-i.i < length c.args.text.now = omega (arith, e, l) in
    next_same (g.met.M.Memory.whole c.args.m.now) (value c.args.o) c.requires.live c.requires.kind c.args.text.now c.loop-i.i c.byte.result c.byte.ensures bound c.if-byte-text.false c.loop-i.invariant

pub returns-clause-same : goal.returns-clause-same
returns-clause-same g c =
    let l = c.loop-i-test.false in
    let last : c.size-size.result ≤ c.loop-i.i = omega (arith, l) in
    λ t. all_same (g.met.M.Memory.whole c.args.m.now) (value c.args.o) c.requires.live c.requires.kind c.args.text.now c.size-size.result c.loop-i.i c.size-size.ensures.size c.if-size-text.false last c.loop-i.invariant
