use Rattle.std.proofs.Common.{arith}
use Rattle.st_model.specs.Values.{value}
use Rattle.st_browse.specs.inside.Entries.{name_of}
use Rattle.st_browse.proofs.Bytewise.{no_header, name_size, name_byte, is_less, is_greater, goes_on, ends_less, ends_greater, ends_equal}
use Rattle.std.proofs.Common.{◌∙◌}
use Rattle.st_browse.proofs.comparing.compare.Goals as goal

pub byte-x-requires-clause-above : goal.byte-x-requires-clause-above
byte-x-requires-clause-above g c =
    let e = no_header (g.met.M.Memory.whole c.args.m.now) (value c.args.a) c.requires.first in
    omega (arith, e)

pub byte-y-requires-clause-above : goal.byte-y-requires-clause-above
byte-y-requires-clause-above g c =
    let e = no_header (g.met.M.Memory.whole c.args.m.now) (value c.args.b) c.requires.second in
    omega (arith, e)

pub returns-then-x-y : goal.returns-then-x-y
returns-then-x-y g c =
    let t = (g.M.Memory.view c.args.m.now).objects in
    let whole = g.met.M.Memory.whole c.args.m.now in
    is_less (name_of t c.args.a) (name_of t c.args.b) c.loop-i.i c.byte-x.result c.byte-y.result
    (name_byte whole (value c.args.a) c.requires.first c.loop-i.i c.byte-x.result c.byte-x.ensures)
    (name_byte whole (value c.args.b) c.requires.second c.loop-i.i c.byte-y.result c.byte-y.ensures) c.loop-i.invariant c.if-x-y.true

pub returns-then-y-x : goal.returns-then-y-x
returns-then-y-x g c =
    let t = (g.M.Memory.view c.args.m.now).objects in
    let whole = g.met.M.Memory.whole c.args.m.now in
    is_greater (name_of t c.args.a) (name_of t c.args.b) c.loop-i.i c.byte-x.result c.byte-y.result
    (name_byte whole (value c.args.a) c.requires.first c.loop-i.i c.byte-x.result c.byte-x.ensures)
    (name_byte whole (value c.args.b) c.requires.second c.loop-i.i c.byte-y.result c.byte-y.ensures) c.loop-i.invariant c.if-y-x.true

pub loop-i-preserved : goal.loop-i-preserved
loop-i-preserved g c =
    let t = (g.M.Memory.view c.args.m.now).objects in
    let whole = g.met.M.Memory.whole c.args.m.now in
    goes_on (name_of t c.args.a) (name_of t c.args.b) c.loop-i.i c.byte-x.result c.byte-y.result
    (name_byte whole (value c.args.a) c.requires.first c.loop-i.i c.byte-x.result c.byte-x.ensures)
    (name_byte whole (value c.args.b) c.requires.second c.loop-i.i c.byte-y.result c.byte-y.ensures) c.loop-i.invariant c.if-x-y.false c.if-y-x.false

pub returns-then-first-second : goal.returns-then-first-second
returns-then-first-second g c =
    let t = (g.M.Memory.view c.args.m.now).objects in
    let whole = g.met.M.Memory.whole c.args.m.now in
    let both = c.min-both.ensures in
    let last = c.loop-i-test.false in
    let end = c.loop-i.auto.i-end in
    ends_less (name_of t c.args.a) (name_of t c.args.b) c.loop-i.i c.size-first.result c.size-second.result
    (c.size-first.ensures.size ∙ name_size whole (value c.args.a) c.requires.first)
    (c.size-second.ensures.size ∙ name_size whole (value c.args.b) c.requires.second)
    (omega (arith, both, last)) (omega (arith, both, end)) c.loop-i.invariant c.if-first-second.true

pub returns-then-second-first : goal.returns-then-second-first
returns-then-second-first g c =
    let t = (g.M.Memory.view c.args.m.now).objects in
    let whole = g.met.M.Memory.whole c.args.m.now in
    let both = c.min-both.ensures in
    let last = c.loop-i-test.false in
    let end = c.loop-i.auto.i-end in
    ends_greater (name_of t c.args.a) (name_of t c.args.b) c.loop-i.i c.size-first.result c.size-second.result
    (c.size-first.ensures.size ∙ name_size whole (value c.args.a) c.requires.first)
    (c.size-second.ensures.size ∙ name_size whole (value c.args.b) c.requires.second)
    (omega (arith, both, last)) (omega (arith, both, end)) c.loop-i.invariant c.if-second-first.true

pub returns-else-second-first : goal.returns-else-second-first
returns-else-second-first g c =
    let t = (g.M.Memory.view c.args.m.now).objects in
    let whole = g.met.M.Memory.whole c.args.m.now in
    let both = c.min-both.ensures in
    let last = c.loop-i-test.false in
    let end = c.loop-i.auto.i-end in
    ends_equal (name_of t c.args.a) (name_of t c.args.b) c.loop-i.i c.size-first.result c.size-second.result
    (c.size-first.ensures.size ∙ name_size whole (value c.args.a) c.requires.first)
    (c.size-second.ensures.size ∙ name_size whole (value c.args.b) c.requires.second)
    (omega (arith, both, last)) (omega (arith, both, end)) c.loop-i.invariant c.if-first-second.false c.if-second-first.false
