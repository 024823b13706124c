use Rattle.std.proofs.Common.{take, drop, ap, arith}
use Rattle.std.specs.List.{flat_map}
use Rattle.st_model.specs.Values.{value}
use Rattle.st_memory.proofs.Bodies.{most_units}
use Rattle.st_call.proofs.Pushing.{push_none, push_next, push_stopped, push_as}
use Rattle.st_browse.specs.Display.{word_text}
use Rattle.st_browse.specs.inside.Shown.{words_in}
use Rattle.st_browse.proofs.Parting.{unit_of, taken_all}
use Rattle.st_browse.proofs.display.push_words.Goals as goal

pub loop-i-init : goal.loop-i-init
loop-i-init g c = push_none g.H.Host c.args.host.now (g.met.H.Host.only_now c.args.host.now)

pub overflow_add-from : goal.overflow_add-from
overflow_add-from g c =
    let most = most_units {v = g.M.Memory.view c.args.m.now} (value c.args.o) (g.met.M.Memory.whole c.args.m.now) c.requires.words.live in
    let below = c.loop-i-test.true in
    let end = c.requires.end in
    omega (arith, most, below, end)

pub returns-in_err-push_word : goal.returns-in_err-push_word
returns-in_err-push_word g c =
    let us = words_in (g.M.Memory.view c.args.m.now).objects (value c.args.o) in
    push_stopped word_text (take c.args.count (drop c.args.from us)) c.loop-i.i c.from_residual.ensures.0
    (unit_of us c.args.from c.args.count c.loop-i.i c.word.result c.loop-i-test.true c.word.ensures) c.loop-i.invariant c.in_err-push_word.ensures

pub loop-i-preserved : goal.loop-i-preserved
loop-i-preserved g c =
    let us = words_in (g.M.Memory.view c.args.m.now).objects (value c.args.o) in
    push_next word_text (take c.args.count (drop c.args.from us)) c.loop-i.i
    (unit_of us c.args.from c.args.count c.loop-i.i c.word.result c.loop-i-test.true c.word.ensures) c.loop-i.invariant c.in_ok-push_word.ensures

pub returns : goal.returns
returns g c =
    let us = words_in (g.M.Memory.view c.args.m.now).objects (value c.args.o) in
    push_as c.loop-i.invariant (ap (flat_map word_text) (taken_all us c.args.from c.args.count c.loop-i.i c.loop-i-test.false))
