use Rattle.std.proofs.Common.{◌≡◌, length, take, drop, sym, ap, ◌∙◌, arith}
use Rattle.std.proofs.lemmas.List.{take_all}
use Rattle.st_model.specs.Values.{value}
use Rattle.st_model.specs.View.{object_of}
use Rattle.st_memory.proofs.Stretches.{most_size, read_more}
use Rattle.st_memory.proofs.memory.Memory.read_words.Goals as goal

pub overflow_cast-i-end : goal.overflow_cast-i-end
overflow_cast-i-end g c = record { fits = omega (arith, most_size (value c.args.o) (g.met.Self.Memory.whole c.args.self.now) c.requires.live, c.requires.range) }

pub overflow_add-at : goal.overflow_add-at
overflow_add-at g c = record { fits = omega (arith, most_size (value c.args.o) (g.met.Self.Memory.whole c.args.self.now) c.requires.live, c.requires.range, c.loop-i-test.true) }

pub loop-i-preserved : goal.loop-i-preserved
loop-i-preserved g c = record { read = read_more _ c.loop-i.into c.args.at c.loop-i.i c.word.result (omega (arith, c.loop-i-test.true, c.loop-i.auto.into)) c.loop-i.invariant.read c.word.ensures }

pub returns : goal.returns
returns g c =
    let us = (object_of (g.Self.Memory.view c.args.self.now).objects (value c.args.o)).units in
    let f = c.loop-i-test.false in
    let n = c.loop-i.auto.into in
    let e : c.loop-i.i ≡ length c.args.into.now = let m = c.loop-i.auto.i-end in omega (arith, f, m) in
    sym (take_all c.loop-i.i c.loop-i.into (omega (arith, n, e))) ∙ c.loop-i.invariant.read ∙ ap (λ k. take k (drop c.args.at us)) e
