use Rattle.std.proofs.Common.{◌≡◌, ◌+◌, ◌-◌, length, take, drop, sym, ap, ◌∙◌, arith}
use Rattle.std.specs.Prelude.{slice_get}
use Rattle.std.proofs.lemmas.List.{take_all}
use Rattle.st_model.specs.Values.{value}
use Rattle.st_model.specs.Objects.{first_unit}
use Rattle.st_model.specs.View.{object_of}
use Rattle.st_memory.proofs.Stretches.{most_size, read_more}
use Rattle.st_memory.proofs.memory.Memory.read_bytes.Goals as goal

pub overflow_cast-i-end : goal.overflow_cast-i-end
overflow_cast-i-end g c = record { fits = omega (arith, most_size (value c.args.o) (g.met.Self.Memory.whole c.args.self.now) c.requires.live, c.requires.range) }

pub overflow_add-at : goal.overflow_add-at
overflow_add-at g c = record { fits = omega (arith, most_size (value c.args.o) (g.met.Self.Memory.whole c.args.self.now) c.requires.live, c.requires.range, c.loop-i-test.true) }

pub loop-i-preserved : goal.loop-i-preserved
loop-i-preserved g c =
    let o = object_of (g.Self.Memory.view c.args.self.now).objects (value c.args.o) in
    let t = c.loop-i-test.true in
    let n = c.loop-i.auto.into in
    let a = c.requires.above in
    let e : c.args.at - first_unit o + c.loop-i.i ≡ c.args.at + c.loop-i.i - first_unit o = omega (arith, a) in
    record { read = read_more o.units c.loop-i.into (c.args.at - first_unit o) c.loop-i.i c.byte.result (omega (arith, t, n)) c.loop-i.invariant.read (ap (slice_get o.units) e ∙ c.byte.ensures) }

pub returns : goal.returns
returns g c =
    let o = object_of (g.Self.Memory.view c.args.self.now).objects (value c.args.o) in
    let f = c.loop-i-test.false in
    let n = c.loop-i.auto.into in
    let e : c.loop-i.i ≡ length c.args.into.now = let m = c.loop-i.auto.i-end in omega (arith, f, m) in
    sym (take_all c.loop-i.i c.loop-i.into (omega (arith, n, e))) ∙ c.loop-i.invariant.read ∙ ap (λ k. take k (drop (c.args.at - first_unit o) o.units)) e
