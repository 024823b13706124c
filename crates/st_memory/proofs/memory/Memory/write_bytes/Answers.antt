use Rattle.std.proofs.Common.{◌≡◌, ◌+◌, ◌-◌, ◌<◌, ◌≤◌, suc, refl, length, take, get_or, sym, ap, ◌∙◌, arith, subst}
use Rattle.std.proofs.lemmas.List.{take_all, length-take-le}
use Rattle.std.proofs.Math.Seq.{take-suc}
use Rattle.st_model.specs.Values.{value}
use Rattle.st_model.specs.Objects.{is_words, first_unit}
use Rattle.st_model.specs.View.{object_of, with_unit}
use Rattle.st_memory.specs.inside.Copied.{with_run}
use Rattle.st_memory.proofs.Stretches.{most_size, none_run, live_run, kind_run, first_run, size_run, bytes_within, run_more}
use Rattle.st_memory.proofs.memory.Memory.write_bytes.Goals as goal

pub overflow_cast-i-end : goal.overflow_cast-i-end
overflow_cast-i-end g c = record { fits = omega (arith, most_size (value c.args.o) (g.met.Self.Memory.whole c.args.self.now) c.requires.live, c.requires.range) }

pub loop-i-init : goal.loop-i-init
loop-i-init g c = record { objects = none_run (g.Self.Memory.view c.args.self.now).objects (value c.args.o) (c.args.at - first_unit (object_of (g.Self.Memory.view c.args.self.now).objects (value c.args.o))) c.requires.live; held = refl; head = refl }

pub overflow_add-at : goal.overflow_add-at
overflow_add-at g c = record { fits = omega (arith, most_size (value c.args.o) (g.met.Self.Memory.whole c.args.self.now) c.requires.live, c.requires.range, c.loop-i-test.true) }

pub set_byte-requires-clause-live : goal.set_byte-requires-clause-live
set_byte-requires-clause-live g c = live_run _ _ (value c.args.o) _ _ c.requires.live c.loop-i.invariant.objects

pub set_byte-requires-clause-kind : goal.set_byte-requires-clause-kind
set_byte-requires-clause-kind g c = ap is_words (kind_run _ _ (value c.args.o) _ _ c.requires.live c.loop-i.invariant.objects) ∙ c.requires.kind

pub set_byte-requires-clause-above : goal.set_byte-requires-clause-above
set_byte-requires-clause-above g c = subst (λ n. n ≤ c.args.at + c.loop-i.i) (sym (first_run _ _ (value c.args.o) _ _ c.requires.live c.loop-i.invariant.objects)) (omega (arith, c.requires.above))

pub set_byte-requires-clause-range : goal.set_byte-requires-clause-range
set_byte-requires-clause-range g c = subst (λ n. c.args.at + c.loop-i.i < n) (sym (size_run _ _ (value c.args.o) _ _ c.requires.live c.loop-i.invariant.objects)) (omega (arith, c.requires.range, c.loop-i-test.true))

pub loop-i-preserved : goal.loop-i-preserved
loop-i-preserved g c =
    let old = (g.Self.Memory.view c.args.self.now).objects in
    let now = (g.Self.Memory.view c.loop-i.self).objects in
    let new = (g.Self.Memory.view c.set_byte.new.self).objects in
    let l = c.requires.range in
    let t = c.loop-i-test.true in
    let ws = take c.loop-i.i c.args.bytes.now in
    let n : length ws ≡ c.loop-i.i = length-take-le c.loop-i.i c.args.bytes.now (omega (arith, t)) in
    let first = first_unit (object_of old (value c.args.o)) in
    let a = c.requires.above in
    let same : first_unit (object_of now (value c.args.o)) ≡ first =
    first_run old now (value c.args.o) (c.args.at - first) ws c.requires.live c.loop-i.invariant.objects in
    let here : c.args.at + c.loop-i.i - first_unit (object_of now (value c.args.o)) ≡ c.args.at - first + length ws =
    ap (λ k. c.args.at + c.loop-i.i - k) same ∙ omega (arith, a, n) in
    let within = bytes_within (value c.args.o) (c.args.at - first + length ws) (g.met.Self.Memory.whole c.args.self.now) c.requires.live c.requires.kind (omega (arith, l, t, n, a)) in
    let e : c.loop-i.i + 1 ≡ suc c.loop-i.i = omega arith in
    record {
      objects = run_more old now (value c.args.o) (c.args.at - first_unit (object_of (g.Self.Memory.view c.args.self.now).objects (value c.args.o))) ws c.requires.live c.loop-i.invariant.objects new (get_or c.args.bytes.now c.loop-i.i 0) within
          (c.set_byte.ensures.objects ∙ ap (λ i. with_unit now (value c.args.o) i (get_or c.args.bytes.now c.loop-i.i 0)) here)
          ∙ ap (with_run old (value c.args.o) (c.args.at - first_unit (object_of (g.Self.Memory.view c.args.self.now).objects (value c.args.o)))) (sym (ap (λ k. take k c.args.bytes.now) e ∙ take-suc c.args.bytes.now c.loop-i.i 0 t));
      held = c.set_byte.ensures.held ∙ c.loop-i.invariant.held;
      head = c.set_byte.ensures.head ∙ c.loop-i.invariant.head;
    }

pub returns-clause-objects : goal.returns-clause-objects
returns-clause-objects g c =
    let f = c.loop-i-test.false in
    c.loop-i.invariant.objects
    ∙ ap (with_run (g.Self.Memory.view c.args.self.now).objects (value c.args.o) (c.args.at - first_unit (object_of (g.Self.Memory.view c.args.self.now).objects (value c.args.o)))) (take_all c.loop-i.i c.args.bytes.now (omega (arith, f)))
