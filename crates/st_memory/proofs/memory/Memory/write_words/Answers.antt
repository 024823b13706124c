use Rattle.std.proofs.Common.{◌≡◌, ◌+◌, ◌<◌, suc, refl, length, take, get_or, sym, ap, ◌∙◌, arith, subst}
use Rattle.std.proofs.lemmas.List.{take_all, length-take-le}
use Rattle.std.proofs.Math.Seq.{take-suc}
use Rattle.st_model.specs.Values.{value}
use Rattle.st_model.specs.Objects.{is_words}
use Rattle.st_model.specs.View.{with_unit}
use Rattle.st_memory.specs.inside.Copied.{with_run}
use Rattle.st_memory.proofs.Stretches.{most_size, none_run, live_run, kind_run, size_run, run_more, words_within}
use Rattle.st_memory.proofs.memory.Memory.write_words.Goals as goal

pub overflow_cast-i-end : goal.overflow_cast-i-end
overflow_cast-i-end g c = record { fits = omega (arith, most_size (value c.args.o) (g.met.Self.Memory.whole c.args.self.now) c.requires.live, c.requires.range) }

pub loop-i-init : goal.loop-i-init
loop-i-init g c = record { objects = none_run (g.Self.Memory.view c.args.self.now).objects (value c.args.o) c.args.at c.requires.live; held = refl; head = refl }

pub overflow_add-at : goal.overflow_add-at
overflow_add-at g c = record { fits = omega (arith, most_size (value c.args.o) (g.met.Self.Memory.whole c.args.self.now) c.requires.live, c.requires.range, c.loop-i-test.true) }

pub set_word-requires-clause-live : goal.set_word-requires-clause-live
set_word-requires-clause-live g c = live_run _ _ (value c.args.o) _ _ c.requires.live c.loop-i.invariant.objects

pub set_word-requires-clause-kind : goal.set_word-requires-clause-kind
set_word-requires-clause-kind g c = ap is_words (kind_run _ _ (value c.args.o) _ _ c.requires.live c.loop-i.invariant.objects) ∙ c.requires.kind

pub set_word-requires-clause-range : goal.set_word-requires-clause-range
set_word-requires-clause-range g c = subst (λ n. c.args.at + c.loop-i.i < n) (sym (size_run _ _ (value c.args.o) _ _ c.requires.live c.loop-i.invariant.objects)) (omega (arith, c.requires.range, c.loop-i-test.true))

pub loop-i-preserved : goal.loop-i-preserved
loop-i-preserved g c =
    let old = (g.Self.Memory.view c.args.self.now).objects in
    let now = (g.Self.Memory.view c.loop-i.self).objects in
    let new = (g.Self.Memory.view c.set_word.new.self).objects in
    let l = c.requires.range in
    let t = c.loop-i-test.true in
    let ws = take c.loop-i.i c.args.words.now in
    let n : length ws ≡ c.loop-i.i = length-take-le c.loop-i.i c.args.words.now (omega (arith, t)) in
    let within = words_within (value c.args.o) (c.args.at + length ws) (g.met.Self.Memory.whole c.args.self.now) c.requires.live c.requires.kind (omega (arith, l, t, n)) in
    let e : c.loop-i.i + 1 ≡ suc c.loop-i.i = omega arith in
    record {
      objects = run_more old now (value c.args.o) c.args.at ws c.requires.live c.loop-i.invariant.objects new (get_or c.args.words.now c.loop-i.i 0) within
          (c.set_word.ensures.objects ∙ ap (λ i. with_unit now (value c.args.o) (c.args.at + i) (get_or c.args.words.now c.loop-i.i 0)) (sym n))
          ∙ ap (with_run old (value c.args.o) c.args.at) (sym (ap (λ k. take k c.args.words.now) e ∙ take-suc c.args.words.now c.loop-i.i 0 t));
      held = c.set_word.ensures.held ∙ c.loop-i.invariant.held;
      head = c.set_word.ensures.head ∙ c.loop-i.invariant.head;
    }

pub returns-clause-objects : goal.returns-clause-objects
returns-clause-objects g c =
    let f = c.loop-i-test.false in
    c.loop-i.invariant.objects
    ∙ ap (with_run (g.Self.Memory.view c.args.self.now).objects (value c.args.o) c.args.at) (take_all c.loop-i.i c.args.words.now (omega (arith, f)))
