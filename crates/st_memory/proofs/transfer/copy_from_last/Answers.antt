use Rattle.std.proofs.Common.{refl, suc, subst, ◌∙◌, arith, ◌≡◌, ◌<◌, ◌+◌, ◌-◌, length}
use Rattle.st_model.specs.Values.{value}
use Rattle.st_model.specs.View.{with_fields, fields_from, object_of}
use Rattle.st_memory.proofs.Copying.{live_after, count_after, header_after, last_more, none_yet, all_done}
use Rattle.st_memory.proofs.transfer.copy_from_last.Goals as goal

pub loop-left-init : goal.loop-left-init
loop-left-init g c = record {
  few = omega arith;
  objects = none_yet (g.M.Memory.view c.args.m.now).objects (value c.args.source) (value c.args.target) (c.args.from + c.args.n) (c.args.to + c.args.n) c.args.n;
  held = refl;
  head = refl;
  places = λ v p s. s;
}

pub overflow_add-from : goal.overflow_add-from
overflow_add-from g c = let s = c.requires.fields.small.0 in let f = c.loop-left.invariant.few in omega (arith, s, f)

pub pointer-x-requires-clause-live : goal.pointer-x-requires-clause-live
pointer-x-requires-clause-live g c = live_after (g.M.Memory.view c.args.m.now).objects (g.M.Memory.view c.loop-left.m).objects (value c.args.target) c.args.to c.args.n (fields_from (g.M.Memory.view c.args.m.now).objects (value c.args.source) (c.args.from + c.loop-left.left) (c.args.n - c.loop-left.left)) (c.args.to + c.loop-left.left) c.requires.fields.target c.loop-left.invariant.objects (value c.args.source) c.requires.fields.source.live

pub pointer-x-requires-clause-range : goal.pointer-x-requires-clause-range
pointer-x-requires-clause-range g c =
    let l = c.requires.fields.source.fields in
    let f = c.loop-left.invariant.few in
    let t = c.loop-left-test.true in
    let d : c.args.from + (c.loop-left.left - 1) < length (object_of (g.M.Memory.view c.args.m.now).objects (value c.args.source)).fields = omega (arith, l, f, t) in
    rw (count_after (g.M.Memory.view c.args.m.now).objects (g.M.Memory.view c.loop-left.m).objects (value c.args.target) c.args.to c.args.n (fields_from (g.M.Memory.view c.args.m.now).objects (value c.args.source) (c.args.from + c.loop-left.left) (c.args.n - c.loop-left.left)) (c.args.to + c.loop-left.left) c.requires.fields.target c.loop-left.invariant.objects (value c.args.source)) d

pub overflow_add-to : goal.overflow_add-to
overflow_add-to g c = let s = c.requires.fields.small.1 in let f = c.loop-left.invariant.few in omega (arith, s, f)

pub set_pointer-requires-clause-live : goal.set_pointer-requires-clause-live
set_pointer-requires-clause-live g c = live_after (g.M.Memory.view c.args.m.now).objects (g.M.Memory.view c.loop-left.m).objects (value c.args.target) c.args.to c.args.n (fields_from (g.M.Memory.view c.args.m.now).objects (value c.args.source) (c.args.from + c.loop-left.left) (c.args.n - c.loop-left.left)) (c.args.to + c.loop-left.left) c.requires.fields.target c.loop-left.invariant.objects (value c.args.target) c.requires.fields.target.live

pub set_pointer-requires-clause-range : goal.set_pointer-requires-clause-range
set_pointer-requires-clause-range g c =
    let l = c.requires.fields.target.fields in
    let f = c.loop-left.invariant.few in
    let t = c.loop-left-test.true in
    let d : c.args.to + (c.loop-left.left - 1) < length (object_of (g.M.Memory.view c.args.m.now).objects (value c.args.target)).fields = omega (arith, l, f, t) in
    rw (count_after (g.M.Memory.view c.args.m.now).objects (g.M.Memory.view c.loop-left.m).objects (value c.args.target) c.args.to c.args.n (fields_from (g.M.Memory.view c.args.m.now).objects (value c.args.source) (c.args.from + c.loop-left.left) (c.args.n - c.loop-left.left)) (c.args.to + c.loop-left.left) c.requires.fields.target c.loop-left.invariant.objects (value c.args.target)) d

pub set_pointer-requires-clause-header : goal.set_pointer-requires-clause-header
set_pointer-requires-clause-header g c = header_after _ _ (value c.args.target) _ _ _ _ c.requires.fields.target c.loop-left.invariant.objects _ _

pub loop-left-preserved : goal.loop-left-preserved
loop-left-preserved g c =
    let f = c.loop-left.invariant.few in
    let t = c.loop-left-test.true in
    let e : c.loop-left.left ≡ suc (c.loop-left.left - 1) = omega (arith, t) in
    record {
      few = omega (arith, f);
      objects = last_more (g.M.Memory.view c.args.m.now).objects (g.M.Memory.view c.loop-left.m).objects (g.M.Memory.view c.set_pointer.new.self).objects (value c.args.source) (value c.args.target) c.args.from c.args.to
          (c.loop-left.left - 1) c.args.n (value c.pointer-x.result) c.requires.fields.target c.requires.up (omega (arith, f, t))
          (subst (λ k. (g.M.Memory.view c.loop-left.m).objects ≡ with_fields (g.M.Memory.view c.args.m.now).objects (value c.args.target) (c.args.to + k) (fields_from (g.M.Memory.view c.args.m.now).objects (value c.args.source) (c.args.from + k) (c.args.n - k))) e c.loop-left.invariant.objects)
          c.pointer-x.ensures.field c.set_pointer.ensures.objects;
      held = c.set_pointer.ensures.held ∙ c.loop-left.invariant.held;
      head = c.set_pointer.ensures.head ∙ c.loop-left.invariant.head;
      places = λ v p s. c.set_pointer.ensures.places v p (c.loop-left.invariant.places v p s);
    }

pub returns-clause-copied : goal.returns-clause-copied
returns-clause-copied g c =
    let t = c.loop-left-test.false in
    let e : c.loop-left.left ≡ 0 = omega (arith, t) in
    record {
      objects = all_done (g.M.Memory.view c.args.m.now).objects (g.M.Memory.view c.loop-left.m).objects (value c.args.source) (value c.args.target) c.args.from c.args.to c.args.n c.loop-left.left e c.loop-left.invariant.objects;
      held = c.loop-left.invariant.held;
      head = c.loop-left.invariant.head;
    }
