use Rattle.std.proofs.Common.{refl, suc, subst, ◌∙◌, arith, ◌≡◌, ◌<◌, ◌+◌, length}
use Rattle.st_model.specs.Values.{value}
use Rattle.st_model.specs.View.{with_fields, fields_from, object_of}
use Rattle.st_memory.proofs.Copying.{live_after, count_after, header_after, first_more}
use Rattle.st_memory.proofs.transfer.copy_from_first.Goals as goal

pub loop-done-init : goal.loop-done-init
unfolding with_fields fields_from
loop-done-init g c = record { objects = refl; held = refl; head = refl; places = λ v p s. s }

pub overflow_add-from : goal.overflow_add-from
overflow_add-from g c = let s = c.requires.fields.small.0 in omega (arith, s)

pub pointer-x-requires-clause-live : goal.pointer-x-requires-clause-live
pointer-x-requires-clause-live g c = live_after (g.M.Memory.view c.args.m.now).objects (g.M.Memory.view c.loop-done.m).objects (value c.args.target) c.args.to c.args.n (fields_from (g.M.Memory.view c.args.m.now).objects (value c.args.source) c.args.from c.loop-done.done) c.args.to c.requires.fields.target c.loop-done.invariant.objects (value c.args.source) c.requires.fields.source.live

pub pointer-x-requires-clause-range : goal.pointer-x-requires-clause-range
pointer-x-requires-clause-range g c =
    let l = c.requires.fields.source.fields in
    let d : c.args.from + c.loop-done.done < length (object_of (g.M.Memory.view c.args.m.now).objects (value c.args.source)).fields = omega (arith, l) in
    rw (count_after (g.M.Memory.view c.args.m.now).objects (g.M.Memory.view c.loop-done.m).objects (value c.args.target) c.args.to c.args.n (fields_from (g.M.Memory.view c.args.m.now).objects (value c.args.source) c.args.from c.loop-done.done) c.args.to c.requires.fields.target c.loop-done.invariant.objects (value c.args.source)) d

pub overflow_add-to : goal.overflow_add-to
overflow_add-to g c = let s = c.requires.fields.small.1 in omega (arith, s)

pub set_pointer-requires-clause-live : goal.set_pointer-requires-clause-live
set_pointer-requires-clause-live g c = live_after (g.M.Memory.view c.args.m.now).objects (g.M.Memory.view c.loop-done.m).objects (value c.args.target) c.args.to c.args.n (fields_from (g.M.Memory.view c.args.m.now).objects (value c.args.source) c.args.from c.loop-done.done) c.args.to c.requires.fields.target c.loop-done.invariant.objects (value c.args.target) c.requires.fields.target.live

pub set_pointer-requires-clause-range : goal.set_pointer-requires-clause-range
set_pointer-requires-clause-range g c =
    let l = c.requires.fields.target.fields in
    let d : c.args.to + c.loop-done.done < length (object_of (g.M.Memory.view c.args.m.now).objects (value c.args.target)).fields = omega (arith, l) in
    rw (count_after (g.M.Memory.view c.args.m.now).objects (g.M.Memory.view c.loop-done.m).objects (value c.args.target) c.args.to c.args.n (fields_from (g.M.Memory.view c.args.m.now).objects (value c.args.source) c.args.from c.loop-done.done) c.args.to c.requires.fields.target c.loop-done.invariant.objects (value c.args.target)) d

pub set_pointer-requires-clause-header : goal.set_pointer-requires-clause-header
set_pointer-requires-clause-header g c = header_after _ _ (value c.args.target) _ _ _ _ c.requires.fields.target c.loop-done.invariant.objects _ _

pub loop-done-preserved : goal.loop-done-preserved
loop-done-preserved g c = record {
  objects = let e : c.loop-done.done + 1 ≡ suc c.loop-done.done = omega arith in
      rw e (first_more (g.M.Memory.view c.args.m.now).objects (g.M.Memory.view c.loop-done.m).objects (g.M.Memory.view c.set_pointer.new.self).objects (value c.args.source) (value c.args.target) c.args.from c.args.to
      c.loop-done.done c.args.n (value c.pointer-x.result) c.requires.fields.target c.requires.down c.loop-done-test.true c.loop-done.invariant.objects c.pointer-x.ensures.field c.set_pointer.ensures.objects);
  held = c.set_pointer.ensures.held ∙ c.loop-done.invariant.held;
  head = c.set_pointer.ensures.head ∙ c.loop-done.invariant.head;
  places = λ v p s. c.set_pointer.ensures.places v p (c.loop-done.invariant.places v p s);
}

pub returns-clause-copied : goal.returns-clause-copied
returns-clause-copied g c =
    let l = c.loop-done-test.false in
    let e : c.loop-done.done ≡ c.args.n = omega (arith, l) in
    record {
      objects = subst (λ k. (g.M.Memory.view c.loop-done.m).objects ≡ with_fields (g.M.Memory.view c.args.m.now).objects (value c.args.target) c.args.to (fields_from (g.M.Memory.view c.args.m.now).objects (value c.args.source) c.args.from k)) e c.loop-done.invariant.objects;
      held = c.loop-done.invariant.held;
      head = c.loop-done.invariant.head;
    }
