use Rattle.std.proofs.Common.{◌≡◌, ◌+◌, ◌≤◌, refl, ap, ◌∙◌, arith}
use Rattle.st_model.specs.Values.{value}
use Rattle.st_memory.specs.inside.Copied.{with_bytes_of}
use Rattle.st_memory.proofs.Laying.{both_have, none_laid, first_more}
use Rattle.st_memory.proofs.bytes.copy_from_first.Goals as goal

pub loop-done-init : goal.loop-done-init
loop-done-init g c = record {
  few = omega arith;
  objects = none_laid (g.M.Memory.view c.args.m.now).objects (value c.args.source) c.args.from (value c.args.target) c.args.to c.requires.bytes.target.live;
  held = refl;
  head = refl;
}

pub copy_piece-requires : goal.copy_piece-requires
copy_piece-requires g c =
    let count = c.min-count.ensures in
    let both = both_have _ _ _ _ c.args.from c.args.to c.args.n _ _ _ c.requires.bytes.source c.requires.bytes.target c.loop-done.invariant.objects c.loop-done.done c.min-count.result (omega (arith, count, c.loop-done-test.true)) in
    record { source = both.0; target = both.1; few = omega (arith, count) }

pub loop-done-preserved : goal.loop-done-preserved
loop-done-preserved g c =
    let old = (g.M.Memory.view c.args.m.now).objects in
    let now = (g.M.Memory.view c.loop-done.m).objects in
    let new = (g.M.Memory.view c.copy_piece.new.m).objects in
    let count = c.min-count.ensures in
    let t = c.loop-done-test.true in
    let low : c.loop-done.done + c.min-count.result ≤ c.args.n = omega (arith, count, t) in
    record {
      few = low;
      objects = first_more old now new (value c.args.source) (value c.args.target) c.args.from c.args.to c.args.n c.loop-done.done c.min-count.result c.requires.bytes.source c.requires.bytes.target low
          c.requires.down c.loop-done.invariant.objects c.copy_piece.ensures.objects;
      held = c.copy_piece.ensures.held ∙ c.loop-done.invariant.held;
      head = c.copy_piece.ensures.head ∙ c.loop-done.invariant.head;
    }

pub returns : goal.returns
returns g c =
    let l = c.loop-done-test.false in
    let f = c.loop-done.invariant.few in
    let e : c.loop-done.done ≡ c.args.n = omega (arith, l, f) in
    record {
      objects = c.loop-done.invariant.objects ∙ ap (with_bytes_of (g.M.Memory.view c.args.m.now).objects (value c.args.source) c.args.from (value c.args.target) c.args.to) e;
      held = c.loop-done.invariant.held;
      head = c.loop-done.invariant.head;
    }
