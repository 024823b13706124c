use Rattle.std.proofs.Common.{◌≡◌, ◌+◌, ◌-◌, ◌≤◌, refl, ap, ◌∙◌, subst, arith}
use Rattle.st_model.specs.Values.{value}
use Rattle.st_memory.specs.inside.Copied.{with_bytes_of}
use Rattle.st_memory.proofs.Laying.{both_have, none_laid, last_more}
use Rattle.st_memory.proofs.bytes.copy_from_last.Goals as goal

pub copy_piece-requires : goal.copy_piece-requires
copy_piece-requires g c =
    let count = c.min-count.ensures in
    let both = both_have _ _ _ _ c.args.from c.args.to c.args.n _ _ _ c.requires.bytes.source c.requires.bytes.target c.loop-left.invariant.objects (c.loop-left.left - c.min-count.result) c.min-count.result (omega (arith, count, c.loop-left.invariant.few)) in
    record { source = both.0; target = both.1; few = omega (arith, count) }

pub loop-left-init : goal.loop-left-init
loop-left-init g c =
    let old = (g.M.Memory.view c.args.m.now).objects in
    let e : 0 ≡ c.args.n - c.args.n = omega arith in
    record {
      few = omega arith;
      objects = none_laid old (value c.args.source) (c.args.from + c.args.n) (value c.args.target) (c.args.to + c.args.n) c.requires.bytes.target.live
          ∙ ap (with_bytes_of old (value c.args.source) (c.args.from + c.args.n) (value c.args.target) (c.args.to + c.args.n)) e;
      held = refl;
      head = refl;
    }

pub loop-left-preserved : goal.loop-left-preserved
loop-left-preserved g c =
    let old = (g.M.Memory.view c.args.m.now).objects in
    let now = (g.M.Memory.view c.loop-left.m).objects in
    let new = (g.M.Memory.view c.copy_piece.new.m).objects in
    let s = value c.args.source in
    let v = value c.args.target in
    let count = c.min-count.ensures in
    let f = c.loop-left.invariant.few in
    let m = c.min-count.result in
    let k = c.loop-left.left - m in
    let whole : c.loop-left.left ≡ k + m = omega (arith, count) in
    let low : k + m ≤ c.args.n = omega (arith, f, whole) in
    record {
      few = omega (arith, f);
      objects = last_more old now new s v c.args.from c.args.to c.args.n k m c.requires.bytes.source c.requires.bytes.target low c.requires.up
          (subst (λ i. now ≡ with_bytes_of old s (c.args.from + i) v (c.args.to + i) (c.args.n - i)) whole c.loop-left.invariant.objects) c.copy_piece.ensures.objects;
      held = c.copy_piece.ensures.held ∙ c.loop-left.invariant.held;
      head = c.copy_piece.ensures.head ∙ c.loop-left.invariant.head;
    }

pub returns : goal.returns
returns g c =
    let old = (g.M.Memory.view c.args.m.now).objects in
    let s = value c.args.source in
    let v = value c.args.target in
    let l = c.loop-left-test.false in
    let e : c.loop-left.left ≡ 0 = omega (arith, l) in
    let from : c.args.from + 0 ≡ c.args.from = omega arith in
    let to : c.args.to + 0 ≡ c.args.to = omega arith in
    let n : c.args.n - 0 ≡ c.args.n = omega arith in
    record {
      objects = subst (λ i. (g.M.Memory.view c.loop-left.m).objects ≡ with_bytes_of old s (c.args.from + i) v (c.args.to + i) (c.args.n - i)) e c.loop-left.invariant.objects
          ∙ (λ i. with_bytes_of old s (from i) v (to i) (n i));
      held = c.loop-left.invariant.held;
      head = c.loop-left.invariant.head;
    }
