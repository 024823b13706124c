use Rattle.std.proofs.Common.{◌+◌, sym, subst, arith}
use Rattle.std.proofs.lemmas.Grind.{common_steps}
use Rattle.st_model.specs.Values.{value}
use Rattle.st_model.specs.Settled.{is_marked}
use Rattle.st_model.specs.View.{object_of}
use Rattle.st_model.proofs.WholeLemmas.{live_used}
use Rattle.st_clean.specs.Filling.{FilledBelow, Puts}
use Rattle.st_clean.proofs.Below.{fills_skip, has_room, fills_more, fills_all}
use Rattle.st_clean.proofs.filling.fill.Goals as goal
use Rattle.st_clean.proofs.filling.fill.Goals.{then-marks-k, else-marks-k}

pub copy_object-requires-clause-room : goal.copy_object-requires-clause-room
copy_object-requires-clause-room g c =
    let v = g.M.Memory.view c.args.m.now in
    let u = live_used v.objects c.loop-k.k (c.requires.live c.loop-k.k c.if-marks-k.true) in
    has_room (is_marked c.args.marks.now) c.loop-k.k v (g.L.Loader.loaded c.loop-k.loader) c.loop-k.invariant (g.met.M.Memory.whole c.args.m.now) (value c.pointer_of.result) c.pointer_of.ensures u.0 u.1

pub loop-k-preserved : goal.loop-k-preserved
loop-k-preserved g c =
    let v = g.M.Memory.view c.args.m.now in
    let w = g.L.Loader.loaded c.loop-k.loader in
    let set = is_marked c.args.marks.now in
    elim c.if-marks-k.branch [
      | then-marks-k b ↦
          let u = live_used v.objects c.loop-k.k (c.requires.live c.loop-k.k b.if-marks-k.true) in
          fills_more set c.loop-k.k v w c.loop-k.invariant (g.met.M.Memory.whole c.args.m.now) (value b.pointer_of.result) b.pointer_of.ensures u.0 u.1
          (g.L.Loader.loaded c.if-marks-k.loader) b.if-marks-k.true (subst (λ l. Puts w (g.L.Loader.loaded l) (value b.pointer_of.result) (object_of v.objects (value b.pointer_of.result))) (sym b.loader-is) b.copy_object.ensures)
      | else-marks-k b ↦ subst (λ l. FilledBelow set (c.loop-k.k + 1) v (g.L.Loader.loaded l)) (sym b.loader-is) (fills_skip set c.loop-k.k v w c.loop-k.invariant b.if-marks-k.false)
    ]

pub returns : goal.returns
returns g c =
    let v = g.M.Memory.view c.args.m.now in
    let p = (g.met.M.Memory.whole c.args.m.now).places in
    let l = c.requires.long in
    fills_all (is_marked c.args.marks.now) c.loop-k.k v (g.L.Loader.loaded c.loop-k.loader) (grind (arith, common_steps, p, l)) c.loop-k.invariant
