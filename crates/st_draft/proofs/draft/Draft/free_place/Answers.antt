use Rattle.std.proofs.Common.{◌≡◌, ◌+◌, ◌<◌, length, drop, suc, false, true, is_some, sym, ap, ◌∙◌, arith}
use Rattle.st_model.specs.Table.{entry, free_place}
use Rattle.st_draft.proofs.Freeing.{free_past, free_next, free_here, free_end, first_dropped}
use Rattle.st_memory.proofs.Bearing.{live_place}
use Rattle.st_draft.proofs.draft.Draft.free_place.Goals as goal
use Rattle.st_draft.proofs.draft.Draft.free_place.Goals.{then-not-live+else-left-eq0, else-not-live}

pub loop-k-init : goal.loop-k-init
loop-k-init g c =
    let t = (g.M.Memory.view c.args.self.now.base.now).objects in
    record { left = omega arith; same = ap (λ u. free_place u 1 c.args.number) (first_dropped t) }

pub loop-k-preserved : goal.loop-k-preserved
loop-k-preserved g c =
    let t = (g.M.Memory.view c.args.self.now.base.now).objects in
    let k = c.loop-k.k in
    let low : k < 32768 = let h = c.loop-k-test.true in omega (arith, h) in
    let places = (g.met.M.Memory.whole c.args.self.now.base.now).places in
    let within : k < length t = omega (arith, low, places) in
    let next : suc k ≡ k + 1 = omega arith in
    let bound = c.loop-k.invariant.left in
    elim c.if-not-live.branch [
      | then-not-live+else-left-eq0 w ↦
          let is = w.left-is in
          let some = w.if-left-eq0.false in
          let more : c.loop-k.left ≡ suc c.if-not-live.left = omega (arith, is, some) in
          let free : is_some (entry t k) ≡ false = sym (live_place t k) ∙ sym c.live.ensures ∙ w.if-not-live.true in
          record {
            left = omega (arith, bound, is);
            same = c.loop-k.invariant.same ∙ ap (free_place (drop k t) k) more ∙ free_next t k k c.if-not-live.left within free
                ∙ ap (λ m. free_place (drop m t) m c.if-not-live.left) next;
          }
      | else-not-live w ↦
          let is = w.left-is in
          let there : is_some (entry t k) ≡ true = sym (live_place t k) ∙ sym c.live.ensures ∙ w.if-not-live.false in
          record {
            left = omega (arith, bound, is);
            same = c.loop-k.invariant.same ∙ free_past t k k c.loop-k.left there
                ∙ ap (λ m. free_place (drop m t) m c.loop-k.left) next ∙ ap (free_place (drop (k + 1) t) (k + 1)) (sym is);
          }
    ]

pub returns-then-left-eq0-clause-place : goal.returns-then-left-eq0-clause-place
returns-then-left-eq0-clause-place g c =
    let t = (g.M.Memory.view c.args.self.now.base.now).objects in
    let k = c.loop-k.k in
    let low : k < 32768 = let h = c.loop-k-test.true in omega (arith, h) in
    let places = (g.met.M.Memory.whole c.args.self.now.base.now).places in
    let within : k < length t = omega (arith, low, places) in
    let free : is_some (entry t k) ≡ false = sym (live_place t k) ∙ sym c.live.ensures ∙ c.if-not-live.true in
    sym (c.loop-k.invariant.same ∙ ap (free_place (drop k t) k) c.if-left-eq0.true ∙ free_here t k k within free)

pub returns-clause-place : goal.returns-clause-place
returns-clause-place g c =
    let t = (g.M.Memory.view c.args.self.now.base.now).objects in
    let end : c.loop-k.k ≡ 32768 = let h = c.loop-k-test.false in let e = c.loop-k.auto.k-end in omega (arith, h, e) in
    let places = (g.met.M.Memory.whole c.args.self.now.base.now).places in
    sym (c.loop-k.invariant.same ∙ free_end t c.loop-k.k c.loop-k.k c.loop-k.left (omega (arith, places, end)) ∙ ap (λ m. m + c.loop-k.left) end)
