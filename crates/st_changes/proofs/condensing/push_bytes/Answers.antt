use Rattle.std.proofs.Common.{◌≤◌, ◌-◌, length, take, drop, arith, length-take, length-drop}
use Rattle.std.proofs.lemmas.Grind.{common_steps}
use Rattle.st_host.proofs.Pushing.{push_none, push_then, push_cut}
use Rattle.st_changes.proofs.Superseding.{taken_on}
use Rattle.st_changes.proofs.condensing.push_bytes.Goals as goal

pub pushed-init : goal.pushed-init
pushed-init g c = record {
  pushes = push_none g.H.Host c.args.name.now c.args.host.now c.args.piece.now (λ told f s left. g.met.H.Host.only_now c.args.host.now f s told left);
  end = omega arith;
  within = omega arith;
}

pub returns-in_err-push : goal.returns-in_err-push
returns-in_err-push g c =
    push_cut g.H.Host c.args.name.now _ (take c.pushed.at c.args.bytes.now) _ _ _ _ _ _ _ _ _ c.from_residual.ensures.0 c.pushed.invariant.pushes c.in_err-push.ensures

pub pushed-preserved : goal.pushed-preserved
pushed-preserved g c =
    let bytes = c.args.bytes.now in
    let i = c.pushed.at in
    let j = c.if-bytes-at-gt512.end in
    let later : i ≤ j = grind (arith, common_steps) in
    let within : j ≤ length bytes = grind (arith, common_steps) in
    record {
      pushes = push_then g.H.Host c.args.name.now _ (take i bytes) _ _ _ _ _ _ _ _ c.pushed.invariant.pushes c.in_ok-push.ensures (taken_on bytes i j later);
      end = omega (arith, c.pushed.invariant.end, c.in_ok-push.ensures.adds.end, length-drop i bytes, length-take (j - i) (drop i bytes), later, within);
      within = within;
    }
