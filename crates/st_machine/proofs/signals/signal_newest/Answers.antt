use Rattle.std.proofs.Common.{rules, ◌≡◌, ◌-◌, ◌+◌, ℕ, suc, Err, sym, subst, ap, ◌∙◌, arith, length}
use Rattle.st_model.specs.Table.{bounded_table}
use Rattle.st_model.specs.Cycles.{signal_newest}
use Rattle.st_model.specs.inside.Calls.{Does, itself}
use Rattle.st_frames.specs.inside.Shown.{shown}
use Rattle.st_machine.proofs.Done.{newest_first, newest_dies, none_left}
use Rattle.st_machine.proofs.signals.signal_newest.Goals as goal

pub loop-init : goal.loop-init
loop-init g c =
    let s = shown (g.M.Memory.view c.args.m.now) c.args.f.now c.args.w.now in
    let e : length c.args.w.now.devices.pending ≡ length c.args.w.now.devices.pending - 0 = omega arith in
    record {
      ready = c.requires.ready;
      within = omega arith;
      left = ap (λ (n : ℕ). (signal_newest bounded_table n).run s) e;
    }

pub signal_next-requires : goal.signal_next-requires
signal_next-requires g c = record { ready = c.loop.invariant.ready }

pub returns-in_err-signal_next-clause-does : goal.returns-in_err-signal_next-clause-does
returns-in_err-signal_next-clause-does g c =
    let s = shown (g.M.Memory.view c.args.m.now) c.args.f.now c.args.w.now in
    let t = shown (g.M.Memory.view c.loop.m) c.args.f.now c.loop.w in
    let e : c.from_residual.result ≡ Err c.in_err-signal_next.field-0.0 = search rules in
    let count = c.pending_count-end.ensures.count in
    let n : length c.args.w.now.devices.pending - c.loop.counter ≡ suc (length c.args.w.now.devices.pending - (c.loop.counter + 1)) = omega (arith, count) in
    subst (λ y. Does (signal_newest bounded_table (length c.args.w.now.devices.pending)) itself s y (shown (g.M.Memory.view c.signal_next.new.m) c.args.f.now c.signal_next.new.w)) (sym e)
    (c.loop.invariant.left ∙ (ap (λ (i : ℕ). (signal_newest bounded_table i).run t) n
    ∙ newest_dies (length c.args.w.now.devices.pending - (c.loop.counter + 1)) t c.in_err-signal_next.field-0.0 c.in_err-signal_next.ensures.does))

pub loop-preserved : goal.loop-preserved
loop-preserved g c =
    let t = shown (g.M.Memory.view c.loop.m) c.args.f.now c.loop.w in
    let u = shown (g.M.Memory.view c.signal_next.new.m) c.args.f.now c.signal_next.new.w in
    let count = c.pending_count-end.ensures.count in
    let n : length c.args.w.now.devices.pending - c.loop.counter ≡ suc (length c.args.w.now.devices.pending - (c.loop.counter + 1)) = omega (arith, count) in
    record {
      ready = c.in_ok-signal_next.ensures.ready;
      within = omega (arith, count);
      left = c.loop.invariant.left ∙ (ap (λ (i : ℕ). (signal_newest bounded_table i).run t) n ∙ newest_first (length c.args.w.now.devices.pending - (c.loop.counter + 1)) t u c.in_ok-signal_next.ensures.does);
    }

pub returns-clause-does : goal.returns-clause-does
returns-clause-does g c =
    let t = shown (g.M.Memory.view c.loop.m) c.args.f.now c.loop.w in
    let count = c.pending_count-end.ensures.count in
    let n : length c.args.w.now.devices.pending - c.loop.counter ≡ 0 = omega (arith, count) in
    c.loop.invariant.left ∙ (ap (λ (i : ℕ). (signal_newest bounded_table i).run t) n ∙ none_left t)

pub returns-clause-ready : goal.returns-clause-ready
returns-clause-ready g c = c.loop.invariant.ready
