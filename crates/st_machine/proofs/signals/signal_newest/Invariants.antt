use Rattle.std.proofs.Common.{◌≡◌, ◌-◌, ◌≤◌, length}
use Rattle.st_model.specs.Table.{bounded_table}
use Rattle.st_model.specs.Cycles.{signal_newest}
use Rattle.st_frames.specs.inside.Shown.{IsReady, shown}
use Rattle.st_machine.proofs.signals.signal_newest.Given as goal

-- what is left to be done from here is what was to be done from the start
abbrev pub invariant-loop : goal.invariant-loop
invariant-loop g l = record {
  ready : IsReady (g.M.Memory.view l.m) l.fn.f l.w;
  within : l.counter ≤ length l.fn.w.devices.pending;
  left : (signal_newest bounded_table (length l.fn.w.devices.pending)).run (shown (g.M.Memory.view l.fn.m) l.fn.f l.fn.w)
      ≡ (signal_newest bounded_table (length l.fn.w.devices.pending - l.counter)).run (shown (g.M.Memory.view l.m) l.fn.f l.w);
}
