use Rattle.std.proofs.Common.{◌≡◌, ◌≤◌}
use Rattle.st_model.specs.Machine.{State}
use Rattle.st_model.specs.Births.{Births}
use Rattle.st_model.specs.Show.{Shows}
use Rattle.st_frames.specs.inside.Rows.{registers_in}
use Rattle.st_frames.specs.inside.Shown.{shown, registers_of, IsReady}
use Rattle.st_at_once.specs.inside.Room.{room_of}
use Rattle.st_machine.specs.inside.Strides.{SoFar}
use Rattle.st_machine.proofs.stretch.go_on.Given as goal

-- what was shown at the start is shown after the cycles so far, there is room for a change, the registers are those of the frame, and
-- the memory is the one that was borrowed
abbrev pub invariant-loop-done : goal.invariant-loop-done
invariant-loop-done g l = record {
  room : 1 ≤ room_of (g.M.Memory.view l.near.memory.now);
  ready : IsReady (g.M.Memory.view l.near.memory.now) l.f l.w;
  same : registers_in l.r ≡ registers_of l.f;
  world : l.r.world.now ≡ l.w;
  name : l.near.memory.ghost_name ≡ l.initial.near.memory.ghost_name;
  shows : (s : State Births) → Shows (shown (g.M.Memory.view l.fn.m) l.fn.f l.w) s → SoFar l.done s (shown (g.M.Memory.view l.near.memory.now) l.f l.w);
}
