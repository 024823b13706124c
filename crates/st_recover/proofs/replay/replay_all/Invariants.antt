use Rattle.std.proofs.Common.{◌≤◌, ◌+◌, ◌-◌, ◌^◌, length}
use Rattle.std.specs.Prelude.{All}
use Rattle.st_model.specs.Machine.{State, World}
use Rattle.st_model.specs.Births.{Births}
use Rattle.st_model.specs.Show.{Shows}
use Rattle.st_frames.specs.declared.frame.Frame.{Frame}
use Rattle.st_frames.specs.inside.Shown.{IsReady, shown}
use Rattle.st_chunk.specs.Definitions.{IsDefinition}
use Rattle.st_changes.specs.inside.Views.{definitions_of}
use Rattle.st_install.specs.Defining.{installed}
use Rattle.st_recover.specs.Replays.{replay}
use Rattle.st_recover.proofs.Replaying.{IsUnderway}
use Rattle.st_recover.proofs.Selectors.{AreFound}
use Rattle.st_recover.proofs.replay.replay_all.Given as goal

-- what is left gives, behind what is answered so far, what the whole gives
abbrev pub invariant-loop-rest : goal.invariant-loop-rest
invariant-loop-rest g l = record {
  good : All IsDefinition (definitions_of l.rest);
  numbers : l.number + length l.rest ≤ 2 ^ 32 - 1;
  count : l.replay.count ≤ l.number;
  few : length l.replay.lost.items ≤ l.number;
  found : AreFound (definitions_of l.fn.definitions) (definitions_of l.rest) l.selectors.items;
  ready : (f : Frame) (w : World) → IsReady (g.M.Memory.view l.fn.m) f w → IsReady (g.M.Memory.view l.m) f w;
  replays : (f : Frame) (w : World) (s : State Births) → IsReady (g.M.Memory.view l.fn.m) f w → Shows (shown (g.M.Memory.view l.fn.m) f w) s
      → IsUnderway installed (replay installed s l.fn.before (definitions_of l.fn.definitions)) l.replay l.number (definitions_of l.rest) (shown (g.M.Memory.view l.m) f w);
}

abbrev pub decreases-loop-rest : goal.decreases-loop-rest
decreases-loop-rest g l = length l.rest
