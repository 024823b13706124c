-- What is answered where definitions are installed again.
use Rattle.std.specs.Prelude.{◌≡◌, ◌≤◌, ℕ, ◌+◌, List, [], ◌∷◌, ◌++◌, length, take, drop, map}
use Rattle.st_model.specs.Machine.{State, World}
use Rattle.st_model.specs.Births.{Births}
use Rattle.st_model.specs.Table.{Table}
use Rattle.st_model.specs.Show.{Shows}
use Rattle.st_model.specs.View.{View}
use Rattle.st_frames.specs.declared.frame.Frame.{Frame}
use Rattle.st_frames.specs.inside.Shown.{IsReady, shown}
use Rattle.st_chunk.specs.Definitions.{Definition, entries}
use Rattle.st_protocol.specs.Installing.{Install, Refused, Accepted}
use Rattle.st_protocol.specs.declared.installation.Installation.{Installation}
use Rattle.st_protocol.specs.declared.installation.Installation.TheVariants as installation
use Rattle.st_recover.specs.declared.opened.Lost.{Lost}
use Rattle.st_recover.specs.declared.replay.Replay.{Replay}
use Rattle.st_recover.specs.Replays.{Loss, Replayed, replay}

abbrev pub loss_of : Lost → Loss
loss_of l = record { number = l.number; why = l.why }

abbrev pub losses_of : List Lost → List Loss
losses_of ls = map loss_of ls

-- what is answered are the count and the losses of this, and its state is shown
pub record ReplaysAs (r : Replayed) (answered : Replay) (c : State Table) : Type 0 where
  pub shows : Shows c r.state
  pub count : answered.count ≡ r.count
  pub lost : losses_of answered.lost.items ≡ r.lost

-- what is answered with one definition more, that of this number, of which this came
abbrev pub Notes : ℕ → Installation → Replay → Replay → Type 0
Notes n (installation.Accepted selector) old new = (new.count ≡ old.count + 1) × (new.lost.items ≡ old.lost.items)
Notes n (installation.Refused cause) old new =
    (new.count ≡ old.count) × (new.lost.items ≡ old.lost.items ++ record { number = n; why = cause } ∷ [])
Notes n installation.OutOfMemory old new = ⊥

-- of these definitions those were replayed that stand from a place of their changes file on, under whatever registers and in
-- whatever world
pub record ReplaysFrom (install : Install) (ds : List Definition) (place : ℕ) (old new : View) (answered : Replay) : Type 0 where
  pub before : ℕ
  pub within : before ≤ length ds
  pub is : place ≡ length (entries (take before ds))
  pub replays : (f : Frame) (w : World) (s : State Births) → IsReady old f w → Shows (shown old f w) s
      → ReplaysAs (replay install s before (drop before ds)) answered (shown new f w)
