-- What an opened store is of its commit.
use Rattle.std.specs.Prelude.{◌≡◌, ℕ, List}
use Rattle.st_host.specs.declared.host.Host.{Ghosts}
use Rattle.st_model.specs.Objects.{nil}
use Rattle.st_model.specs.Machine.{empty_world}
use Rattle.st_model.specs.View.{View}
use Rattle.st_model.specs.Show.{Shows}
use Rattle.st_frames.specs.inside.Shown.{shown}
use Rattle.st_store.specs.Stored.{IsKept}
use Rattle.st_protocol.specs.Installing.{Install}
use Rattle.st_recover.specs.Commits.{Commit, OpensAs, all_of, root_of, stored_of}
use Rattle.st_recover.specs.Replays.{Replayed}
use Rattle.st_recover.specs.inside.Replayings.{losses_of}
use Rattle.st_recover.specs.declared.opened.Opened.{Opened}
use Rattle.st_recover.specs.Openings.{Reopens}

-- The files as they read open as this commit, which the open store keeps. The commit opens as what the memory shows under
-- its registers in an empty world, with this count and these losses.
pub record IsReopenedAs {D M : Type 0} (host : Ghosts D) (install : Install) (view : M → View) (name : List ℕ) (old new : D) (o : Opened M) (c : Commit) : Type 0 where
  pub opens : OpensAs name c (host.files old)
  pub listed : o.changes.listed ≡ all_of c
  pub root : o.store.root ≡ root_of o.store.root.slot c
  pub kept : IsKept host new o.store (stored_of o.store.root.slot c)
  pub replayed : Replayed
  pub reopens : Reopens install c replayed
  pub shows : Shows (shown (view o.loaded.memory) o.loaded.frame (empty_world nil)) replayed.state
  pub count : o.replayed ≡ replayed.count
  pub lost : losses_of o.lost.items ≡ replayed.lost
