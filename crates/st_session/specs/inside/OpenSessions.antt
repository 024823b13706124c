-- An opened store that holds a commit and shows a state.
use Rattle.std.specs.Prelude.{Some}
use Rattle.st_host.specs.declared.host.Host.{Ghosts}
use Rattle.st_model.specs.Objects.{nil}
use Rattle.st_model.specs.Machine.{State, empty_world}
use Rattle.st_model.specs.Births.{Births}
use Rattle.st_model.specs.Show.{Shows}
use Rattle.st_model.specs.View.{View}
use Rattle.st_frames.specs.inside.Shown.{shown}
use Rattle.st_recover.specs.inside.Archives.{Holds}
use Rattle.st_recover.specs.Commits.{Commit}
use Rattle.st_recover.specs.declared.opened.Opened.{Opened}

-- What was opened holds this commit, and its memory shows this state, in an empty world.
pub record IsOpen {M D : Type 0} (view : M → View) (host : Ghosts D) (h : D) (o : Opened M) (c : Commit) (s : State Births) : Type 0 where
  pub holds : Holds host h (record { name = o.store.name; store = Some o.store; listed = o.changes.listed }) c
  pub shows : Shows (shown (view o.loaded.memory) o.loaded.frame (empty_world nil)) s
