-- What is read of a store before any of its definitions is installed.
use Rattle.std.specs.Prelude.{ℕ, List}
use Rattle.st_host.specs.declared.host.Host.{Ghosts}
use Rattle.st_model.specs.View.{View}
use Rattle.st_model.specs.Image.{image_head}
use Rattle.st_image.specs.inside.Reading.{IsStart}
use Rattle.st_store.specs.Stored.{Stored, Opens, IsKept, stored_in}
use Rattle.st_changes.specs.Lists.{Lists}
use Rattle.st_recover.specs.Openings.{IsReadable}
use Rattle.st_recover.specs.declared.opened.Fetched.{Fetched}

-- The files as they read open as this, which the open store keeps. Its image's machine begins in this memory, and these are the
-- definitions of its changes.
pub record IsFetched {D M : Type 0} (host : Ghosts D) (view : M → View) (name : List ℕ) (old new : D) (p : Fetched M) (c : Stored) : Type 0 where
  pub opens : Opens name c (host.files old)
  pub kept : IsKept host new p.store c
  pub readable : IsReadable c.image
  pub start : IsStart (image_head c.image) c.image (view p.loaded.memory) p.loaded.frame
  pub lists : Lists c.changes p.store.root.base p.changes.listed

-- what it is, is what the files hold for the store's root
abbrev pub IsFetchedAs : {D M : Type 0} → Ghosts D → (M → View) → List ℕ → D → D → Fetched M → Type 0
IsFetchedAs host view name old new p = IsFetched host view name old new p (stored_in name (host.files old) p.store.root)
