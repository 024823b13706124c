-- A commit whose changes were condensed: what it opens as is the same.
use Rattle.std.specs.Prelude.{◌≡◌, ℕ, List, map}
use Rattle.st_host.specs.Files.{Files}
use Rattle.st_protocol.specs.declared.refusal.Refusal.{Refusal}
use Rattle.st_changes.specs.Condensing.{Stays}
use Rattle.st_recover.specs.Commits.{Commit, OpensAs}
use Rattle.st_recover.specs.Replays.{Loss, Replayed}

-- Of the definitions before the base those are dropped that a later one supersedes; those that are installed again stay, and so
-- does the image.
pub record IsCondensed (c d : Commit) : Type 0 where
  pub image : d.image ≡ c.image
  pub stays : Stays c.definitions c.before d.before
  pub definitions : d.definitions ≡ c.definitions

-- the files open as the commit condensed
pub record OpensCondensed (name : List ℕ) (c : Commit) (f : Files) : Type 0 where
  pub commit : Commit
  pub condenses : IsCondensed c commit
  pub opens_as : OpensAs name commit f

-- why definitions were lost
abbrev pub reasons : List Loss → List Refusal
reasons losses = map (λ l. l.why) losses

-- The same state, with as many definitions installed, and as many lost for the same reasons: only the numbers differ by which the
-- lost ones stand in the changes file.
pub record ReplaysAlike (r q : Replayed) : Type 0 where
  pub state : q.state ≡ r.state
  pub count : q.count ≡ r.count
  pub lost : reasons q.lost ≡ reasons r.lost
