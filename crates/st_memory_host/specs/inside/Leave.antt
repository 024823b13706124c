-- Three of the states that a stop may leave: each file as at its last sync, as it reads, and as it reads with each byte
-- written since the sync as 0xFF. And a host that has one of them.
use Rattle.std.specs.Prelude.{◌≡◌, ◌↔◌, ℕ, if◌then◌else◌, bytes_eq, List, [], ◌∷◌, length, take, replicate, Option, Some, None}
use Rattle.st_host.specs.Files.{Files, bytes_of}
use Rattle.st_memory_host.specs.inside.Written.{written, resized}
use Rattle.st_memory_host.specs.inside.Deeds.{Deed, Put, Wrote, Tore, Cut, Synced, Said, files_after, MayLeave, said_after}
use Rattle.st_memory_host.specs.inside.HostState.{HostState, fresh}
use Rattle.st_memory_host.specs.declared.replay.Leave.{Leave}
use Rattle.st_memory_host.specs.declared.replay.Leave.TheVariants.{Old, New, Ones}

-- The files as they were at their last syncs. One that was put there counts as synced.
abbrev pub old_after : List Deed → Files
old_after [] n = None
old_after (Put name bytes ∷ earlier) n = if bytes_eq n name then Some bytes else old_after earlier n
old_after (Wrote name at bytes ∷ earlier) n = old_after earlier n
old_after (Tore name at bytes done ∷ earlier) n = old_after earlier n
old_after (Cut name len ∷ earlier) n = old_after earlier n
old_after (Synced name ∷ earlier) n = if bytes_eq n name then files_after earlier n else old_after earlier n
old_after (Said bytes ∷ earlier) n = old_after earlier n

-- so many bytes 0xFF
abbrev pub ones : ℕ → List ℕ
ones n = replicate n 255

-- the files as they read, with each byte written since the last sync of its file as 0xFF
abbrev pub ones_after : List Deed → Files
ones_after [] n = None
ones_after (Put name bytes ∷ earlier) n = if bytes_eq n name then Some bytes else ones_after earlier n
ones_after (Wrote name at bytes ∷ earlier) n =
    let file = ones_after earlier n in
    if bytes_eq n name then Some (written at (ones (length bytes)) (bytes_of file)) else file
ones_after (Tore name at bytes done ∷ earlier) n =
    let file = ones_after earlier n in
    if bytes_eq n name then Some (written at (ones (length (take done bytes))) (bytes_of file)) else file
ones_after (Cut name len ∷ earlier) n =
    let file = ones_after earlier n in
    if bytes_eq n name then Some (resized len (bytes_of file)) else file
ones_after (Synced name ∷ earlier) n = if bytes_eq n name then files_after earlier n else ones_after earlier n
ones_after (Said bytes ∷ earlier) n = ones_after earlier n

-- the files that a stop leaves in one of the three ways
abbrev pub left_after : Leave → List Deed → Files
left_after Old = old_after
left_after New = files_after
left_after Ones = ones_after

-- A host after a stop of the old one: it has the files that the stop left, which are one of the states that a stop may
-- leave. They are on the disk, so that a second stop leaves them too. All else is as in a fresh host.
pub record IsStopped (how : Leave) (old new : HostState) : Type 0 where
  pub files : (n : List ℕ) → files_after new.deeds n ≡ left_after how old.deeds n
  pub could : (n : List ℕ) → MayLeave old.deeds n (files_after new.deeds n)
  pub synced : (n : List ℕ) (c : Option (List ℕ)) → MayLeave new.deeds n c ↔ (c ≡ files_after new.deeds n)
  pub unsaid : said_after new.deeds ≡ []
  pub else_fresh : new ≡ record fresh { deeds = new.deeds }

-- the deeds that put a file there, where it isn't absent
abbrev pub copied : List ℕ → Option (List ℕ) → List Deed → List Deed
copied name None deeds = deeds
copied name (Some bytes) deeds = Put name bytes ∷ deeds

-- The deeds that are done to leave a write in one of the three ways. The file is synced behind it.
abbrev pub write_left : Leave → List ℕ → ℕ → List ℕ → List Deed → List Deed
write_left Old name at bytes deeds = deeds
write_left New name at bytes deeds = Synced name ∷ Wrote name at bytes ∷ deeds
write_left Ones name at bytes deeds = Synced name ∷ Wrote name at (ones (length bytes)) ∷ deeds

-- the same of a cut
abbrev pub cut_left : Leave → List ℕ → ℕ → List Deed → List Deed
cut_left Old name len deeds = deeds
cut_left New name len deeds = Synced name ∷ Cut name len ∷ deeds
cut_left Ones name len deeds = Synced name ∷ Cut name len ∷ deeds

-- all deeds that are done to leave the files of a host in one of the three ways
abbrev pub deeds_left : Leave → List Deed → List Deed
deeds_left how [] = []
deeds_left how (Put name bytes ∷ earlier) = Put name bytes ∷ deeds_left how earlier
deeds_left how (Wrote name at bytes ∷ earlier) = write_left how name at bytes (deeds_left how earlier)
deeds_left how (Tore name at bytes done ∷ earlier) = write_left how name at (take done bytes) (deeds_left how earlier)
deeds_left how (Cut name len ∷ earlier) = cut_left how name len (deeds_left how earlier)
deeds_left how (Synced name ∷ earlier) = copied name (files_after earlier name) (deeds_left how earlier)
deeds_left how (Said bytes ∷ earlier) = deeds_left how earlier

-- a fresh host to which these deeds were done
abbrev pub host_of : List Deed → HostState
host_of deeds = record fresh { deeds = deeds }

-- a host to which a deed was done besides the room
abbrev pub with_done : Deed → HostState → HostState
with_done deed host = record host { deeds = deed ∷ host.deeds }

-- a host to which a file was copied
abbrev pub with_copy : List ℕ → Option (List ℕ) → HostState → HostState
with_copy name file host = record host { deeds = copied name file host.deeds }
