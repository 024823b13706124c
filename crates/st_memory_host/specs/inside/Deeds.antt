-- What was done to a host in memory, as a list with the newest deed first, and what its files and its output are then.
use Rattle.std.specs.Prelude.{◌≡◌, ◌≢◌, ◌⊎◌, ℕ, ◌≤◌, if◌then◌else◌, bytes_eq, List, [], ◌∷◌, ◌++◌, length, take, Option, Some, None}
use Rattle.st_host.specs.Files.{Files, bytes_of}
use Rattle.st_host.specs.Stops.{Comes, TornByWrite, TornByCut, Here, WhileSaying}
use Rattle.st_memory_host.specs.inside.Written.{written, resized}

-- A file of this name was put there with these bytes; bytes were written into it at a place; so many first ones of bytes were,
-- and the whole range counts as written; it was cut to a length; it was synced; or bytes were said.
pub data Deed : Type 0 where
  Put : List ℕ → List ℕ → Deed
  Wrote : List ℕ → ℕ → List ℕ → Deed
  Tore : List ℕ → ℕ → List ℕ → ℕ → Deed
  Cut : List ℕ → ℕ → Deed
  Synced : List ℕ → Deed
  Said : List ℕ → Deed

-- a file after a deed
abbrev pub after_deed : Deed → List ℕ → Option (List ℕ) → Option (List ℕ)
after_deed (Put name bytes) n file = if bytes_eq n name then Some bytes else file
after_deed (Wrote name at bytes) n file = if bytes_eq n name then Some (written at bytes (bytes_of file)) else file
after_deed (Tore name at bytes done) n file = if bytes_eq n name then Some (written at (take done bytes) (bytes_of file)) else file
after_deed (Cut name len) n file = if bytes_eq n name then Some (resized len (bytes_of file)) else file
after_deed (Synced name) n file = file
after_deed (Said bytes) n file = file

-- the files as they read
abbrev pub files_after : List Deed → Files
files_after [] n = None
files_after (deed ∷ earlier) n = after_deed deed n (files_after earlier n)

-- one fact of the file of this name, another of every other file
abbrev pub ForName : List ℕ → List ℕ → Type 0 → Type 0 → Type 0
ForName name n own other = ((n ≡ name) × own) ⊎ ((n ≢ name) × other)

-- What a stop may leave of a file. One that was put there counts as synced.
abbrev pub MayLeave : List Deed → List ℕ → Option (List ℕ) → Type 0
MayLeave [] n c = c ≡ None
MayLeave (Put name bytes ∷ earlier) n c = ForName name n (c ≡ Some bytes) (MayLeave earlier n c)
MayLeave (Wrote name at bytes ∷ earlier) n c =
    ForName name n (Comes (TornByWrite (files_after earlier n) at (length bytes)) (MayLeave earlier n) c) (MayLeave earlier n c)
MayLeave (Tore name at bytes done ∷ earlier) n c =
    ForName name n (Comes (TornByWrite (files_after earlier n) at (length bytes)) (MayLeave earlier n) c) (MayLeave earlier n c)
MayLeave (Cut name len ∷ earlier) n c =
    ForName name n (Comes (TornByCut (files_after earlier n) len) (MayLeave earlier n) c) (MayLeave earlier n c)
MayLeave (Synced name ∷ earlier) n c = ForName name n (c ≡ files_after earlier n) (MayLeave earlier n c)
MayLeave (Said bytes ∷ earlier) n c = MayLeave earlier n c

-- all bytes said
abbrev pub said_after : List Deed → List ℕ
said_after [] = []
said_after (Put name bytes ∷ earlier) = said_after earlier
said_after (Wrote name at bytes ∷ earlier) = said_after earlier
said_after (Tore name at bytes done ∷ earlier) = said_after earlier
said_after (Cut name len ∷ earlier) = said_after earlier
said_after (Synced name ∷ earlier) = said_after earlier
said_after (Said bytes ∷ earlier) = said_after earlier ++ bytes

-- What a stop while a deed is being done may leave that it may leave neither before nor after: some of the bytes to be
-- said were said.
abbrev pub MayLeaveDuring : Deed → List Deed → Files → List ℕ → Type 0
MayLeaveDuring (Put name bytes) earlier f s = ⊥
MayLeaveDuring (Wrote name at bytes) earlier f s = ⊥
MayLeaveDuring (Tore name at bytes done) earlier f s = ⊥
MayLeaveDuring (Cut name len) earlier f s = ⊥
MayLeaveDuring (Synced name) earlier f s = ⊥
MayLeaveDuring (Said bytes) earlier f s = WhileSaying (MayLeave earlier) (said_after earlier) bytes f s

-- What a stop since the moment t may have left. A moment is the number of deeds done by then.
abbrev pub LeftSince : ℕ → List Deed → Files → List ℕ → Type 0
LeftSince t [] f s = Here (MayLeave []) [] f s
LeftSince t (deed ∷ earlier) f s =
    Here (MayLeave (deed ∷ earlier)) (said_after (deed ∷ earlier)) f s
    ⊎ ((t ≤ length earlier) × (LeftSince t earlier f s ⊎ MayLeaveDuring deed earlier f s))
