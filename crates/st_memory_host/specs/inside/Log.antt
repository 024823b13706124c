-- How a host in memory keeps its deeds: a log of entries, and the bytes that they take one after the other.
use Rattle.std.specs.Prelude.{◌≡◌, ◌⊎◌, ℕ, ◌+◌, ◌-◌, ◌<◌, ◌≤◌, length, reverse, Vec, vec_capacity, List, [], ◌∷◌, ◌++◌, take, drop, slice_index, if◌then◌else◌, bytes_eq, Option, Some}
use Rattle.std.specs.declared.alloc.Global.{Global}
use Rattle.st_memory_host.specs.inside.Deeds.{Deed, Put, Wrote, Tore, Cut, Synced, Said, said_after}
use Rattle.st_host.specs.Files.{bytes_of}
use Rattle.st_memory_host.specs.inside.Written.{written, resized}
use Rattle.st_memory_host.specs.declared.log.Entry.{Entry}
use Rattle.st_memory_host.specs.declared.log.Kind.{Kind}
use Rattle.st_memory_host.specs.declared.log.Kind.TheVariants.{Put as PutKind, Wrote as WroteKind, Tore as ToreKind, Cut as CutKind, Synced as SyncedKind, Said as SaidKind}

-- an entry for this name and these bytes
abbrev pub entry_of : Kind → List ℕ → List ℕ → Entry
entry_of kind name bytes = record { kind = kind; name = length name; bytes = length bytes }

-- the deed of a kind with this name and these bytes
abbrev pub deed_of : Kind → List ℕ → List ℕ → Deed
deed_of PutKind name bytes = Put name bytes
deed_of (WroteKind end) name bytes = Wrote name (end - length bytes) bytes
deed_of (ToreKind end done) name bytes = Tore name (end - length bytes) bytes done
deed_of (CutKind len) name bytes = Cut name len
deed_of SyncedKind name bytes = Synced name
deed_of SaidKind name bytes = Said bytes

-- the name and the bytes of an entry, which stand first in the arena, and what stands behind them
abbrev pub name_of : Entry → List ℕ → List ℕ
name_of entry arena = take entry.name arena

abbrev pub content_of : Entry → List ℕ → List ℕ
content_of entry arena = take entry.bytes (drop entry.name arena)

abbrev pub rest_of : Entry → List ℕ → List ℕ
rest_of entry arena = drop entry.bytes (drop entry.name arena)

-- the deeds of a log, the oldest first
abbrev pub deeds_of : List Entry → List ℕ → List Deed
deeds_of [] arena = []
deeds_of (entry ∷ later) arena = deed_of entry.kind (name_of entry arena) (content_of entry arena) ∷ deeds_of later (rest_of entry arena)

-- how many bytes of the arena a log takes
abbrev pub arena_size : List Entry → ℕ
arena_size [] = 0
arena_size (entry ∷ later) = entry.name + entry.bytes + arena_size later

-- What is kept of a host hangs together: the bytes are those of the log, what was said stands in one piece besides, and
-- the room that is left is there.
pub record IsWhole (log : Vec Entry Global) (arena said : Vec ℕ Global) (bytes_left calls_left : ℕ) : Type 0 where
  pub arena_is : arena_size log.items ≡ length arena.items
  pub said_is : said_after (reverse (deeds_of log.items arena.items)) ≡ said.items
  pub arena_fits : length arena.items + bytes_left ≤ vec_capacity arena
  pub said_fits : length said.items + bytes_left ≤ vec_capacity said
  pub calls_fit : length log.items + calls_left ≤ vec_capacity log

-- what a deed of a kind with these bytes makes of its file
abbrev pub changed : Kind → List ℕ → Option (List ℕ) → Option (List ℕ)
changed PutKind bytes file = Some bytes
changed (WroteKind end) bytes file = Some (written (end - length bytes) bytes (bytes_of file))
changed (ToreKind end done) bytes file = Some (written (end - length bytes) (take done bytes) (bytes_of file))
changed (CutKind len) bytes file = Some (resized len (bytes_of file))
changed SyncedKind bytes file = file
changed SaidKind bytes file = file

-- a file of this name after the deeds of a log, which was `file` before
abbrev pub file_of : Option (List ℕ) → List Entry → List ℕ → List ℕ → Option (List ℕ)
file_of file [] arena n = file
file_of file (entry ∷ later) arena n =
    file_of (if bytes_eq n (name_of entry arena) then changed entry.kind (content_of entry arena) file else file) later (rest_of entry arena) n

-- what was said after a deed of a kind with these bytes
abbrev pub said_with : Kind → List ℕ → List ℕ → List ℕ
said_with PutKind bytes said = said
said_with (WroteKind end) bytes said = said
said_with (ToreKind end done) bytes said = said
said_with (CutKind len) bytes said = said
said_with SyncedKind bytes said = said
said_with SaidKind bytes said = said ++ bytes

-- a slice that holds the bytes of a file from a place on, with zero bytes past its end
abbrev pub IsWindow : List ℕ → ℕ → List ℕ → Type 0
IsWindow file at into = (i : ℕ) → i < length into → slice_index into i ≡ slice_index file (at + i)

-- The bytes that stand at a place lie over the part of a slice that they meet, where the slice begins at `at`.
pub record Overlays (at : ℕ) (bytes : List ℕ) (place : ℕ) (old new : List ℕ) : Type 0 where
  pub inside : (i : ℕ) → i < length new → place ≤ at + i → at + i < place + length bytes → slice_index new i ≡ slice_index bytes (at + i - place)
  pub outside : (i : ℕ) → i < length new → (at + i < place) ⊎ (place + length bytes ≤ at + i) → slice_index new i ≡ slice_index old i

-- A slice that begins at `at` has zero bytes from the place `len` on.
pub record Clears (at len : ℕ) (old new : List ℕ) : Type 0 where
  pub front : (i : ℕ) → i < length new → at + i < len → slice_index new i ≡ slice_index old i
  pub back : (i : ℕ) → i < length new → len ≤ at + i → slice_index new i ≡ 0
