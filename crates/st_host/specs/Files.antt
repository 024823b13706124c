-- Files by name, and what the calls on one of them do.
use Rattle.std.specs.Prelude.{◌≡◌, ◌⊎◌, ℕ, ◌+◌, ◌-◌, ◌<◌, ◌≤◌, min, max, List, [], length, take, drop, slice_index, Option, Some, None, IsSome}

-- What the files read as: the bytes of each name that has a file.
abbrev pub Files : Type 0
Files = List ℕ → Option (List ℕ)

-- an absent file reads as empty
abbrev pub bytes_of : Option (List ℕ) → List ℕ
bytes_of None = []
bytes_of (Some bytes) = bytes

-- the length of a file, none where it is absent
abbrev pub length_of : Option (List ℕ) → Option ℕ
length_of None = None
length_of (Some bytes) = Some (length bytes)

-- One read gave the first k bytes from this place on, and none only for an empty slice or at the end.
pub record Reads (file : List ℕ) (at k : ℕ) (into : List ℕ) : Type 0 where
  pub within : k ≤ length file - at
  pub bytes : take k into ≡ take k (drop at file)
  pub end : k ≡ 0 → (length into ≡ 0) ⊎ (length file ≤ at)

-- A whole read gave the k bytes from this place on, up to the end of the slice or of the file.
pub record IsRead (file : List ℕ) (at k : ℕ) (into : List ℕ) : Type 0 where
  pub count : k ≡ min (length into) (length file - at)
  pub bytes : take k into ≡ take k (drop at file)

-- The file is there. It has these bytes at this place, and else what it had, with zero bytes put between. (An index
-- past the end of a list gives 0.)
pub record IsWritten (at : ℕ) (bytes : List ℕ) (old new : Option (List ℕ)) : Type 0 where
  pub there : IsSome new
  pub long : length (bytes_of new) ≡ max (length (bytes_of old)) (at + length bytes)
  pub inside : (i : ℕ) → i < length bytes → slice_index (bytes_of new) (at + i) ≡ slice_index bytes i
  pub outside : (i : ℕ) → (i < at) ⊎ (at + length bytes ≤ i) → slice_index (bytes_of new) i ≡ slice_index (bytes_of old) i

-- The file is there. It has this length, and else what it had, with zero bytes added.
pub record IsCut (len : ℕ) (old new : Option (List ℕ)) : Type 0 where
  pub there : IsSome new
  pub long : length (bytes_of new) ≡ len
  pub same : (i : ℕ) → i < len → slice_index (bytes_of new) i ≡ slice_index (bytes_of old) i

-- a file keeps its first bytes, where it has as many
pub record KeepsBelow (floor : ℕ) (old new : Option (List ℕ)) : Type 0 where
  pub long : floor ≤ length (bytes_of old) → floor ≤ length (bytes_of new)
  pub same : (i : ℕ) → i < floor → floor ≤ length (bytes_of old) → slice_index (bytes_of new) i ≡ slice_index (bytes_of old) i
