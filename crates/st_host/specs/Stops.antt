-- What a stop may leave of the files, and how that goes on with time.
use Rattle.std.specs.Prelude.{◌≡◌, ◌≢◌, ◌⊎◌, ℕ, ◌+◌, ◌<◌, ◌≤◌, min, max, List, ◌++◌, length, slice_index, Option, None}
use Rattle.std.specs.Io.{StartsWith}
use Rattle.st_host.specs.Files.{Files, bytes_of}

-- Of each file a stop may leave just what it could leave before.
pub record SameStops (could can : List ℕ → Option (List ℕ) → Type 0) : Type 0 where
  pub fewer : (n : List ℕ) (c : Option (List ℕ)) → can n c → could n c
  pub more : (n : List ℕ) (c : Option (List ℕ)) → could n c → can n c

-- a stop here may leave these files, with these bytes said
abbrev pub Here : (List ℕ → Option (List ℕ) → Type 0) → List ℕ → Files → List ℕ → Type 0
Here can said f s = ((n : List ℕ) → can n (f n)) × (s ≡ said)

-- Of these bytes some first ones, or none or all, were said: all that was said by now begins `before ++ bytes`.
pub record SaidPart (before bytes now : List ℕ) : Type 0 where
  pub least : length before ≤ length now
  pub begins : StartsWith (before ++ bytes) now

-- a stop while these bytes are being said may leave these files, with these bytes said
abbrev pub WhileSaying : (List ℕ → Option (List ℕ) → Type 0) → List ℕ → List ℕ → Files → List ℕ → Type 0
WhileSaying can said bytes f s = ((n : List ℕ) → can n (f n)) × SaidPart said bytes s

-- Time goes on by one call: a stop since a moment t may have left what it may have left before the call, or
-- what it may leave at a moment of the call.
pub record Elapses (before now : ℕ) (past since : ℕ → Files → List ℕ → Type 0) (during : Files → List ℕ → Type 0) : Type 0 where
  pub later : before ≤ now
  pub nothing_else : (t : ℕ) (f : Files) (s : List ℕ) → t ≤ before → since t f s → past t f s ⊎ during f s
  pub keeps : (t : ℕ) (f : Files) (s : List ℕ) → t ≤ before → past t f s → since t f s

-- Every file but one, and what a stop may leave of it, is as before.
pub record Apart (name : List ℕ) (old new : Files) (could can : List ℕ → Option (List ℕ) → Type 0) : Type 0 where
  pub files : (n : List ℕ) → n ≢ name → new n ≡ old n
  pub fewer : (n : List ℕ) (c : Option (List ℕ)) → n ≢ name → can n c → could n c
  pub more : (n : List ℕ) (c : Option (List ℕ)) → n ≢ name → could n c → can n c

-- a state that comes by a step from one that could be
pub data Comes (step : Option (List ℕ) → Option (List ℕ) → Type 0) (could : Option (List ℕ) → Type 0) (new : Option (List ℕ)) : Type 0 where
  comes : (old : Option (List ℕ)) → could old → step old new → Comes step could new

-- each state that can be comes by a step from one that could be
abbrev pub Follows : (Option (List ℕ) → Option (List ℕ) → Type 0) → (Option (List ℕ) → Type 0) → (Option (List ℕ) → Type 0) → Type 0
Follows step could can = (c : Option (List ℕ)) → can c → Comes step could c

-- What one change may make of a file until it is synced, where `end` was its length as read, and `len` is the length
-- that the change gives it. The n bytes at `at` may be any, and so may those past the end. The others stay. The length
-- lies between what it could be and `len`, and a file that could be absent may be absent.
pub record Torn (end at n len : ℕ) (old new : Option (List ℕ)) : Type 0 where
  pub absent : new ≡ None → old ≡ None
  pub shortest : min (length (bytes_of old)) len ≤ length (bytes_of new)
  pub longest : length (bytes_of new) ≤ max (length (bytes_of old)) len
  pub same : (i : ℕ) → i < length (bytes_of new) → i < length (bytes_of old) → i < end → (i < at) ⊎ (at + n ≤ i)
      → slice_index (bytes_of new) i ≡ slice_index (bytes_of old) i

-- what a write of n bytes at a place may make of a file that reads as `file`
abbrev pub TornByWrite : Option (List ℕ) → ℕ → ℕ → Option (List ℕ) → Option (List ℕ) → Type 0
TornByWrite file at n = let end = length (bytes_of file) in Torn end at n (max end (at + n))

-- what a cut to this length may make of a file that reads as `file`
abbrev pub TornByCut : Option (List ℕ) → ℕ → Option (List ℕ) → Option (List ℕ) → Type 0
TornByCut file len = Torn (length (bytes_of file)) 0 0 len
