-- What holds at each moment of a run of calls.
use Rattle.std.specs.Prelude.{◌≡◌, ◌≢◌, ◌⊎◌, ℕ, ◌≤◌, List, ◌++◌, Option, Result, OnOk, IsTrue}
use Rattle.st_host.specs.Counts.{Rose}
use Rattle.st_host.specs.Files.{Files, KeepsBelow}
use Rattle.st_host.specs.Stops.{SameStops, Apart, Comes, Follows, TornByWrite, TornByCut, Here, SaidPart, WhileSaying}
use Rattle.st_host.specs.declared.host.Host.{Ghosts}

-- A stop at any moment of the run leaves files, with the bytes said by then, that have P.
pub record LeavesOnly {D : Type 0} (host : Ghosts D) (old new : D) (P : Files → List ℕ → Type 0) : Type 0 where
  pub later : host.moment old ≤ host.moment new
  pub each : (f : Files) (s : List ℕ) → host.left_since new (host.moment old) f s → P f s
  -- for a run that began earlier, of which this is the end
  pub before : (t : ℕ) (f : Files) (s : List ℕ) → t ≤ host.moment old → host.left_since new t f s → host.left_since old t f s ⊎ P f s

-- every file reads as before
pub record ReadsAlike {D : Type 0} (host : Ghosts D) (old new : D) : Type 0 where
  pub same : IsTrue host.is_told → (n : List ℕ) → host.files new n ≡ host.files old n

-- A run of calls that only reads. Where no disk fault was counted in it, every file reads as before.
pub record OnlyReads {D : Type 0} (host : Ghosts D) (old new : D) : Type 0 where
  pub disk : host.disk_faults old ≤ host.disk_faults new
  pub say : host.say_faults new ≡ host.say_faults old
  pub alike : (Rose (host.disk_faults old) (host.disk_faults new) → ⊥) → ReadsAlike host old new
  pub quiet : IsTrue host.is_told → host.said new ≡ host.said old
  pub stops : IsTrue host.is_told → SameStops (host.may_leave old) (host.may_leave new)
  pub moments : IsTrue host.is_told → LeavesOnly host old new (Here (host.may_leave old) (host.said old))

-- all of these bytes were said
pub record SaysAll {D : Type 0} (host : Ghosts D) (bytes : List ℕ) (old new : D) : Type 0 where
  pub is : IsTrue host.is_told → host.said new ≡ host.said old ++ bytes

-- A run of calls that reads and says: it changes no file, and says of these bytes no more than some first ones.
-- Where no disk fault was counted in it, every file reads as before.
pub record ReadsAndSays {D : Type 0} (host : Ghosts D) (bytes : List ℕ) (old new : D) : Type 0 where
  pub disk : host.disk_faults old ≤ host.disk_faults new
  pub say : host.say_faults old ≤ host.say_faults new
  pub alike : (Rose (host.disk_faults old) (host.disk_faults new) → ⊥) → ReadsAlike host old new
  pub part : IsTrue host.is_told → SaidPart (host.said old) bytes (host.said new)
  pub stops : IsTrue host.is_told → SameStops (host.may_leave old) (host.may_leave new)
  pub moments : IsTrue host.is_told → LeavesOnly host old new (WhileSaying (host.may_leave old) (host.said old) bytes)

-- A run of calls that only reads and syncs: a stop leaves at each of its moments what it could leave at first. Where no
-- disk fault was counted in it, every file reads as before.
pub record Narrows {D : Type 0} (host : Ghosts D) (old new : D) : Type 0 where
  pub disk : host.disk_faults old ≤ host.disk_faults new
  pub say : host.say_faults new ≡ host.say_faults old
  pub alike : (Rose (host.disk_faults old) (host.disk_faults new) → ⊥) → ReadsAlike host old new
  pub quiet : IsTrue host.is_told → host.said new ≡ host.said old
  pub fewer : IsTrue host.is_told → (n : List ℕ) (c : Option (List ℕ)) → host.may_leave new n c → host.may_leave old n c
  pub moments : IsTrue host.is_told → LeavesOnly host old new (Here (host.may_leave old) (host.said old))

-- A stop leaves no other file than some that it could leave before, but that of this name, which has gone on by a step,
-- and nothing was said.
pub record Touched {D : Type 0} (host : Ghosts D) (step : Option (List ℕ) → Option (List ℕ) → Type 0) (name : List ℕ) (old : D) (f : Files) (s : List ℕ) : Type 0 where
  pub others : (n : List ℕ) → n ≢ name → host.may_leave old n (f n)
  pub own : Comes step (host.may_leave old name) (f name)
  pub quiet : s ≡ host.said old

-- A run of calls that changes one file: at each of its moments this file has gone on by a step, and all else is as
-- before.
pub record Touches {D : Type 0} (host : Ghosts D) (step : Option (List ℕ) → Option (List ℕ) → Type 0) (name : List ℕ) (old new : D) : Type 0 where
  pub disk : host.disk_faults old ≤ host.disk_faults new
  pub say : host.say_faults new ≡ host.say_faults old
  pub others : IsTrue host.is_told → Apart name (host.files old) (host.files new) (host.may_leave old) (host.may_leave new)
  pub quiet : IsTrue host.is_told → host.said new ≡ host.said old
  pub own : IsTrue host.is_told → Follows step (host.may_leave old name) (host.may_leave new name)
  pub moments : IsTrue host.is_told → LeavesOnly host old new (Touched host step name old)

-- The run wrote n bytes at a place of the file, of which a stop may leave any.
pub record Writes {D : Type 0} (host : Ghosts D) (name : List ℕ) (at n : ℕ) (old new : D) : Type 0 where
  pub run : Touches host (TornByWrite (host.files old name) at n) name old new

-- The run gave the file a length, and a stop may leave one between.
pub record Cuts {D : Type 0} (host : Ghosts D) (name : List ℕ) (len : ℕ) (old new : D) : Type 0 where
  pub run : Touches host (TornByCut (host.files old name) len) name old new

-- The run synced the file: a stop leaves of it no more than it could leave.
pub record Syncs {D : Type 0} (host : Ghosts D) (name : List ℕ) (old new : D) : Type 0 where
  pub run : Touches host (λ was is. was ≡ is) name old new

-- The run changed the file, and left so many first bytes as they were.
pub record WritesAbove {D : Type 0} (host : Ghosts D) (floor : ℕ) (name : List ℕ) (old new : D) : Type 0 where
  pub run : Touches host (KeepsBelow floor) name old new

-- a stop leaves of this file just what it reads as
pub record IsSynced {D : Type 0} (host : Ghosts D) (name : List ℕ) (new : D) : Type 0 where
  pub is : IsTrue host.is_told → (c : Option (List ℕ)) → host.may_leave new name c → c ≡ host.files new name

-- nothing was said, and a stop leaves no other file than some that it could leave before, but perhaps the one of this name
abbrev pub Elsewhere : {D : Type 0} → Ghosts D → List ℕ → D → Files → List ℕ → Type 0
Elsewhere host name old f s = (s ≡ host.said old) × ((n : List ℕ) → n ≢ name → host.may_leave old n (f n))

-- A run of calls that changes no file but this one: every other is as before, and so is what a stop may leave of it.
pub record ChangesOneFile {D : Type 0} (host : Ghosts D) (name : List ℕ) (old new : D) : Type 0 where
  pub disk : host.disk_faults old ≤ host.disk_faults new
  pub say : host.say_faults new ≡ host.say_faults old
  pub others : IsTrue host.is_told → Apart name (host.files old) (host.files new) (host.may_leave old) (host.may_leave new)
  pub quiet : IsTrue host.is_told → host.said new ≡ host.said old
  pub moments : IsTrue host.is_told → LeavesOnly host old new (Elsewhere host name old)

-- A run of calls that changes no file but this one, and reads and syncs any: every other reads as before where no disk
-- fault was counted, and a stop leaves of it what it could leave.
pub record NarrowsBut {D : Type 0} (host : Ghosts D) (name : List ℕ) (old new : D) : Type 0 where
  pub disk : host.disk_faults old ≤ host.disk_faults new
  pub say : host.say_faults new ≡ host.say_faults old
  pub alike : (Rose (host.disk_faults old) (host.disk_faults new) → ⊥) → IsTrue host.is_told → (n : List ℕ) → n ≢ name → host.files new n ≡ host.files old n
  pub quiet : IsTrue host.is_told → host.said new ≡ host.said old
  pub fewer : IsTrue host.is_told → (n : List ℕ) (c : Option (List ℕ)) → n ≢ name → host.may_leave new n c → host.may_leave old n c
  pub moments : IsTrue host.is_told → LeavesOnly host old new (Elsewhere host name old)

-- A run of calls that changes no file but these two.
pub record ChangesBoth {D : Type 0} (host : Ghosts D) (one two : List ℕ) (old new : D) : Type 0 where
  pub disk : host.disk_faults old ≤ host.disk_faults new
  pub say : host.say_faults new ≡ host.say_faults old
  pub files : IsTrue host.is_told → (n : List ℕ) → n ≢ one → n ≢ two → host.files new n ≡ host.files old n
  pub fewer : IsTrue host.is_told → (n : List ℕ) (c : Option (List ℕ)) → n ≢ one → n ≢ two → host.may_leave new n c → host.may_leave old n c
  pub more : IsTrue host.is_told → (n : List ℕ) (c : Option (List ℕ)) → n ≢ one → n ≢ two → host.may_leave old n c → host.may_leave new n c
  pub quiet : IsTrue host.is_told → host.said new ≡ host.said old
  pub moments : IsTrue host.is_told → LeavesOnly host old new
      (λ f s. (s ≡ host.said old) × ((n : List ℕ) → n ≢ one → n ≢ two → host.may_leave old n (f n)))

-- A run of calls that leaves the files of these names alone: each reads as before, and a stop may leave of it just what it
-- could leave.
pub record Spares {D : Type 0} (host : Ghosts D) (names : List ℕ → Type 0) (old new : D) : Type 0 where
  pub files : IsTrue host.is_told → (n : List ℕ) → names n → host.files new n ≡ host.files old n
  pub fewer : IsTrue host.is_told → (n : List ℕ) (c : Option (List ℕ)) → names n → host.may_leave new n c → host.may_leave old n c
  pub more : IsTrue host.is_told → (n : List ℕ) (c : Option (List ℕ)) → names n → host.may_leave old n c → host.may_leave new n c

-- each state that a stop may leave now opens as this, whatever it is that files open as
pub record IsAtRest {C D : Type 0} (host : Ghosts D) (opens : C → Files → Type 0) (c : C) (h : D) : Type 0 where
  pub opens_as : (f : Files) → ((n : List ℕ) → host.may_leave h n (f n)) → opens c f

-- A run of calls that makes of files that open as c such that open as d, whole or not: at each of its moments, and behind
-- it also after an error, they open as the one or as the other. Nothing is said.
pub record Makes {C D R E : Type 0} (host : Ghosts D) (opens : C → Files → Type 0) (c d : C) (old new : D) (result : Result R E) : Type 0 where
  pub rest : OnOk result (IsAtRest host opens d new)
  pub either : (f : Files) → ((n : List ℕ) → host.may_leave new n (f n)) → opens c f ⊎ opens d f
  pub quiet : host.said new ≡ host.said old
  pub moments : LeavesOnly host old new (λ f s. (s ≡ host.said old) × (opens c f ⊎ opens d f))
