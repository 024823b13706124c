-- A host in memory as contracts see it, and when its calls fail.
use Rattle.std.specs.Prelude.{◌≡◌, ◌⊎◌, ◌↔◌, ℕ, ◌-◌, ◌^◌, ◌<◌, ◌≤◌, ◌==◌, ◌&&◌, ◌||◌, nat_lt, Bool, is_some, IsSome, Option, Some, None, if◌then◌else◌, List, [], ◌∷◌, length, take, Contains, Result, IsErr, OnOk, OnErr}
use Rattle.st_host.specs.Counts.{one_more}
use Rattle.st_memory_host.specs.inside.Deeds.{Deed, Put, Said}

pub record HostState : Type 0 where
  -- what was done, the newest first
  pub deeds : List Deed
  -- how many calls of a host's methods were made
  pub calls : ℕ
  -- the numbers of the calls that fail
  pub failing : List ℕ
  -- the number of the last call before a stop, and after how many of its bytes that comes; none: as it ends
  pub last_call : ℕ
  pub within : Option ℕ
  -- the room that is left: for so many bytes, in so many calls
  pub bytes_left : ℕ
  pub calls_left : ℕ
  pub disk_faults : ℕ
  pub say_faults : ℕ

-- a new host: no files, nothing said, no call made
abbrev pub fresh : HostState
fresh = record { deeds = []; calls = 0; failing = []; last_call = 2 ^ 64 - 1; within = None; bytes_left = 0; calls_left = 0; disk_faults = 0; say_faults = 0 }

-- after a call that fails or only reads, but for the faults
abbrev pub counted : HostState → HostState
counted host = record host { calls = one_more host.calls }

-- The next call fails by its number: it is one of those that fail, or comes after a stop. Calls are counted from 1.
abbrev pub IsNextFailing : HostState → Type 0
IsNextFailing host = Contains host.failing (one_more host.calls) ⊎ (host.last_call < one_more host.calls)

-- A stop comes within the next call, after so many bytes of it.
abbrev pub IsNextTorn : HostState → ℕ → Type 0
IsNextTorn host b = (one_more host.calls ≡ host.last_call) × (host.within ≡ Some b)

-- a stop within a call, or as it ends, which comes before another one
abbrev pub comes_first : ℕ → Option ℕ → ℕ → Option ℕ → Bool
comes_first call within last None = nat_lt call last || ((call == last) && is_some within)
comes_first call None last (Some b) = nat_lt call last
comes_first call (Some a) last (Some b) = nat_lt call last || ((call == last) && nat_lt a b)

-- with one stop more
abbrev pub stopped : ℕ → Option ℕ → HostState → HostState
stopped call within host = if comes_first call within host.last_call host.within then record host { last_call = call; within = within } else host

-- A call that takes so many bytes passes the room that is left.
abbrev pub PassesRoom : HostState → ℕ → Type 0
PassesRoom host bytes = (host.calls_left ≡ 0) ⊎ (host.bytes_left < bytes)

-- after a call on a file that failed
abbrev pub disk_failed : HostState → HostState
disk_failed host = record (counted host) { disk_faults = one_more host.disk_faults }

-- after a `say` that failed
abbrev pub say_failed : HostState → HostState
say_failed host = record (counted host) { say_faults = one_more host.say_faults }

-- with a file of this name put there, besides the room
abbrev pub with_file : List ℕ → List ℕ → HostState → HostState
with_file name bytes host = record host { deeds = Put name bytes ∷ host.deeds }

-- after a deed that takes so many bytes of the room
abbrev pub with_deed : Deed → ℕ → HostState → HostState
with_deed deed bytes host = record host {
  deeds = deed ∷ host.deeds;
  bytes_left = host.bytes_left - bytes;
  calls_left = host.calls_left - 1;
}

-- a stop comes within the next call
abbrev pub IsStopping : HostState → Type 0
IsStopping host = (one_more host.calls ≡ host.last_call) × IsSome host.within

-- A stop came within the call, after so many bytes of it, and a part was done.
pub record Tears (part : ℕ → Deed) (bytes : ℕ) (old new : HostState) : Type 0 where
  pub done : ℕ
  pub torn : IsNextTorn old done
  pub is : new ≡ with_deed (part done) bytes (disk_failed old)

pub record SaysPart (bytes : List ℕ) (old new : HostState) : Type 0 where
  pub done : ℕ
  pub torn : IsNextTorn old done
  pub is : new ≡ with_deed (Said (take done bytes)) (length (take done bytes)) (say_failed old)

-- A call that only reads takes no room, and fails just where its number is one of those that fail, or a stop comes within it.
pub record ReadsOrFails {T E : Type 0} (old new : HostState) (result : Result T E) : Type 0 where
  pub fails : IsErr result ↔ (IsNextFailing old ⊎ IsStopping old)
  pub ok : OnOk result (new ≡ counted old)
  pub err : OnErr result (new ≡ disk_failed old)

-- A call that does a deed to a file, and gives it this end, fails just where its number is one of those that fail, it
-- passes the room, or no file could be so long: then it changes nothing; or where a stop comes within it: then it does a part.
pub record ChangesOrFails {T E : Type 0} (deed : Deed) (part : ℕ → Deed) (bytes end : ℕ) (old new : HostState) (result : Result T E) : Type 0 where
  pub fails : IsErr result ↔ (IsNextFailing old ⊎ PassesRoom old bytes ⊎ (2 ^ 64 ≤ end) ⊎ IsStopping old)
  pub ok : OnOk result (new ≡ with_deed deed bytes (counted old))
  pub err : OnErr result ((new ≡ disk_failed old) ⊎ Tears part bytes old new)
  pub tears : ((IsNextFailing old ⊎ PassesRoom old bytes ⊎ (2 ^ 64 ≤ end)) → ⊥) → OnErr result (Tears part bytes old new)

-- A `say` fails just in the first two of these cases, where it says nothing, and in the last, where it says a part.
pub record SaysOrFails {T E : Type 0} (bytes : List ℕ) (old new : HostState) (result : Result T E) : Type 0 where
  pub fails : IsErr result ↔ (IsNextFailing old ⊎ PassesRoom old (length bytes) ⊎ IsStopping old)
  pub ok : OnOk result (new ≡ with_deed (Said bytes) (length bytes) (counted old))
  pub err : OnErr result ((new ≡ say_failed old) ⊎ SaysPart bytes old new)
  pub tears : ((IsNextFailing old ⊎ PassesRoom old (length bytes)) → ⊥) → OnErr result (SaysPart bytes old new)
