-- The code's object memories: an object, or none, for each halved pointer. Place 0 is never used, and pointers are
-- borne again.
use Rattle.std.specs.Prelude.{◌≡◌, ◌+◌, ◌-◌, length, take, ℕ, zero, suc, List, [], ◌∷◌, Option, Some, None, Bool, true, false, is_some, nat_lt, ◌==◌, if◌then◌else◌}
use Rattle.st_model.specs.Objects.{Object, place_of}
use Rattle.st_model.specs.Machine.{ObjectMemory}

abbrev pub Table : Type 0
Table = List (Option Object)

abbrev pub entry : Table → ℕ → Option Object
entry [] k = None
entry (e ∷ t) zero = e
entry (e ∷ t) (suc k) = entry t k

abbrev pub changed : Table → ℕ → Object → Table
changed [] k o = []
changed (None ∷ t) zero o = None ∷ t
changed (Some a ∷ t) zero o = Some o ∷ t
changed (e ∷ t) (suc k) o = e ∷ changed t k o

abbrev pub exchanged_objects : Table → ℕ → ℕ → Option Object → Option Object → Table
exchanged_objects t a b (Some o) (Some p) = changed (changed t a p) b o
exchanged_objects t a b o p = t

-- the table in which two names have exchanged their objects
abbrev pub exchanged : Table → ℕ → ℕ → Table
exchanged t a b = exchanged_objects t a b (entry t a) (entry t b)

-- the least place without an object
abbrev pub first_none : Table → ℕ
first_none [] = 0
first_none (None ∷ t) = 0
first_none (Some a ∷ t) = suc (first_none t)

abbrev pub filled_first : Table → Object → Table
filled_first [] o = Some o ∷ []
filled_first (None ∷ t) o = Some o ∷ t
filled_first (Some a ∷ t) o = Some a ∷ filled_first t o

-- the least free name, from 1 up
abbrev pub first_free : Table → ℕ
first_free [] = 1
first_free (e ∷ t) = suc (first_none t)

abbrev pub placed : Table → Object → Table
placed [] o = None ∷ Some o ∷ []
placed (e ∷ t) o = e ∷ filled_first t o

abbrev pub settled_table : Table → (ℕ → Bool) → Table
settled_table [] keep = []
settled_table (e ∷ t) keep = (if keep 0 then e else None) ∷ settled_table t (λ k. keep (suc k))

-- the sum of a number over all objects
abbrev pub total_used : (Object → ℕ) → Table → ℕ
total_used weight [] = 0
total_used weight (None ∷ t) = total_used weight t
total_used weight (Some o ∷ t) = weight o + total_used weight t

abbrev pub table : ObjectMemory Table
table = record {
  read = entry;
  replace = changed;
  exchange = exchanged;
  append = placed;
  next = first_free;
  named = λ t q. place_of q;
  size = λ t. length t;
  kept = λ t k. is_some (entry t k);
  settled = settled_table;
  pointer = λ t k. k;
  borne_by = λ t k. if is_some (entry t k) then Some k else None;
  total = total_used;
  bounded = false;
}

-- The table of a running machine, which makes an object only where the capacities have room for it. Where they have
-- none, nothing is made, and the answer is nil.
abbrev pub bounded_table : ObjectMemory Table
bounded_table = record table { bounded = true }

-- an object more at the table's end
abbrev pub joined : Table → Object → Table
joined [] o = Some o ∷ []
joined (e ∷ t) o = e ∷ joined t o

-- where the first of these places is k, the place of the free one number i, counted from 0
abbrev pub free_place : Table → ℕ → ℕ → ℕ
free_place [] k i = k + i
free_place (None ∷ t) k zero = k
free_place (None ∷ t) k (suc i) = free_place t (suc k) i
free_place (Some o ∷ t) k i = free_place t (suc k) i

abbrev pub without_first : Table → Table
without_first [] = []
without_first (e ∷ t) = t

-- the names below 32768 are halved pointers; object number i of those above bears the free pointer number i
abbrev pub pointer_apart : Table → ℕ → ℕ
pointer_apart t k = if nat_lt k 32768 then k else free_place (without_first (take 32768 t)) 1 (k - 32768)

-- of the first so many objects behind the 32768 places, the name of the one that bears this pointer
abbrev pub behind_by : Table → ℕ → ℕ → Option ℕ
behind_by t k zero = None
behind_by t k (suc n) = if pointer_apart t (32768 + n) == k then Some (32768 + n) else behind_by t k n

-- a pointer is borne by the object at its place, or else by one behind all places
abbrev pub borne_apart : Table → ℕ → Option ℕ
borne_apart t k = if is_some (entry (take 32768 t) k) then Some k else behind_by t k (length t - 32768)

-- A table of 32768 places in which a step is foreseen: new objects stand apart, behind all places, so that there is
-- always one for them.
abbrev pub apart : ObjectMemory Table
apart = record table {
  append = joined;
  next = λ t. length t;
  pointer = pointer_apart;
  borne_by = borne_apart;
}

-- it reads, changes and names objects as the table does, and may make new ones in its own way
pub record IsTabular (m : ObjectMemory Table) : Type 0 where
  pub read : m.read ≡ entry
  pub replace : m.replace ≡ changed
  pub exchange : m.exchange ≡ exchanged
  pub named : m.named ≡ table.named
