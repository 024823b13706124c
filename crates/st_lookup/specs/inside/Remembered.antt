-- What is remembered of searches, and how long.
use Rattle.std.specs.Prelude.{◌≡◌, ℕ, Bool, true, false, Option, Some, None, List, ⊤, slice_get, slice_index, replicate, ◌/◌, ◌%◌, ◌==◌}
use Rattle.std.specs.Int.{bit_at}
use Rattle.st_model.specs.Values.{Value, Small, Ref, value}
use Rattle.st_model.specs.Objects.{Object}
use Rattle.st_model.specs.Table.{Table, entry, settled_table}
use Rattle.st_model.specs.View.{is_live}
use Rattle.st_memory.specs.inside.Searched.{Finds}
use Rattle.st_lookup.specs.declared.entry.CachedLookup.{CachedLookup}
use Rattle.st_lookup.specs.declared.entry.TheConstants.CachedLookup.{NONE}

-- the pointers that are watched, halved
abbrev pub on : List ℕ → ℕ → Bool
on words k = bit_at (slice_index words (k / 64)) (k % 64) == 1

-- a SmallInteger, or a watched pointer
abbrev pub is_on : List ℕ → Value → Bool
is_on bits (Small n) = true
is_on bits (Ref n) = on bits n

abbrev pub IsOn : List ℕ → Value → Type 0
IsOn bits v = is_on bits v ≡ true

-- a SmallInteger, or a pointer that isn't watched
abbrev pub IsOff : List ℕ → Value → Type 0
IsOff bits (Small n) = ⊤
IsOff bits (Ref n) = on bits n ≡ false

-- the watched objects alone
unfoldable pub watched : List ℕ → Table → Table
watched bits t = settled_table t (on bits)

-- the object of a value, where it is one
abbrev pub object_at : Table → Value → Option Object
object_at t (Small n) = None
object_at t (Ref n) = entry t n

-- the object is seen among the watched ones as it is
abbrev pub IsSeen : List ℕ → Table → Value → Type 0
IsSeen bits t v = object_at (watched bits t) v ≡ object_at t v

-- If the class is there, the search finds the method, and meets no object that isn't watched.
pub record IsRemembered (bits : List ℕ) (t : Table) (e : CachedLookup) : Type 0 where
  pub class : IsOn bits (value e.class)
  pub selector : IsOn bits (value e.selector)
  pub finds : is_live t (value e.class) ≡ true → Finds (watched bits t) (value e.class) (value e.selector) (value e.method)

abbrev pub AllRemembered : List ℕ → Table → List CachedLookup → Type 0
AllRemembered bits t es = (i : ℕ) (e : CachedLookup) → slice_get es i ≡ Some e → IsRemembered bits t e

-- what was watched is watched
abbrev pub Grows : List ℕ → List ℕ → Type 0
Grows old new = (k : ℕ) → on old k ≡ true → on new k ≡ true

-- each watched object is as it was
abbrev pub SameWatched : List ℕ → Table → Table → Type 0
SameWatched bits t u = (k : ℕ) → on bits k ≡ true → entry u k ≡ entry t k

-- the same, if this isn't watched
abbrev pub StaysIfOff : List ℕ → Value → Table → Table → Type 0
StaysIfOff bits v t u = IsOff bits v → SameWatched bits t u

-- 512 entries of nothing
abbrev pub HasNone : List CachedLookup → Type 0
HasNone es = es ≡ replicate 512 NONE
