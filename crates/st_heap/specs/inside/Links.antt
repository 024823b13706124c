-- What the entries of a store say of a list that objects are in: what follows each, and what stands before it, by places; 0 is none.
use Rattle.std.specs.Prelude.{◌≡◌, ◌≢◌, ℕ, Option, Some, None, slice_index_or}
use Rattle.st_table.specs.declared.entry.Entry.{Entry}
use Rattle.st_table.specs.inside.Entries.{place}
use Rattle.st_heap.specs.declared.store.BlockStore.{BlockStore}

abbrev pub next_in : Option Entry → ℕ
next_in None = 0
next_in (Some e) = place e.next

abbrev pub before_in : Option Entry → ℕ
before_in None = 0
before_in (Some e) = place e.before

-- what follows the object at a place
abbrev pub next_of : BlockStore → ℕ → ℕ
next_of s k = next_in (slice_index_or s.table k None)

-- what stands before it
abbrev pub before_of : BlockStore → ℕ → ℕ
before_of s k = before_in (slice_index_or s.table k None)

-- all links stand
pub record SameLinks (s s' : BlockStore) : Type 0 where
  pub next : (k : ℕ) → next_of s' k ≡ next_of s k
  pub before : (k : ℕ) → before_of s' k ≡ before_of s k

-- all links but those at a place stand
pub record SameOtherLinks (s s' : BlockStore) (place : ℕ) : Type 0 where
  pub next : (k : ℕ) → k ≢ place → next_of s' k ≡ next_of s k
  pub before : (k : ℕ) → k ≢ place → before_of s' k ≡ before_of s k

-- the object at a place is followed by another, and all other links stand
pub record WithNext (s s' : BlockStore) (place to : ℕ) : Type 0 where
  pub here : next_of s' place ≡ to
  pub others : (k : ℕ) → k ≢ place → next_of s' k ≡ next_of s k
  pub before : (k : ℕ) → before_of s' k ≡ before_of s k

-- another stands before the object at a place, and all other links stand
pub record WithBefore (s s' : BlockStore) (place to : ℕ) : Type 0 where
  pub here : before_of s' place ≡ to
  pub others : (k : ℕ) → k ≢ place → before_of s' k ≡ before_of s k
  pub next : (k : ℕ) → next_of s' k ≡ next_of s k
