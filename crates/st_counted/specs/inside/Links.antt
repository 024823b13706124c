-- The list of the objects to which nothing refers (chapter 30), through what follows and precedes each by its entry; place 0 is none.
use Rattle.std.specs.Prelude.{◌≡◌, ◌≢◌, ◌<◌, ◌==◌, ◌+◌, ℕ, Bool, List, [], ◌∷◌, is_some, if◌then◌else◌, true, false}
use Rattle.st_model.specs.Table.{entry}
use Rattle.st_table.specs.inside.Entries.{place}
use Rattle.st_heap.specs.declared.store.BlockStore.{BlockStore}
use Rattle.st_heap.specs.declared.objects.HeapObjects.{HeapObjects}
use Rattle.st_heap.specs.inside.Links.{next_of, before_of}
use Rattle.st_heap.specs.inside.Places.{SamePlaces}
use Rattle.st_heap.specs.inside.Tables.{objects_of, room_of}
use Rattle.st_counted.specs.inside.Counts.{is_counted, is_unused}
use Rattle.st_counted.specs.inside.Contents.{counts_of}
use Rattle.st_counted.specs.declared.counts.Counts.{Counts}

-- how many times k stands in the list
abbrev pub times : ℕ → List ℕ → ℕ
times k [] = 0
times k (x ∷ xs) = (if x == k then 1 else 0) + times k xs

-- from `at`, before which `prev` stands, the links go through zs and end
abbrev pub IsLinked : ℕ → (ℕ → ℕ) → (ℕ → ℕ) → ℕ → ℕ → List ℕ → Type 0
IsLinked size next before prev at [] = at ≡ 0
IsLinked size next before prev at (z ∷ zs) = (at ≡ z) × (z ≢ 0) × (z < size) × (before z ≡ prev) × IsLinked size next before z (next z) zs

-- The list that begins with `first` and goes through the entries of a store holds each place of which the test holds once, and no
-- other.
pub record Listed (s : BlockStore) (first : ℕ) (p : ℕ → Bool) : Type 0 where
  pub list : List ℕ
  pub chain : IsLinked 32768 (next_of s) (before_of s) 0 first list
  pub exact : (k : ℕ) → times k list ≡ (if p k then 1 else 0)

-- there is such a list
abbrev pub Holds : BlockStore → ℕ → (ℕ → Bool) → Type 0
Holds s first p = ∥ Listed s first p ∥₁

-- the end of a list, or an object
abbrev pub IsEnd : HeapObjects → ℕ → Type 0
IsEnd o k = k ≢ 0 → is_some (entry (objects_of o) k) ≡ true

-- at each place of which the test holds stands an object
abbrev pub AreStored : HeapObjects → (ℕ → Bool) → Type 0
AreStored o p = (k : ℕ) → p k ≡ true → is_some (entry (objects_of o) k) ≡ true

-- The list holds just the objects whose count is 0, and only objects have counts.
pub record IsListed (o : HeapObjects) (c : Counts) : Type 0 where
  pub list : Holds o.store (place c.first) (is_unused (counts_of c))
  pub stored : AreStored o (is_counted (counts_of c))

-- Of the objects only the links may have changed.
pub record SameObjects (o o' : HeapObjects) : Type 0 where
  pub objects : objects_of o' ≡ objects_of o
  pub room : room_of o' ≡ room_of o
  pub places : SamePlaces o.store o'.store

abbrev pub with_member : ℕ → (ℕ → Bool) → ℕ → Bool
with_member k p o = if k == o then true else p o

abbrev pub without_member : ℕ → (ℕ → Bool) → ℕ → Bool
without_member k p o = if k == o then false else p o
