-- At which places the blocks of a store stand.
use Rattle.std.specs.Prelude.{◌≡◌, ◌≢◌, ℕ, Option, Some, None, slice_index_or}
use Rattle.st_table.specs.declared.entry.Entry.{Entry}
use Rattle.st_model.specs.Values.{Value, Small, Ref}
use Rattle.st_heap.specs.declared.store.BlockStore.{BlockStore}
use Rattle.st_heap.specs.declared.objects.HeapObjects.{HeapObjects}

abbrev pub place_in : Option Entry → Option ℕ
place_in None = None
place_in (Some e) = Some e.at

-- where the block stands that is stored under twice this number
abbrev pub place_at : BlockStore → ℕ → Option ℕ
place_at s k = place_in (slice_index_or s.table k None)

-- each block stands where it stood
abbrev pub SamePlaces : BlockStore → BlockStore → Type 0
SamePlaces s s' = (k : ℕ) → place_at s' k ≡ place_at s k

-- each block but one stands where it stood
abbrev pub SameOtherPlaces : BlockStore → BlockStore → ℕ → Type 0
SameOtherPlaces s s' n = (k : ℕ) → k ≢ n → place_at s' k ≡ place_at s k

-- An object's block stands at a place. For example that of pointer 1234 stands at 5000 if entry 617 of the table has the place 5000.
abbrev pub Stands : HeapObjects → Value → ℕ → Type 0
Stands o (Small n) at = ⊥
Stands o (Ref n) at = place_at o.store n ≡ Some at
