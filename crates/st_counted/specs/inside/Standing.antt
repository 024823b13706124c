-- How a memory's objects stand in its heap, and what its counts say (chapter 30).
use Rattle.std.specs.Prelude.{◌≡◌, ◌*◌, ◌+◌, ℕ, List, Option, Some, None, length, is_some, if◌then◌else◌}
use Rattle.st_model.specs.Objects.{Object}
use Rattle.st_model.specs.Table.{entry}
use Rattle.st_heap.specs.inside.Stored.{Stored, slot}
use Rattle.st_heap.specs.inside.Stores.{stored_of}
use Rattle.st_heap.specs.inside.Forms.{cell, object_from}
use Rattle.st_counted.specs.inside.Counts.{count_at, is_unused}
use Rattle.st_counted.specs.inside.Links.{Holds}
use Rattle.st_counted.specs.inside.References.{all_roots, times, uses}
use Rattle.st_table.specs.inside.Entries.{place}
use Rattle.st_counted.specs.inside.Counted.{counted_view, numbers_of}
use Rattle.st_counted.specs.declared.contents.Contents.{Contents}

-- An object is what the block of the entry at its place has: first the number of its words, then its class, then its body.
pub record StandsInBlock (all : List (Option Stored)) (place : ℕ) (o : Object) : Type 0 where
  pub block : Stored
  pub stored : slot all place ≡ Some block
  pub size : cell block 0 ≡ length block.cells
  pub class : cell block 1 ≡ 2 * o.class
  pub body : object_from block ≡ o

-- each object does
abbrev pub StandsInBlocks : Contents → Type 0
StandsInBlocks c = (k : ℕ) (o : Object) → entry (counted_view c).objects k ≡ Some o → StandsInBlock (stored_of c.objects.store) k o

-- how many roots, class words, fields and literals refer to what stands at a place
abbrev pub references_to : Contents → ℕ → ℕ
references_to c k = times k (all_roots (counted_view c)) + uses k (counted_view c).objects

-- The count of each object is the number of references to it, and nothing else has one. The list that goes through next and before
-- of the entries holds just the objects whose count is 0.
pub record CountsReferences (c : Contents) : Type 0 where
  pub count : (k : ℕ) → count_at (numbers_of c) k ≡ (if is_some (entry (counted_view c).objects k) then Some (references_to c k) else None)
  pub zeros : Holds c.objects.store (place c.counts.first) (is_unused (numbers_of c))
