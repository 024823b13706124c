-- What is seen of a heap.
use Rattle.std.specs.Prelude.{◌≡◌, ◌<◌, ◌≤◌, ◌+◌, ◌/◌, ℕ, List, Option, Some, length, drop, slice_set}
use Rattle.st_table.specs.inside.Entries.{place}
use Rattle.st_model.specs.declared.oop.Oop.{Oop}
use Rattle.st_table.specs.declared.entry.Entry.{Entry}
use Rattle.st_heap.specs.declared.block.Block.{Block}
use Rattle.st_heap.specs.declared.heap.Heap.{Heap}
use Rattle.st_heap.specs.inside.Blocks.{block_at, held, IsTied, KeepsBlocks}

abbrev pub words_of : Heap → List ℕ
words_of h = h.words

abbrev pub blocks_of : Heap → List Block
blocks_of h = h.blocks.items

-- n words are free in all
abbrev pub Fits : Heap → ℕ → Type 0
Fits h n = held (blocks_of h) + n ≤ length (words_of h)

abbrev pub Keeps : Heap → List (Option Entry) → Heap → List (Option Entry) → Type 0
Keeps h entries h' entries' = KeepsBlocks (words_of h) (blocks_of h) entries (words_of h') (blocks_of h') entries'

-- once the pointer has an entry with the place, owners and entries are tied
abbrev pub TiedWith : Heap → List (Option Entry) → Oop → ℕ → Type 0
TiedWith h entries o at = (e : Entry) → e.at ≡ at → IsTied (slice_set entries (place o) (Some e)) (blocks_of h)

-- the words that blocks hold from place k of the list on
abbrev pub held_from : Heap → ℕ → ℕ
held_from h k = held (drop k (blocks_of h))

-- the words and the blocks stand
abbrev pub SameContents : Heap → Heap → Type 0
SameContents h h' = (words_of h' ≡ words_of h) × (blocks_of h' ≡ blocks_of h)

-- as many words are held and there
pub record SameRoom (h h' : Heap) : Type 0 where
  pub held : held (blocks_of h') ≡ held (blocks_of h)
  pub length : length (words_of h') ≡ length (words_of h)

-- a block of n words is there, at a place at which none stood
pub record Takes (h h' : Heap) (o : Oop) (at n : ℕ) : Type 0 where
  pub free : (block_at (blocks_of h) at).owner.0 ≡ 0
  pub within : at / 2 < length (blocks_of h)
  pub blocks : blocks_of h' ≡ slice_set (blocks_of h) (at / 2) (record { owner = o; at = at; len = n })
  pub words : words_of h' ≡ words_of h

-- nothing stands beyond as many words as blocks hold
abbrev pub IsClosedUp : Heap → Type 0
IsClosedUp h = h.end ≡ held (blocks_of h)
