-- What a store contains.
use Rattle.std.specs.Prelude.{ℕ, List, Option, length}
use Rattle.st_heap.specs.inside.Heaps.{words_of, blocks_of}
use Rattle.st_heap.specs.declared.store.BlockStore.{BlockStore}
use Rattle.st_heap.specs.inside.Stored.{Stored, stored_all}

abbrev pub stored_of : BlockStore → List (Option Stored)
stored_of s = stored_all (words_of s.heap) (blocks_of s.heap) s.table

-- how many words there are for blocks
abbrev pub capacity_of : BlockStore → ℕ
capacity_of s = length (words_of s.heap)
