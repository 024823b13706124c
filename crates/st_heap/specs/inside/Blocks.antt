-- Blocks of a heap, listed by half of their place: since each has two words or more, no two have the same half.
use Rattle.std.specs.Prelude.{◌≡◌, ◌≢◌, ◌<◌, ◌≤◌, ◌+◌, ◌*◌, ◌/◌, ◌%◌, ◌^◌, ℕ, List, [], ◌∷◌, Option, Some, None, length, slice_index, slice_index_or, slice_set, if◌then◌else◌, ◌==◌}
use Rattle.st_model.specs.declared.oop.Oop.{Oop}
use Rattle.st_table.specs.declared.entry.Entry.{Entry}
use Rattle.st_table.specs.inside.Entries.{place, entry_of}
use Rattle.st_heap.specs.declared.block.Block.{Block}

abbrev pub none : Block
none = record { owner = record { 0 = 0 }; at = 0; len = 0 }

-- what stands at place k of the list
abbrev pub block : List Block → ℕ → Block
block blocks k = slice_index_or blocks k none

-- what stands at a place of the heap
abbrev pub block_at : List Block → ℕ → Block
block_at blocks at = block blocks (at / 2)

abbrev pub with_owner : Oop → Block → Block
with_owner o b = record { owner = o; at = b.at; len = b.len }

abbrev pub with_place : ℕ → Block → Block
with_place at b = record { owner = b.owner; at = at; len = b.len }

-- the list after the block at a place of the heap was given back: a hole is there
abbrev pub given_back : List Block → ℕ → List Block
given_back blocks at = slice_set blocks (at / 2) (with_owner (record { 0 = 0 }) (block_at blocks at))

-- the list after the block at place k has moved to a place of the heap
abbrev pub moved : List Block → ℕ → ℕ → List Block
moved blocks k to = slice_set (slice_set blocks k none) (to / 2) (with_place to (block blocks k))

-- the words of a block that has an owner
abbrev pub taken : Block → ℕ
taken b = if b.owner.0 == 0 then 0 else b.len

-- the words that blocks hold in all
abbrev pub held : List Block → ℕ
held [] = 0
held (b ∷ bs) = taken b + held bs

-- a block of n words stands at the place
pub record IsBlock (blocks : List Block) (at n : ℕ) : Type 0 where
  pub owned : (block_at blocks at).owner.0 ≢ 0
  pub there : (block_at blocks at).at ≡ at
  pub long : (block_at blocks at).len ≡ n

-- a block holds the place
abbrev pub HoldsPlace : List Block → ℕ → Type 0
HoldsPlace blocks at = (k : ℕ) × ((block blocks k).owner.0 ≢ 0) × ((block blocks k).at ≤ at) × (at < (block blocks k).at + (block blocks k).len)

-- a block holds n words from the place on
abbrev pub HoldsRun : List Block → ℕ → ℕ → Type 0
HoldsRun blocks at n = (k : ℕ) × ((block blocks k).owner.0 ≢ 0) × ((block blocks k).at ≤ at) × (at + n ≤ (block blocks k).at + (block blocks k).len)

-- blocks and holes share no word and end at the end; `free` words are in no block
pub record IsLaid (words : List ℕ) (blocks : List Block) (end free : ℕ) : Type 0 where
  pub size : length words < 2 * length blocks
  pub small : length words < 2 ^ 32
  pub last : end ≤ length words
  pub owned : (k : ℕ) → (block blocks k).owner.0 ≢ 0 → 0 < (block blocks k).len
  pub half : (k : ℕ) → 0 < (block blocks k).len → (block blocks k).at / 2 ≡ k
  pub long : (k : ℕ) → 0 < (block blocks k).len → 2 ≤ (block blocks k).len
  pub within : (k : ℕ) → 0 < (block blocks k).len → (block blocks k).at + (block blocks k).len ≤ end
  pub apart : (j k : ℕ) → j < k → 0 < (block blocks j).len → 0 < (block blocks k).len → (block blocks j).at + (block blocks j).len ≤ (block blocks k).at
  pub sum : free + held blocks ≡ length words

-- the place in an entry
abbrev pub entry_at : Option Entry → ℕ
entry_at None = 0
entry_at (Some e) = e.at

-- an entry with another place
abbrev pub moved_entry : Option Entry → ℕ → Option Entry
moved_entry None at = None
moved_entry (Some e) at = Some (record { at = at; kind = e.kind; odd = e.odd; next = e.next; before = e.before })

-- the owners of blocks are just the pointers with entries, and each entry has its block's place
pub record IsTied (entries : List (Option Entry)) (blocks : List Block) : Type 0 where
  pub first : slice_index_or entries 0 None ≡ None
  pub placed : (k : ℕ) (e : Entry) → slice_index_or entries k None ≡ Some e → ((block_at blocks e.at).owner.0 ≡ 2 * k) × ((block_at blocks e.at).at ≡ e.at)
  pub even : (k : ℕ) → (block blocks k).owner.0 ≢ 0 → (block blocks k).owner.0 % 2 ≡ 0
  pub entered : (k : ℕ) → (block blocks k).owner.0 ≢ 0 → (e : Entry) × (slice_index_or entries ((block blocks k).owner.0 / 2) None ≡ Some e) × (e.at ≡ (block blocks k).at)

-- the entries after two pointers exchanged the places in theirs
abbrev pub exchanged_entries : List (Option Entry) → Oop → Oop → List (Option Entry)
exchanged_entries entries a b =
    let at_a = entry_at (entry_of entries a) in
    let at_b = entry_at (entry_of entries b) in
    slice_set (slice_set entries (place a) (moved_entry (entry_of entries a) at_b)) (place b) (moved_entry (entry_of entries b) at_a)

-- the blocks after two pointers exchanged theirs
abbrev pub exchanged_blocks : List Block → List (Option Entry) → Oop → Oop → List Block
exchanged_blocks blocks entries a b =
    let at_a = entry_at (entry_of entries a) in
    let at_b = entry_at (entry_of entries b) in
    slice_set (slice_set blocks (at_a / 2) (with_owner b (block_at blocks at_a))) (at_b / 2) (with_owner a (block_at blocks at_b))

-- before place k of the list all ends at a place of the heap
abbrev pub IsClosedBelow : List Block → ℕ → ℕ → Type 0
IsClosedBelow blocks k to = (j : ℕ) → j < k → 0 < (block blocks j).len → (block blocks j).at + (block blocks j).len ≤ to

-- from place k of the list on all begins at a place of the heap or above
abbrev pub IsAbove : List Block → ℕ → ℕ → Type 0
IsAbove blocks k to = (j : ℕ) → k ≤ j → 0 < (block blocks j).len → to ≤ (block blocks j).at

-- of each entry all stays but its place, and of its block the length and the words
pub record KeepsBlocks (words : List ℕ) (blocks : List Block) (entries : List (Option Entry)) (words' : List ℕ) (blocks' : List Block) (entries' : List (Option Entry)) : Type 0 where
  pub size : length entries' ≡ length entries
  pub entry : (k : ℕ) → slice_index_or entries' k None ≡ moved_entry (slice_index_or entries k None) (entry_at (slice_index_or entries' k None))
  pub long : (k : ℕ) (e : Entry) → slice_index_or entries k None ≡ Some e → (block_at blocks' (entry_at (slice_index_or entries' k None))).len ≡ (block_at blocks e.at).len
  pub word : (k : ℕ) (e : Entry) (i : ℕ) → slice_index_or entries k None ≡ Some e → i < (block_at blocks e.at).len → slice_index words' (entry_at (slice_index_or entries' k None) + i) ≡ slice_index words (e.at + i)
