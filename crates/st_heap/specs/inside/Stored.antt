-- Objects as they are stored: the kind and the mark of an entry, and the words of its block.
use Rattle.std.specs.Prelude.{◌≡◌, ◌≢◌, ◌+◌, ◌*◌, ◌/◌, ◌%◌, ◌<◌, ◌≤◌, ℕ, Bool, true, false, List, [], ◌∷◌, Option, Some, None, length, map, is_some, slice_index, slice_index_or, slice_set, unwrap_or}
use Rattle.std.specs.Option.{option_map}
use Rattle.std.specs.List.{range_with_len}
use Rattle.st_model.specs.declared.oop.Oop.{Oop}
use Rattle.st_model.specs.declared.kind.Kind.{Kind}
use Rattle.st_model.specs.declared.kind.Kind.TheVariants.{Pointers}
use Rattle.st_model.specs.declared.demand.Demand.{Demand}
use Rattle.st_table.specs.declared.entry.Entry.{Entry}
use Rattle.st_table.specs.inside.Entries.{place}
use Rattle.st_heap.specs.declared.block.Block.{Block}
use Rattle.st_heap.specs.inside.Blocks.{block, block_at, entry_at}

-- the kind and the odd mark of an entry, and the words of its block
pub record Stored : Type 0 where
  pub kind : Kind
  pub odd : Bool
  pub cells : List ℕ

-- the values of a function at the numbers below n
abbrev pub run : (ℕ → ℕ) → ℕ → List ℕ
run f n = map f (range_with_len 0 n)

abbrev pub stored_at : List ℕ → List Block → Entry → Stored
stored_at words blocks e = record { kind = e.kind; odd = e.odd; cells = run (λ i. slice_index words (e.at + i)) (block_at blocks e.at).len }

-- at each place what the entry there has stored
abbrev pub stored_all : List ℕ → List Block → List (Option Entry) → List (Option Stored)
stored_all words blocks entries = map (option_map (stored_at words blocks)) entries

-- what stands at a place
abbrev pub slot : List (Option Stored) → ℕ → Option Stored
slot all k = slice_index_or all k None

abbrev pub nothing_stored : Stored
nothing_stored = record { kind = Pointers; odd = false; cells = [] }

abbrev pub stored : List (Option Stored) → ℕ → Stored
stored all k = unwrap_or (slot all k) nothing_stored

-- the pointer names an object that is stored
pub record HasStored (all : List (Option Stored)) (o : Oop) : Type 0 where
  pub even : o.0 % 2 ≡ 0
  pub there : is_some (slot all (place o)) ≡ true

-- the pointer could name an object, and none is stored
pub record IsUnused (all : List (Option Stored)) (o : Oop) : Type 0 where
  pub even : o.0 % 2 ≡ 0
  pub some : o.0 ≢ 0
  pub last : place o < length all
  pub absent : slot all (place o) ≡ None

-- the least pointer that could name an object and under which none is stored
pub record IsLeastUnused (all : List (Option Stored)) (o : Oop) : Type 0 where
  pub unused : IsUnused all o
  pub least : (p : Oop) → IsUnused all p → o.0 ≤ p.0

-- with another word at place i
abbrev pub with_cell : Stored → ℕ → ℕ → Stored
with_cell s i w = record { kind = s.kind; odd = s.odd; cells = slice_set s.cells i w }

-- with other words
abbrev pub with_cells : Stored → List ℕ → Stored
with_cells s cells = record { kind = s.kind; odd = s.odd; cells = cells }

-- something of a kind and a mark with n words is stored at a place, whatever the words are
pub record Takes (all all' : List (Option Stored)) (k : ℕ) (kind : Kind) (odd : Bool) (n : ℕ) : Type 0 where
  pub cells : List ℕ
  pub long : length cells ≡ n
  pub is : all' ≡ slice_set all k (Some (record { kind = kind; odd = odd; cells = cells }))

-- two places exchange what is stored at them
abbrev pub exchanged_stored : List (Option Stored) → ℕ → ℕ → List (Option Stored)
exchanged_stored all a b = slice_set (slice_set all a (slot all b)) b (slot all a)

-- the sum of a number over all that is stored
abbrev pub total : (Stored → ℕ) → List (Option Stored) → ℕ
total weight [] = 0
total weight (None ∷ all) = total weight all
total weight (Some s ∷ all) = weight s + total weight all

abbrev pub one_stored : Stored → ℕ
one_stored s = 1

abbrev pub stored_words : Stored → ℕ
stored_words s = length s.cells

abbrev pub used_of : List (Option Stored) → Demand
used_of all = record { entries = total one_stored all; words = total stored_words all }

-- the owners of blocks are just the pointers with entries, and each entry has its block's place
pub record AreTied (entries : List (Option Entry)) (blocks : List Block) : Type 0 where
  pub first : slice_index_or entries 0 None ≡ None
  pub placed : (k : ℕ) (e : Entry) → slice_index_or entries k None ≡ Some e → ((block_at blocks e.at).owner.0 ≡ 2 * k) × ((block_at blocks e.at).at ≡ e.at)
  pub even : (k : ℕ) → (block blocks k).owner.0 ≢ 0 → (block blocks k).owner.0 % 2 ≡ 0
  pub entered : (k : ℕ) → (block blocks k).owner.0 ≢ 0 → (is_some (slice_index_or entries ((block blocks k).owner.0 / 2) None) ≡ true) × (entry_at (slice_index_or entries ((block blocks k).owner.0 / 2) None) ≡ (block blocks k).at)
