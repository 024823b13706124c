-- The list of a changes file's definitions as contracts see it, and how a store grows by one.
use Rattle.std.specs.Prelude.{◌≡◌, ℕ, Bool, ◌+◌, ◌-◌, ◌^◌, ◌<◌, ◌≤◌, List, ◌++◌, length, Option, None}
use Rattle.std.specs.Option.{ForSome}
use Rattle.st_chunk.specs.Definitions.{Definition, entry, entries}
use Rattle.st_store.specs.Stored.{Stored, StoreState}

-- the store's name, whether it is the second changes file, the definitions in order, and the entry that there is room for
pub record ChangesState : Type 0 where
  pub name : List ℕ
  pub second : Bool
  pub listed : List Definition
  pub reserved : Option (List ℕ)

-- a list for which no entry is made ready
abbrev pub unreserved : List ℕ → Bool → List Definition → ChangesState
unreserved name second ds = record { name = name; second = second; listed = ds; reserved = None }

-- the length of the entries of these definitions
abbrev pub IsTotal : ℕ → List Definition → Type 0
IsTotal n ds = n ≡ length (entries ds)

-- the list has a place more where an entry is ready
abbrev pub HasRoom : {R : Type 0} → (count places : ℕ) → Option R → Type 0
HasRoom count places ready = ForSome ready (λ r. count < places)

-- the entry behind those of these definitions takes the changes file to 2^30 bytes at most
abbrev pub FitsBehind : List Definition → Definition → Type 0
FitsBehind ds d = length (entries ds) + length (entry d) ≤ 2 ^ 30

-- what a store has once these bytes stand behind its changes
abbrev pub grown : Stored → List ℕ → Stored
grown c bytes = record {
  root = record c.root { length = c.root.length + length bytes };
  image = c.image;
  changes = c.changes ++ bytes;
}

-- the store that the next commit gives, its changes longer by this entry
abbrev pub next_store : StoreState → List ℕ → StoreState
next_store store bytes = record { name = store.name; chosen = 1 - store.chosen; root = record store.root { length = store.root.length + length bytes } }
