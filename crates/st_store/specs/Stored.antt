-- What a store has, and what a stop may leave of it.
use Rattle.std.specs.Prelude.{◌≡◌, ◌⊎◌, ◌≤◌, ◌^◌, ◌-◌, ℕ, List, length, take, Option, IsTrue}
use Rattle.st_host.specs.Files.{Files, bytes_of}
use Rattle.st_host.specs.declared.host.Host.{Ghosts}
use Rattle.st_store.specs.Names.{roots_file, changes_file, image_file}
use Rattle.st_store.specs.Roots.{place, root_at, HasLetters, Chooses}
use Rattle.st_store.specs.declared.root.Root.{Root}

-- a root, the bytes of the image that it names, and the changes up to its length
pub record Stored : Type 0 where
  pub root : Root
  pub image : List ℕ
  pub changes : List ℕ

-- the file has n bytes or more, and the first n are these
pub record Begins (n : ℕ) (bytes : List ℕ) (file : Option (List ℕ)) : Type 0 where
  pub long : n ≤ length (bytes_of file)
  pub is : take n (bytes_of file) ≡ bytes

-- what these files hold for a root
abbrev pub stored_in : List ℕ → Files → Root → Stored
stored_in name f root = record {
  root = root;
  image = take root.image_length (bytes_of (f (image_file name root.slot)));
  changes = take root.length (bytes_of (f (changes_file name root.slot)));
}

-- a root's numbers are in their ranges
pub record IsSound (root : Root) : Type 0 where
  pub slot : root.slot ≤ 3
  pub base : root.base ≤ root.length
  pub limit : root.length ≤ 2 ^ 30

-- The store of this name opens from these files as this: the gate chooses the root, and the files hold what it names.
pub record Opens (name : List ℕ) (c : Stored) (f : Files) : Type 0 where
  pub number : ℕ
  pub chosen : Chooses number c.root (f (roots_file name))
  pub sound : IsSound c.root
  pub image : Begins c.root.image_length c.image (f (image_file name c.root.slot))
  pub changes : Begins c.root.length c.changes (f (changes_file name c.root.slot))

-- an open store: its name, the number of the chosen root, and this root
pub record StoreState : Type 0 where
  pub name : List ℕ
  pub chosen : ℕ
  pub root : Root

module _ {D : Type 0} (host : Ghosts D) (h : D) where
  -- each state that a stop may leave of a file has P
  abbrev pub Leaves : List ℕ → (Option (List ℕ) → Type 0) → Type 0
  Leaves name P = (c : Option (List ℕ)) → host.may_leave h name c → P c

  -- the bytes that a root names are there, and are the same in every file that a stop may leave
  pub record IsFirm (name : List ℕ) (c : Stored) : Type 0 where
    pub sound : IsSound c.root
    pub image : Leaves (image_file name c.root.slot) (Begins c.root.image_length c.image)
    pub changes : Leaves (changes_file name c.root.slot) (Begins c.root.length c.changes)

  -- In every file that a stop may leave the letters stand and the gate chooses root number k, which is this, and what it
  -- names is firm.
  pub record IsChosen (name : List ℕ) (k : ℕ) (c : Stored) : Type 0 where
    pub which : k ≤ 1
    pub roots : Leaves (roots_file name) (Chooses k c.root)
    pub firm : IsFirm name c

  -- where this root is chosen as number k, and what it names is firm, what it stores has P
  abbrev pub WhereChosen : List ℕ → ℕ → Root → (Stored → Type 0) → Type 0
  WhereChosen name k root P = (c : Stored) → IsTrue host.is_told → IsChosen name k c → c.root ≡ root → P c

  -- the store is at rest, and has this
  pub record IsKept (store : StoreState) (c : Stored) : Type 0 where
    pub root : c.root ≡ store.root
    pub is : IsChosen store.name store.chosen c

  -- one root is chosen, and another, which names what is firm too, stands in the other place
  pub record IsStaged (name : List ℕ) (k : ℕ) (c d : Stored) : Type 0 where
    pub chosen : IsChosen name k c
    pub other : Leaves (roots_file name) (λ file. root_at (place (1 - k)) (bytes_of file) ≡ d.root)
    pub firm : IsFirm name d

  -- what is read now opens as this, and so do these files
  pub record OpensAsRead (name : List ℕ) (f : Files) : Type 0 where
    pub is : Stored
    pub read : Opens name is (host.files h)
    pub now : Opens name is f

  -- nothing was changed so far, or the files open as those that are read now
  abbrev pub IsOpening : List ℕ → Files → Type 0
  IsOpening name f = ((n : List ℕ) → host.may_leave h n (f n)) ⊎ OpensAsRead name f

  -- Each roots file that a stop may leave is no store's, or it chooses a root, and the image bytes that this names and the changes up to
  -- its length are the same in every file that a stop may leave.
  abbrev pub IsReady : List ℕ → Type 0
  IsReady name = Leaves (roots_file name) (λ file. HasLetters (bytes_of file) → (k : ℕ) × (c : Stored) × Chooses k c.root file × IsFirm name c)
