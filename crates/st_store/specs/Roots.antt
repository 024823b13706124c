-- The roots file: eight letters, the gate, seven zero bytes, and two roots of four numbers each. The gate's low bit chooses
-- one of them, and its other bits mean nothing. All numbers are big-endian.
use Rattle.std.specs.Prelude.{◌≡◌, ◌≤◌, ◌<◌, ◌+◌, ◌-◌, ◌*◌, ◌%◌, ◌^◌, ℕ, List, ◌++◌, length, drop, slice_index, Option, codes}
use Rattle.byteorder.specs.Endian.{big_bytes, big_number}
use Rattle.st_host.specs.Files.{bytes_of}
use Rattle.st_store.specs.declared.root.Root.{Root}

-- the place of a root, 0 or 1
abbrev pub place : ℕ → ℕ
place k = 16 + 32 * k

-- the root at a place of the file
abbrev pub root_at : ℕ → List ℕ → Root
root_at at file = record {
  slot = big_number 8 (drop at file);
  image_length = big_number 8 (drop (at + 8) file);
  base = big_number 8 (drop (at + 16) file);
  length = big_number 8 (drop (at + 24) file);
}

abbrev pub root_bytes : Root → List ℕ
root_bytes root = big_bytes 8 root.slot ++ (big_bytes 8 root.image_length ++ (big_bytes 8 root.base ++ big_bytes 8 root.length))

-- each number has at most eight bytes
pub record Fits (root : Root) : Type 0 where
  pub slot : root.slot < 2 ^ 64
  pub image_length : root.image_length < 2 ^ 64
  pub base : root.base < 2 ^ 64
  pub length : root.length < 2 ^ 64

-- the file begins with the letters
abbrev pub HasLetters : List ℕ → Type 0
HasLetters file = (i : ℕ) → i < 8 → slice_index file i ≡ slice_index (codes "ST80ROOT") i

-- the file has the letters, and room for both roots
pub record IsWhole (file : Option (List ℕ)) : Type 0 where
  pub long : 80 ≤ length (bytes_of file)
  pub letters : HasLetters (bytes_of file)

-- the root that the gate of a roots file chooses
abbrev pub chosen_number : List ℕ → ℕ
chosen_number file = slice_index file 8 % 2

-- the file is whole, and its gate chooses root k, which is this
pub record Chooses (k : ℕ) (root : Root) (file : Option (List ℕ)) : Type 0 where
  pub whole : IsWhole file
  pub gate : chosen_number (bytes_of file) ≡ k
  pub names : root_at (place k) (bytes_of file) ≡ root

-- The file chooses root k, which is this, its gate is just the number k, and the other root is this too.
pub record IsFresh (k : ℕ) (root : Root) (file : Option (List ℕ)) : Type 0 where
  pub chosen : Chooses k root file
  pub gate : slice_index (bytes_of file) 8 ≡ k
  pub other : root_at (place (1 - k)) (bytes_of file) ≡ root
