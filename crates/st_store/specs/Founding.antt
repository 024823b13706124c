-- What stands while a store is made.
use Rattle.std.specs.Prelude.{◌≡◌, ◌⊎◌, ℕ, List, [], ◌++◌, length, replicate, slice_index, codes, Option, Some, None}
use Rattle.st_host.specs.Files.{Files, bytes_of}
use Rattle.st_host.specs.declared.host.Host.{Ghosts}
use Rattle.st_store.specs.Names.{roots_file}
use Rattle.st_store.specs.Roots.{HasLetters, root_bytes}
use Rattle.st_store.specs.Stored.{Stored, Opens}
use Rattle.st_store.specs.declared.root.Root.{Root}

-- The roots file is absent or doesn't begin with the letters, so that opening refuses it.
abbrev pub IsNoStore : Option (List ℕ) → Type 0
IsNoStore file = HasLetters (bytes_of file) → ⊥

-- The files of this name are no store's, or they open as this.
abbrev pub OpensMaybe : List ℕ → Option Stored → Files → Type 0
OpensMaybe name None f = IsNoStore (f (roots_file name))
OpensMaybe name (Some c) f = Opens name c f

-- nothing was changed so far, or there was no store, and the files of this name are none's
abbrev pub IsCleared : {D : Type 0} → Ghosts D → List ℕ → D → Files → Type 0
IsCleared host name old f = ((n : List ℕ) → host.may_leave old n (f n))
    ⊎ (IsNoStore (host.files old (roots_file name)) × IsNoStore (f (roots_file name)))

-- the root of a new store: its image in slot 0, and no changes
abbrev pub first_root : ℕ → Root
first_root image_length = record { slot = 0; image_length = image_length; base = 0; length = 0 }

abbrev pub first_stored : ℕ → List ℕ → Stored
first_stored image_length image = record { root = first_root image_length; image = image; changes = [] }

-- the bytes of its roots file behind the letters: the gate, seven zero bytes, root 0, and zero bytes in the place of root 1
abbrev pub first_bytes : Root → List ℕ
first_bytes root = replicate 8 0 ++ (root_bytes root ++ replicate 32 0)

-- the whole of it
abbrev pub first_file : Root → List ℕ
first_file root = codes "ST80ROOT" ++ first_bytes root

-- one zero byte
pub record IsBlank (file : Option (List ℕ)) : Type 0 where
  pub long : length (bytes_of file) ≡ 1
  pub zero : slice_index (bytes_of file) 0 ≡ 0
