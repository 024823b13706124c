-- What a store holds, and how a session changes that: by one definition more, or by a snapshot.
use Rattle.std.specs.Prelude.{ℕ, zero, suc, ◌+◌, ◌^◌, Bool, true, false, nat_le, List, [], ◌∷◌, ◌++◌, length, All}
use Rattle.st_host.specs.Files.{Files}
use Rattle.st_model.specs.Machine.{Head}
use Rattle.st_model.specs.Table.{Table}
use Rattle.st_model.specs.View.{View, nothing_held}
use Rattle.st_writer.specs.Written.{image_of}
use Rattle.st_chunk.specs.Definitions.{Definition, IsDefinition, entry, entries}
use Rattle.st_store.specs.Stored.{Stored, Opens}
use Rattle.st_store.specs.declared.root.Root.{Root}
use Rattle.st_protocol.specs.declared.status.Status.TheVariants.{TooLarge}
use Rattle.st_protocol.specs.Courses.{Course, Keep, Goes, Ends}
use Rattle.st_recover.specs.Images.{IsReadable}

-- An image, and the definitions of the changes file: those before its base, and those from it on.
pub record Commit : Type 0 where
  pub image : List ℕ
  pub before : List Definition
  pub definitions : List Definition

-- all definitions of the changes file, in order
abbrev pub all_of : Commit → List Definition
all_of c = c.before ++ c.definitions

-- with one definition more
abbrev pub accepted : Commit → Definition → Commit
accepted c d = record { image = c.image; before = c.before; definitions = c.definitions ++ d ∷ [] }

-- a snapshot: another image, and no definitions from its base on
abbrev pub imaged : Commit → List ℕ → Commit
imaged c image = record { image = image; before = all_of c; definitions = [] }

-- IN FILES

-- the slot of the other image file and the same changes file
abbrev pub other_image : ℕ → ℕ
other_image zero = 1
other_image (suc zero) = 0
other_image (suc (suc slot)) = suc (suc (other_image slot))

-- the root that names it, with its image and its changes in this slot
abbrev pub root_of : ℕ → Commit → Root
root_of slot c = record {
  slot = slot;
  image_length = length c.image;
  base = length (entries c.before);
  length = length (entries (all_of c));
}

abbrev pub stored_of : ℕ → Commit → Stored
stored_of slot c = record { root = root_of slot c; image = c.image; changes = entries (all_of c) }

-- The store of this name opens from these files as this commit: its image is in one of two files, and its changes are in one of two.
-- The image can be read, and each entry of the changes is one of a definition.
pub record OpensAs (name : List ℕ) (c : Commit) (f : Files) : Type 0 where
  pub slot : ℕ
  pub opens : Opens name (stored_of slot c) f
  pub readable : IsReadable c.image
  pub good : All IsDefinition (all_of c)

-- IN A SESSION

-- the changes have at most 2^30 bytes with the entry of this definition
abbrev pub fits : Commit → Definition → Bool
fits c d = nat_le (length (entries (all_of c)) + length (entry d)) (2 ^ 30)

-- a definition is kept where it fits, and else the session ends
abbrev pub accepted_if : Commit → Definition → Bool → Course Commit Commit
accepted_if c d true = Goes (Keep (accepted c d) ∷ []) (accepted c d)
accepted_if c d false = Ends [] TooLarge

abbrev pub accepting : Commit → Definition → Course Commit Commit
accepting c d = accepted_if c d (fits c d)

-- the image of objects under a head
abbrev pub image_with : Table → Head → List ℕ
image_with objects head = image_of (record { objects = objects; held = nothing_held; head = head })

-- the image of what a memory contains
abbrev pub image_in : View → List ℕ
image_in v = image_with v.objects v.head
