-- What the parts of a memory contain.
use Rattle.std.specs.Prelude.{ℕ, Bool}
use Rattle.st_model.specs.Objects.{words_of}
use Rattle.st_model.specs.Table.{table, total_used}
use Rattle.st_model.specs.Settled.{or, is_root}
use Rattle.st_model.specs.View.{View, view_roots, head_of}
use Rattle.st_counted.specs.inside.Held.{held_of}
use Rattle.st_plain.specs.inside.ListsPlain.{objects_of, extent_of, IsEnough, IsLong, is_referred}
use Rattle.st_plain.specs.declared.contents.Contents.{Contents}

-- what a memory of these parts contains
abbrev pub plain_view : Contents → View
plain_view c = record { objects = objects_of c.objects; held = held_of c.roots; head = head_of c.head.capacity c.head.globals c.head.symbols }

-- the name is a root, or some object refers to it
unfoldable pub is_needed : View → ℕ → Bool
is_needed v n = or (is_root table v.objects (view_roots v) n) (is_referred v.objects n)

-- there is room for what may be placed yet
abbrev pub HasRoom : Contents → Type 0
HasRoom c = IsEnough (extent_of c.objects) (total_used words_of (objects_of c.objects)) c.head.capacity.words

-- the lists, and those to close up into, are as long as the capacities may need
pub record AreLong (c : Contents) : Type 0 where
  pub objects : IsLong (extent_of c.objects) c.head.capacity.words
  pub spare : IsLong (extent_of c.spare) c.head.capacity.words
