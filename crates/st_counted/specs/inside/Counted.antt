-- What the parts of a memory contain.
use Rattle.std.specs.Prelude.{◌≡◌, ℕ, List, Option, []}
use Rattle.st_model.specs.Values.{Value}
use Rattle.st_model.specs.View.{View, head_of, with_stored}
use Rattle.st_counted.specs.inside.Held.{held_of}
use Rattle.st_heap.specs.inside.Places.{SamePlaces}
use Rattle.st_heap.specs.inside.Tables.{objects_of, room_of}
use Rattle.st_counted.specs.inside.Contents.{counts_of}
use Rattle.st_counted.specs.declared.contents.Contents.{Contents}
use Rattle.st_counted.specs.inside.Links.{IsListed}
use Rattle.st_counted.specs.inside.References.{all_roots, IsCounted}

-- what a memory of these parts contains
abbrev pub counted_view : Contents → View
counted_view c = record { objects = objects_of c.objects; held = held_of c.roots; head = head_of c.head.capacity c.head.globals c.head.symbols }

-- the heap has as many words as the capacity says
abbrev pub HasRoom : Contents → Type 0
HasRoom c = room_of c.objects ≡ c.head.capacity.words

-- the counts
abbrev pub numbers_of : Contents → List (Option ℕ)
numbers_of c = counts_of c.counts

-- the count of each object is the number of roots, class words, fields and literals that name it
abbrev pub AllCounted : Contents → Type 0
AllCounted c = IsCounted (counted_view c).objects (all_roots (counted_view c)) [] (numbers_of c)

-- A value was stored in a field of an object, and counted; what the memory holds stands, and so does where its objects are.
pub record StoresPointer (c c' : Contents) (o : Value) (at : ℕ) (v : Value) : Type 0 where
  pub objects : objects_of c'.objects ≡ with_stored (objects_of c.objects) o at v
  pub held : held_of c'.roots ≡ held_of c.roots
  pub head : c'.head ≡ c.head
  pub counted : AllCounted c'
  pub listed : IsListed c'.objects c'.counts
  pub room : HasRoom c → HasRoom c'
  pub places : SamePlaces c.objects.store c'.objects.store

-- of the memory stands all but its counts and the links between its objects
pub record SameButLinks (c c' : Contents) : Type 0 where
  pub objects : objects_of c'.objects ≡ objects_of c.objects
  pub room : room_of c'.objects ≡ room_of c.objects
  pub roots : c'.roots ≡ c.roots
  pub head : c'.head ≡ c.head
