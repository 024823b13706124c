-- What a memory's objects are.
use Rattle.std.specs.Prelude.{ℕ}
use Rattle.st_model.specs.Table.{Table}
use Rattle.st_heap.specs.inside.Stores.{stored_of, capacity_of}
use Rattle.st_heap.specs.inside.Forms.{objects_in}
use Rattle.st_heap.specs.declared.objects.HeapObjects.{HeapObjects}

-- the table of the objects
abbrev pub objects_of : HeapObjects → Table
objects_of o = objects_in (stored_of o.store)

-- how many words there are for objects
abbrev pub room_of : HeapObjects → ℕ
room_of o = capacity_of o.store
