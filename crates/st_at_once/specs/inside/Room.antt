-- For how many changes a memory has room.
use Rattle.std.specs.Prelude.{ℕ, ◌/◌, min}
use Rattle.st_model.specs.Machine.{used, less, capacity_of}
use Rattle.st_model.specs.Table.{table}
use Rattle.st_model.specs.View.{View}

-- For how many changes what is free has room: an entry each, and 2,050 words. An object of n words counts as 1 + n / 2,048 changes,
-- and takes n + 2 words.
unfoldable pub room_of : View → ℕ
room_of v = let free = less (capacity_of v.head) (used table v.objects) in min free.entries (free.words / 2050)
