-- Who bears a pointer, over a draft. Pointers are halved.
use Rattle.std.specs.Prelude.{◌≡◌, ℕ, zero, suc, ◌+◌, ◌-◌, min, is_some, Option, None, if◌then◌else◌}
use Rattle.st_model.specs.Values.{Value, Small, Ref}
use Rattle.st_model.specs.Machine.{names_instance}
use Rattle.st_model.specs.Table.{Table, entry, apart, borne_apart, without_first}

-- how many of the first n places of a table are free; those behind it are
abbrev pub free_before : Table → ℕ → ℕ
free_before t zero = 0
free_before t (suc n) = free_before t n + (if is_some (entry t n) then 0 else 1)

-- How many free places from 1 on there are before place k. Where more are free than objects were made, it counts as many as
-- were made.
abbrev pub IsNumberOf : Table → ℕ → ℕ → ℕ → Type 0
IsNumberOf t made k number = number ≡ min (free_before (without_first t) (k - 1)) made

-- the name of the object that bears this pointer, where it is an instance of the class
unfoldable pub instance_at : Table → Value → ℕ → Option ℕ
instance_at t (Small n) k = None
instance_at t (Ref class) k = if names_instance apart t class (borne_apart t k) then borne_apart t k else None
