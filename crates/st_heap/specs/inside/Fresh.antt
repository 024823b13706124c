-- The words of a new object.
use Rattle.std.specs.Prelude.{◌+◌, ◌*◌, ◌≤◌, ℕ, nat_lt, ◌==◌, ◌&&◌, if◌then◌else◌}
use Rattle.st_model.specs.Objects.{is_method}
use Rattle.st_heap.specs.declared.adding.ObjectLayout.{ObjectLayout}
use Rattle.st_heap.specs.inside.Stored.{Stored, run}

-- first the size and the class, then fields of nil, of which a Method's first is its header, and then zeros
abbrev pub new_cell : ObjectLayout → ℕ → ℕ
new_cell f i = if i == 0 then f.words else if i == 1 then f.class.0 else if nat_lt i (2 + f.fields) then (if is_method f.kind && i == 2 then 2 * f.literals + 1 else 2) else 0

abbrev pub new_stored : ObjectLayout → Stored
new_stored f = record { kind = f.kind; odd = f.odd; cells = run (new_cell f) f.words }

-- its fields are within its words, and it has not too many words and literals
pub record IsForm (f : ObjectLayout) : Type 0 where
  pub fields : 2 + f.fields ≤ f.words
  pub small : f.words ≤ 65535
  pub few : f.literals ≤ 63
