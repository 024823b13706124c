-- What a primitive leaves to be done: a change of an object's words or bytes, or of a Method's header or literals, in the table;
-- or one of what lies round the machine.
use Rattle.std.specs.Prelude.{ℕ, suc, ◌+◌, ◌-◌, ◌==◌, List, [], ◌∷◌, Option, Some, None, Bool, true, false, ◌&&◌, nat_lt, nat_le, if◌then◌else◌, slice_get, take, drop, length, pos}
use Rattle.st_model.specs.declared.deed.Deed.{Deed}
use Rattle.st_model.specs.declared.deed.Deed.TheVariants.{Nothing, StoreWord, StoreByte, StoreNumber, ReplaceBytes, StoreHeader, StoreLiteral, StoreTime, Hold, SetTimer, RingTimer, SetLowSpace, MoveMouse, CopyBits, TakeWord}
use Rattle.st_model.specs.Values.{Value, Small, Ref, word}
use Rattle.st_model.specs.Objects.{Object, nil, is_words, is_bytes, is_method, has_bytes, first_unit, with_field, object_with_unit}
use Rattle.st_model.specs.declared.device.Device.TheVariants as device
use Rattle.st_model.specs.Surroundings.{Change, changed_world}
use Rattle.st_model.specs.Surroundings as surroundings
use Rattle.st_model.specs.Input.{four_bytes}
use Rattle.st_model.specs.Machine.{State, World, Transition, Died, Went, Step, is_there, empty_world}
use Rattle.st_model.specs.Table.{Table, table, entry, changed}
use Rattle.st_model.specs.Primitives.{bytes_of_number}
use Rattle.st_model.specs.Methods.{literal_count}
use Rattle.st_model.specs.BitBlt.{copy_bits}

abbrev pub changed_object : (Object → Object) → Table → ℕ → Option Object → Table
changed_object f t n None = t
changed_object f t n (Some o) = changed t n (f o)

-- the table in which a change is made of the object of this value
abbrev pub changed_by : (Object → Object) → Table → Value → Table
changed_by f t (Small n) = t
changed_by f t (Ref n) = changed_object f t n (entry t n)

abbrev pub word_stored : ℕ → ℕ → Object → Object
word_stored i x o = if is_words o.kind then object_with_unit o i x else o

-- places count a Method's header and literals
abbrev pub byte_stored : ℕ → ℕ → Object → Object
byte_stored i x o = if has_bytes o.kind && nat_le (first_unit o) i then object_with_unit o (i - first_unit o) x else o

-- bytes from a place on
abbrev pub bytes_stored : ℕ → List ℕ → Object → Object
bytes_stored i [] o = o
bytes_stored i (b ∷ bs) o = bytes_stored (suc i) bs (byte_stored i b o)

-- the same in an object of kind Bytes alone
abbrev pub bytes_replaced : ℕ → List ℕ → Object → Object
bytes_replaced i bs o = if is_bytes o.kind then bytes_stored i bs o else o

abbrev pub bytes_of_object : ℕ → ℕ → Option Object → List ℕ
bytes_of_object i n None = []
bytes_of_object i n (Some o) = if is_bytes o.kind then take n (drop (i - first_unit o) o.units) else []

-- n bytes of the object of this value from a place on, or as many as there are, where it is of kind Bytes
abbrev pub bytes_from : Table → Value → ℕ → ℕ → List ℕ
bytes_from t (Small k) i n = []
bytes_from t (Ref k) i n = bytes_of_object i n (entry t k)

-- a SmallInteger of 15 bits counts as many literals as the header before it
abbrev pub counts_literals : Value → Option Value → Bool
counts_literals (Small n) (Some h) = nat_lt n 32768 && (literal_count (Small n) == literal_count h)
counts_literals (Small n) None = false
counts_literals (Ref n) h = false

abbrev pub header_stored : Value → Object → Object
header_stored x o = if is_method o.kind && counts_literals x (slice_get o.fields 0) then with_field o 0 x else o

abbrev pub literal_stored : ℕ → Value → Bool → Object → Object
literal_stored i x known o = if is_method o.kind && known then with_field o (i + 1) x else o

-- a state of which a step looks at the table alone
abbrev pub over_table : Table → State Table
over_table t = record {
  memory = t;
  registers = record { active = nil; home = nil; method = nil; receiver = nil; ip = pos 0; sp = 0 };
  world = empty_world nil;
  head = record { entries = 0; words = 0; globals = None; symbols = None };
}

abbrev pub table_left : {A : Type 0} → Table → Transition (State Table) A → Table
table_left t (Died cause) = t
table_left t (Went a s) = s.memory

-- the table that a step leaves which looks at nothing else; where it dies, the table as it was
unfoldable pub table_after : {A : Type 0} → Step Table A → Table → Table
table_after m t = table_left t (m.run (over_table t))

-- the deed copies pixels, and so looks at fields of objects of kind Pointers; no other does
abbrev pub copies_pixels : Deed → Bool
copies_pixels Nothing = false
copies_pixels (StoreWord o i x) = false
copies_pixels (StoreByte o i x) = false
copies_pixels (StoreNumber o k) = false
copies_pixels (ReplaceBytes o c to from n) = false
copies_pixels (StoreHeader o x) = false
copies_pixels (StoreLiteral o i x) = false
copies_pixels (StoreTime o time) = false
copies_pixels (Hold d o) = false
copies_pixels (SetTimer s due) = false
copies_pixels (RingTimer s) = false
copies_pixels (SetLowSpace s entries words) = false
copies_pixels (MoveMouse x y) = false
copies_pixels (CopyBits r) = true
copies_pixels (TakeWord o k) = false

-- the table once a deed is done
abbrev pub deed_done : Deed → Table → Table
deed_done Nothing t = t
deed_done (StoreWord o i x) t = changed_by (word_stored i x) t (word o)
deed_done (StoreByte o i x) t = changed_by (byte_stored i x) t (word o)
deed_done (StoreNumber o k) t = changed_by (bytes_stored 0 (bytes_of_number k)) t (word o)
deed_done (ReplaceBytes o c to from n) t = changed_by (bytes_replaced to (bytes_from t (word c) from n)) t (word o)
deed_done (StoreHeader o x) t = changed_by (header_stored (word x)) t (word o)
deed_done (StoreLiteral o i x) t = changed_by (literal_stored i (word x) (is_there table t (word x))) t (word o)
deed_done (StoreTime o time) t = changed_by (bytes_stored 0 (four_bytes time)) t (word o)
deed_done (Hold d o) t = t
deed_done (SetTimer s due) t = t
deed_done (RingTimer s) t = t
deed_done (SetLowSpace s entries words) t = t
deed_done (MoveMouse x y) t = t
deed_done (CopyBits r) t = table_after (copy_bits table (word r)) t
deed_done (TakeWord o k) t = changed_by (bytes_stored 0 (bytes_of_number k)) t (word o)

-- two changes of the world
abbrev pub changed_twice : Change → Change → World → World
changed_twice c d w = changed_world d (changed_world c w)

-- the world once a deed is done; what isn't there is not held, and what there is no room for is not done
abbrev pub world_done : Deed → Table → World → World
world_done Nothing t w = w
world_done (StoreWord o i x) t w = w
world_done (StoreByte o i x) t w = w
world_done (StoreNumber o k) t w = w
world_done (ReplaceBytes o c to from n) t w = w
world_done (StoreHeader o x) t w = w
world_done (StoreLiteral o i x) t w = w
world_done (StoreTime o time) t w = w
world_done (Hold d o) t w = if is_there table t (word o) then changed_world (surroundings.Hold d (word o)) w else w
world_done (SetTimer s due) t w =
    if is_there table t (word s) then changed_twice (surroundings.Hold device.Timer (word s)) (surroundings.SetDue due) w else w
world_done (RingTimer s) t w =
    if is_there table t (word s) && nat_lt (length w.devices.pending) 4096 then changed_twice (surroundings.AddSignal (word s)) (surroundings.Hold device.Timer nil) w else w
world_done (SetLowSpace s entries words) t w =
    if is_there table t (word s) then changed_twice (surroundings.Hold device.LowSpace (word s)) (surroundings.SetLow entries words) w else w
world_done (MoveMouse x y) t w = if nat_le x 16383 && nat_le y 16383 then changed_world (surroundings.MoveMouse x y) w else w
world_done (CopyBits r) t w = w
world_done (TakeWord o k) t w = changed_world surroundings.TakeWord w

-- the state with a change of its table
abbrev pub over : (Table → Table) → State Table → State Table
over g s = record s { memory = g s.memory }

-- the state with a change of its table, and with one of its world that looks at the table
abbrev pub over_both : (Table → Table) → (Table → World → World) → State Table → State Table
over_both g u s = record s { memory = g s.memory; world = u s.memory s.world }

-- the state in which a deed is done besides
abbrev pub with_deed : Deed → State Table → State Table
with_deed d s = over_both (deed_done d) (world_done d) s
