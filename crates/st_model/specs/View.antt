-- What a memory of the code contains, and what it says of itself at all times.
use Rattle.std.specs.Prelude.{◌≡◌, ℕ, ◌+◌, ◌==◌, ◌<◌, ◌≤◌, replicate, Bool, true, false, List, [], ◌∷◌, ◌++◌, length, is_some, slice_set, slice_index_or, unwrap_or, Option, Some, None, if◌then◌else◌, ⊤, nat_le, ◌&&◌, suc, zero, get_or}
use Rattle.st_model.specs.declared.dead.Dead.{Dead}
use Rattle.st_model.specs.declared.dead.Dead.TheVariants as dead
use Rattle.st_model.specs.declared.place.RootPlace.{RootPlace}
use Rattle.st_model.specs.declared.place.RootPlace.TheVariants as place
use Rattle.st_model.specs.declared.kind.Kind.TheVariants as kind
use Rattle.st_model.specs.declared.oop.Oop.{Oop}
use Rattle.st_model.specs.declared.demand.Demand.{Demand}
use Rattle.st_model.specs.Values.{Value, Small, Ref, value_of, is_small}
use Rattle.st_model.specs.Objects.{Object, PageObject, nil, place_of, one, with_field, object_with_unit, words_of, IsLiveObject, is_pointers}
use Rattle.st_model.specs.Formed.{IsFormed}
use Rattle.st_model.specs.Limits.{most_words}
use Rattle.st_model.specs.Machine.{Devices, Head, head_roots, device_roots}
use Rattle.st_model.specs.Table.{Table, table, entry, changed, exchanged, total_used}
use Rattle.st_model.specs.Settled.{IsSettled}
use Rattle.st_model.specs.Show.{IsUsed}

-- what is held outside the objects, at the places of the registers and the devices
pub record Held : Type 0 where
  pub active : Value
  pub home : Value
  pub method : Value
  pub receiver : Value
  pub devices : Devices

-- the objects, by halved pointers; what is held; and the capacities with the two tables of names
pub record View : Type 0 where
  pub objects : Table
  pub held : Held
  pub head : Head

abbrev pub nothing : Object
nothing = record { class = 1; kind = kind.Pointers; fields = []; units = [] }

-- an object of this name is in the table
unfoldable pub is_live : Table → Value → Bool
is_live t (Small n) = false
is_live t (Ref n) = is_some (entry t n)

-- the object of a live value
unfoldable pub object_of : Table → Value → Object
object_of t (Small n) = nothing
object_of t (Ref n) = unwrap_or (entry t n) nothing

-- a SmallInteger, or live
abbrev pub IsKnown : Table → Value → Type 0
IsKnown t v = is_small v ≡ false → is_live t v ≡ true

-- the table with o at a name
unfoldable pub with_object : Table → Value → Object → Table
with_object t (Small n) o = t
with_object t (Ref n) o = slice_set t n (Some o)

-- the table with x in field i of the object
unfoldable pub with_stored : Table → Value → ℕ → Value → Table
with_stored t (Small n) i x = t
with_stored t (Ref n) i x = changed t n (with_field (object_of t (Ref n)) i x)

-- the table in which two live values have exchanged their objects
unfoldable pub with_exchanged : Table → Value → Value → Table
with_exchanged t (Small a) y = t
with_exchanged t (Ref a) (Small b) = t
with_exchanged t (Ref a) (Ref b) = exchanged t a b

-- the second value is that of a live object whose class is the first
unfoldable pub is_instance : Table → Value → Value → Bool
is_instance t (Small c) v = false
is_instance t (Ref c) v = is_live t v && ((object_of t v).class == c)

-- the table with these in the object's fields from one on
unfoldable pub with_fields : Table → Value → ℕ → List Value → Table
with_fields t v i [] = t
with_fields t v i (x ∷ xs) = with_fields (with_stored t v i x) v (suc i) xs

-- what stands in field i of an object; nil where it has none
unfoldable pub field_of : Table → Value → ℕ → Value
field_of t v i = get_or (object_of t v).fields i nil

-- n fields of an object from one on
unfoldable pub fields_from : Table → Value → ℕ → ℕ → List Value
fields_from t v i zero = []
fields_from t v i (suc n) = field_of t v i ∷ fields_from t v (suc i) n

-- a live object of kind Pointers has n fields from one on
pub record Has (t : Table) (v : Value) (from n : ℕ) : Type 0 where
  pub live : is_live t v ≡ true
  pub kind : is_pointers (object_of t v).kind ≡ true
  pub fields : from + n ≤ length (object_of t v).fields

-- why there aren't, and of what a step dies then
pub data Lacks (t : Table) (v : Value) (from n : ℕ) : Dead → Type 0 where
  SmallInteger : is_small v ≡ true → Lacks t v from n dead.Small
  Gone : is_small v ≡ false → is_live t v ≡ false → Lacks t v from n dead.Kind
  OtherKind : is_live t v ≡ true → is_pointers (object_of t v).kind ≡ false → Lacks t v from n dead.Kind
  TooFew : is_live t v ≡ true → is_pointers (object_of t v).kind ≡ true → length (object_of t v).fields < from + n → Lacks t v from n dead.Field

-- nil at every place of the devices, of which so many are for pending signals
abbrev pub idle_devices : ℕ → Devices
idle_devices n = record { new_process = nil; display = nil; cursor = nil; input_semaphore = nil; timer = nil; low_space = nil; pending = replicate n nil }

unfoldable pub no_devices : Devices
no_devices = idle_devices 4096

-- nil at every place
unfoldable pub nothing_held : Held
nothing_held = record { active = nil; home = nil; method = nil; receiver = nil; devices = no_devices }

-- no objects, under a head
unfoldable pub empty_view : Head → View
empty_view head = record { objects = replicate 32768 None; held = nothing_held; head = head }

-- the table that a pointer of the head gives; 0 is none
abbrev pub table_of : ℕ → Option Value
table_of w = if w == 0 then None else Some (value_of w)

-- the head of an image or a memory: its capacities, and the pointers of the two tables of names
abbrev pub head_of : Demand → Oop → Oop → Head
head_of capacity globals symbols = record { entries = capacity.entries; words = capacity.words; globals = table_of globals.0; symbols = table_of symbols.0 }

-- the table with word or byte i of the object changed
unfoldable pub with_unit : Table → Value → ℕ → ℕ → Table
with_unit t (Small n) i x = t
with_unit t (Ref n) i x = changed t n (object_with_unit (object_of t (Ref n)) i x)

abbrev pub held_at : Held → RootPlace → Value
held_at h place.Active = h.active
held_at h place.Home = h.home
held_at h place.Method = h.method
held_at h place.Receiver = h.receiver
held_at h place.NewProcess = h.devices.new_process
held_at h place.Display = h.devices.display
held_at h place.Cursor = h.devices.cursor
held_at h place.InputSemaphore = h.devices.input_semaphore
held_at h place.Timer = h.devices.timer
held_at h place.LowSpace = h.devices.low_space
held_at h (place.Pending k) = slice_index_or h.devices.pending k nil

abbrev pub with_held : Held → RootPlace → Value → Held
with_held h place.Active x = record h { active = x }
with_held h place.Home x = record h { home = x }
with_held h place.Method x = record h { method = x }
with_held h place.Receiver x = record h { receiver = x }
with_held h place.NewProcess x = record h { devices = record h.devices { new_process = x } }
with_held h place.Display x = record h { devices = record h.devices { display = x } }
with_held h place.Cursor x = record h { devices = record h.devices { cursor = x } }
with_held h place.InputSemaphore x = record h { devices = record h.devices { input_semaphore = x } }
with_held h place.Timer x = record h { devices = record h.devices { timer = x } }
with_held h place.LowSpace x = record h { devices = record h.devices { low_space = x } }
with_held h (place.Pending k) x = record h { devices = record h.devices { pending = slice_set h.devices.pending k x } }

-- the roots besides the page
abbrev pub view_roots : View → List Value
view_roots v = v.held.active ∷ v.held.home ∷ v.held.method ∷ v.held.receiver ∷ (head_roots v.head ++ device_roots v.held.devices)

-- the objects refer to nothing but what is there, and the root page and the tables of names are there
pub record IsComplete (v : View) : Type 0 where
  pub objects : (k : ℕ) (o : Object) → entry v.objects k ≡ Some o → IsLiveObject (IsUsed v.objects) o
  pub page : (q : PageObject) → is_live v.objects (Ref (place_of q)) ≡ true
  pub globals : (x : Value) → v.head.globals ≡ Some x → is_live v.objects x ≡ true
  pub symbols : (x : Value) → v.head.symbols ≡ Some x → is_live v.objects x ≡ true

-- What a memory says of itself at all times: what stands in an object or is held is a SmallInteger or live, each object
-- is what its kind says, and all is within the capacities. Place 0 of the table is never used.
pub record IsWhole (v : View) : Type 0 where
  pub places : length v.objects ≡ 32768
  pub unused : entry v.objects 0 ≡ None
  pub complete : IsComplete v
  pub formed : (k : ℕ) (o : Object) → entry v.objects k ≡ Some o → IsFormed o
  pub held : (p : RootPlace) → IsKnown v.objects (held_at v.held p)
  pub pending : length v.held.devices.pending ≡ 4096
  pub entries : total_used one v.objects ≤ v.head.entries
  pub words : total_used words_of v.objects ≤ v.head.words
  pub most_entries : v.head.entries ≤ 32767
  pub most_words : v.head.words ≤ most_words

-- w is v with nothing kept but the largest set that supports itself
pub record SettlesTo (v w : View) : Type 0 where
  pub set : ℕ → Bool
  pub is_settled : IsSettled table v.objects (view_roots v) set
  pub objects : w.objects ≡ table.settled v.objects set
  pub held : w.held ≡ v.held
  pub head : w.head ≡ v.head

-- a place that there is: 4096 signals can be pending
abbrev pub IsPlace : RootPlace → Type 0
IsPlace place.Active = ⊤
IsPlace place.Home = ⊤
IsPlace place.Method = ⊤
IsPlace place.Receiver = ⊤
IsPlace place.NewProcess = ⊤
IsPlace place.Display = ⊤
IsPlace place.Cursor = ⊤
IsPlace place.InputSemaphore = ⊤
IsPlace place.Timer = ⊤
IsPlace place.LowSpace = ⊤
IsPlace (place.Pending k) = k < 4096

-- what an object takes of the capacities
abbrev pub demand_of : Object → Demand
demand_of o = record { entries = 1; words = words_of o }

-- so many entries and words fit beside those of the kept objects, wherever in a memory what is free may lie
abbrev pub fits : View → Demand → Bool
fits v d = nat_le (total_used one v.objects + d.entries) v.head.entries && nat_le (total_used words_of v.objects + d.words) v.head.words
