-- How a table shows births: each kept object under the pointer that it bears, with references written as pointers.
-- Names of the table are halved pointers.
use Rattle.std.specs.Prelude.{◌≡◌, ℕ, [], ◌∷◌, zero, suc, Some, None, Option, true, if◌then◌else◌}
use Rattle.std.specs.Option.{option_map}
use Rattle.st_model.specs.Lists.{made}
use Rattle.st_model.specs.Values.{Value, renamed, renamed_all, AllLive}
use Rattle.st_model.specs.Objects.{Object, PageObject, place_of, renamed_object, IsLiveObject}
use Rattle.st_model.specs.Machine.{State, Registers, Devices, World, Head, roots_of}
pub use Rattle.st_model.specs.Births.{pointer_of}
use Rattle.st_model.specs.Births.{Births, object_born, borne, bears, bearer}
use Rattle.st_model.specs.Table.{Table, entry}

abbrev pub renamed_registers : (ℕ → ℕ) → Registers → Registers
renamed_registers f r = record { active = renamed f r.active; home = renamed f r.home; method = renamed f r.method; receiver = renamed f r.receiver; ip = r.ip; sp = r.sp }

abbrev pub renamed_devices : (ℕ → ℕ) → Devices → Devices
renamed_devices f d = record {
  new_process = renamed f d.new_process;
  display = renamed f d.display;
  cursor = renamed f d.cursor;
  input_semaphore = renamed f d.input_semaphore;
  timer = renamed f d.timer;
  low_space = renamed f d.low_space;
  pending = renamed_all f d.pending;
}

abbrev pub renamed_world : (ℕ → ℕ) → World → World
renamed_world f w = record w { devices = renamed_devices f w.devices }

abbrev pub renamed_option : (ℕ → ℕ) → Option Value → Option Value
renamed_option f None = None
renamed_option f (Some v) = Some (renamed f v)

abbrev pub renamed_head : (ℕ → ℕ) → Head → Head
renamed_head f a = record { entries = a.entries; words = a.words; globals = renamed_option f a.globals; symbols = renamed_option f a.symbols }

abbrev pub IsKept : Births → ℕ → Type 0
IsKept h n = (p : ℕ) × borne h n ≡ Some p

abbrev pub IsUsed : Table → ℕ → Type 0
IsUsed c k = (o : Object) × entry c k ≡ Some o

-- For example, birth 40 may bear 617, the half of pointer 1234. Then entry 617 of the table is the object of birth 40, with each birth
-- that it refers to written as what that birth bears.
pub record Shows (c : State Table) (s : State Births) : Type 0 where
  pub objects : (n p : ℕ) (o : Object) → borne s.memory n ≡ Some p → object_born s.memory n ≡ Some o
      → entry c.memory p ≡ Some (renamed_object (pointer_of s.memory) o)
  pub only : (p : ℕ) (o : Object) → entry c.memory p ≡ Some o → (n : ℕ) × borne s.memory n ≡ Some p
  pub distinct : (m n p : ℕ) → borne s.memory m ≡ Some p → borne s.memory n ≡ Some p → m ≡ n
  -- what is kept refers to what is kept
  pub closed : (n p : ℕ) (o : Object) → borne s.memory n ≡ Some p → object_born s.memory n ≡ Some o → IsLiveObject (IsKept s.memory) o
  pub page : (q : PageObject) → borne s.memory (bearer s.memory (place_of q)) ≡ Some (place_of q)
  pub roots : AllLive (IsKept s.memory) (roots_of s)
  pub registers : c.registers ≡ renamed_registers (pointer_of s.memory) s.registers
  pub world : c.world ≡ renamed_world (pointer_of s.memory) s.world
  pub head : c.head ≡ renamed_head (pointer_of s.memory) s.head

-- what stands in the table or is a root names a place in use
pub record IsClosed (c : State Table) : Type 0 where
  pub objects : (k : ℕ) (o : Object) → entry c.memory k ≡ Some o → IsLiveObject (IsUsed c.memory) o
  pub page : (q : PageObject) → IsUsed c.memory (place_of q)
  pub roots : AllLive (IsUsed c.memory) (roots_of c)

-- the object of the kept birth that bears this pointer
abbrev pub object_borne : Births → ℕ → Option Object
object_borne [] p = None
object_borne (b ∷ h) p = if bears b p then Some b.object else object_borne h p

-- a table of 32768 places: at each the object that bears its pointer, with its references written as pointers
unfoldable pub shown_table : Births → Table
shown_table h = made (λ p. option_map (renamed_object (pointer_of h)) (object_borne h p)) 32768

-- a state over other objects, with each name changed
abbrev pub renamed_state : {H K : Type 0} → (ℕ → ℕ) → K → State H → State K
renamed_state f memory s = record {
  memory = memory;
  registers = renamed_registers f s.registers;
  world = renamed_world f s.world;
  head = renamed_head f s.head;
}

-- what births show
unfoldable pub show : State Births → State Table
show s = renamed_state (pointer_of s.memory) (shown_table s.memory) s

-- the number of objects before a place
abbrev pub rank : Table → ℕ → ℕ
rank [] p = 0
rank (e ∷ t) zero = 0
rank (None ∷ t) (suc p) = rank t p
rank (Some o ∷ t) (suc p) = suc (rank t p)

-- the objects of a table from a place on, as births in rising order of pointers, all of them kept
abbrev pub births_from : (ℕ → ℕ) → ℕ → Table → Births
births_from birth p [] = []
births_from birth p (None ∷ t) = births_from birth (suc p) t
births_from birth p (Some o ∷ t) = record { object = renamed_object birth o; pointer = p; kept = true } ∷ births_from birth (suc p) t

-- the births that a state over a table begins with, where each object's birth number is its rank
unfoldable pub raised : State Table → State Births
raised c = renamed_state (rank c.memory) (births_from (rank c.memory) 0 c.memory) c
