-- The machine over any object memory, as steps that change a state or die.
use Rattle.std.specs.Prelude.{ℕ, zero, suc, ◌+◌, ◌-◌, ◌==◌, ℤ, List, [], ◌∷◌, ◌++◌, Option, Some, None, Bool, true, false, ◌&&◌, is_some, nat_lt, nat_le, if◌then◌else◌}
use Rattle.st_model.specs.declared.dead.Dead.{Dead}
use Rattle.st_model.specs.declared.demand.Demand.{Demand}
use Rattle.st_model.specs.Values.{Value, Small, Ref}
use Rattle.st_model.specs.Objects.{Object, PageObject, one, words_of}

-- what a machine asks of the memory that keeps its objects under names (chapter 30)
pub record ObjectMemory (H : Type 0) : Type 0 where
  -- the object of this name
  pub read : H → ℕ → Option Object
  -- this object in its place
  pub replace : H → ℕ → Object → H
  -- what these two names name, exchanged
  pub exchange : H → ℕ → ℕ → H
  -- one object more, under the name next
  pub append : H → Object → H
  pub next : H → ℕ
  -- a number above all names of kept objects
  pub size : H → ℕ
  -- is an object of this name kept
  pub kept : H → ℕ → Bool
  -- of the kept objects only those of which the test holds
  pub settled : H → (ℕ → Bool) → H
  -- the name of an object of the root page
  pub named : H → PageObject → ℕ
  -- half of the pointer that the object of this name bears
  pub pointer : H → ℕ → ℕ
  -- the name of the kept object that bears the pointer of which this is half
  pub borne_by : H → ℕ → Option ℕ
  -- a number summed over the kept objects
  pub total : (Object → ℕ) → H → ℕ
  -- whether it makes an object only where the capacities have room for it
  pub bounded : Bool

-- The registers of the interpreter (chapter 27). ip is the number, from 0, of the next byte of the
-- method; sp that of the active context's field that holds the top of the stack.
pub record Registers : Type 0 where
  pub active : Value
  pub home : Value
  pub method : Value
  pub receiver : Value
  pub ip : ℤ
  pub sp : ℕ

-- the objects that are held besides the registers; nil where there is none
pub record Devices : Type 0 where
  pub new_process : Value
  pub display : Value
  pub cursor : Value
  pub input_semaphore : Value
  pub timer : Value
  pub low_space : Value
  -- the semaphores whose signals are pending, oldest first
  pub pending : List Value

-- what lies round the machine
pub record World : Type 0 where
  pub devices : Devices
  -- the input words that wait, oldest first
  pub waiting : List ℕ
  pub mouse_x : ℕ
  pub mouse_y : ℕ
  pub second_clock : ℕ
  pub millisecond_clock : ℕ
  -- the millisecond at which the timer is due
  pub timer_due : ℕ
  -- the free entries and words below which the low-space semaphore is signalled
  pub low_entries : ℕ
  pub low_words : ℕ

-- what an image's head says: the capacities, and the global table and the symbol table, where there are any
pub record Head : Type 0 where
  pub entries : ℕ
  pub words : ℕ
  pub globals : Option Value
  pub symbols : Option Value

pub record State (H : Type 0) : Type 0 where
  pub memory : H
  pub registers : Registers
  pub world : World
  pub head : Head

abbrev pub is_of_class : ℕ → Option Object → Bool
is_of_class class None = false
is_of_class class (Some o) = o.class == class

-- so much is more than the capacities
abbrev pub is_over : Demand → Head → Bool
is_over d a = if nat_lt a.entries d.entries then true else nat_lt a.words d.words

-- entries and words without others
abbrev pub less : Demand → Demand → Demand
less d e = record { entries = d.entries - e.entries; words = d.words - e.words }

abbrev pub capacity_of : Head → Demand
capacity_of a = record { entries = a.entries; words = a.words }

abbrev pub table_root : Option Value → List Value
table_root None = []
table_root (Some v) = v ∷ []

abbrev pub device_roots : Devices → List Value
device_roots d = d.new_process ∷ d.display ∷ d.cursor ∷ d.input_semaphore ∷ d.timer ∷ d.low_space ∷ d.pending

abbrev pub head_roots : Head → List Value
head_roots a = table_root a.globals ++ table_root a.symbols

-- the roots besides the page
abbrev pub roots_of : {H : Type 0} → State H → List Value
roots_of s = s.registers.active ∷ s.registers.home ∷ s.registers.method ∷ s.registers.receiver ∷ (head_roots s.head ++ device_roots s.world.devices)

-- no word waits, no signal is pending, nothing is held, and clocks and mouse are at 0
abbrev pub empty_world : Value → World
empty_world nil = record {
  devices = record { new_process = nil; display = nil; cursor = nil; input_semaphore = nil; timer = nil; low_space = nil; pending = [] };
  waiting = [];
  mouse_x = 0;
  mouse_y = 0;
  second_clock = 0;
  millisecond_clock = 0;
  timer_due = 0;
  low_entries = 0;
  low_words = 0;
}

-- what a step makes of a state: it dies of a cause, or answers and leaves a state
pub data Transition (S A : Type 0) : Type 0 where
  Died : Dead → Transition S A
  Went : A → S → Transition S A

-- a step that answers an A
pub record Step (H A : Type 0) : Type 0 where
  pub run : State H → Transition (State H) A

unfoldable pub answer : {H A : Type 0} → A → Step H A
answer a = record { run = λ s. Went a s }

unfoldable pub die : {H A : Type 0} → Dead → Step H A
die cause = record { run = λ s. Died cause }

unfoldable pub after : {S A B : Type 0} → Transition S A → (A → S → Transition S B) → Transition S B
after (Died cause) f = Died cause
after (Went a s) f = f a s

-- one step, and then the one that its answer gives
infixl 20 ◌>>=◌
unfoldable pub ◌>>=◌ : {H A B : Type 0} → Step H A → (A → Step H B) → Step H B
unfolding after
m >>= f = record { run = λ s. after (m.run s) (λ a t. (f a).run t) }

-- one step, and then another
infixl 20 ◌>>◌
unfoldable pub ◌>>◌ : {H A B : Type 0} → Step H A → Step H B → Step H B
unfolding ◌>>=◌
m >> n = m >>= (λ a. n)

abbrev pub or_left : {S A : Type 0} → S → Transition S A → Transition S (Option A)
or_left s (Died cause) = Went None s
or_left s (Went a t) = Went (Some a) t

-- A step that is only tried: where it would die it answers none, and leaves the state as it was.
unfoldable pub tried : {H A : Type 0} → Step H A → Step H (Option A)
tried m = record { run = λ s. or_left s (m.run s) }

module _ {H : Type 0} (m : ObjectMemory H) where
  -- a SmallInteger of 15 bits, or a name of an object that is there; no machine meets another value
  abbrev pub is_there : H → Value → Bool
  is_there h (Small n) = nat_lt n 32768
  is_there h (Ref n) = is_some (m.read h n)

  -- all of these are there
  abbrev pub all_there : H → List Value → Bool
  all_there h [] = true
  all_there h (v ∷ vs) = is_there h v && all_there h vs

  -- a name was found, of an instance of the class
  abbrev pub names_instance : H → ℕ → Option ℕ → Bool
  names_instance h class None = false
  names_instance h class (Some n) = is_of_class class (m.read h n)

  -- of so many halved pointers from one on, the first that an instance of the class bears: the name of that instance
  unfoldable pub first_instance : H → ℕ → ℕ → ℕ → Option ℕ
  first_instance h class k zero = None
  first_instance h class k (suc left) =
      if names_instance h class (m.borne_by h k) then m.borne_by h k else first_instance h class (suc k) left

  -- Of the kept instances of a class that bear pointers above this one, the one with the least. Pointers are halved; those up to
  -- 65534 are looked at.
  unfoldable pub next_of : H → ℕ → ℕ → Option ℕ
  next_of h class after = first_instance h class (suc after) (32767 - after)

  -- the entries and the words of the kept objects
  abbrev pub used : H → Demand
  used h = record { entries = m.total one h; words = m.total words_of h }

  -- what the capacities leave free
  abbrev pub free_space : State H → Demand
  free_space s = less (capacity_of s.head) (used s.memory)

  -- one object more may be made: always, but for a memory that is bounded
  abbrev pub has_room : Head → H → Object → Bool
  has_room a h o =
      if m.bounded then nat_le (m.total one h + 1) a.entries && nat_le (m.total words_of h + words_of o) a.words else true
