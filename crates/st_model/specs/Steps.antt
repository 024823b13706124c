-- Registers, fields, the stack, new objects and the bytes of methods, over any memory (chapters 27 and 28). The checks of a
-- step stand in the order in which it makes them: the first that fails gives the cause of death.
use Rattle.std.specs.Prelude.{ℕ, zero, suc, ◌+◌, ◌-◌, ◌==◌, List, [], ◌∷◌, Option, Some, None, Bool, true, false, ◌&&◌, slice_get, slice_set, nat_lt, nat_le, length, if◌then◌else◌, ℤ, pos, negsuc, ◌+ℤ◌, int_le}
use Rattle.st_model.specs.declared.dead.Dead.{Dead}
use Rattle.st_model.specs.declared.dead.Dead.TheVariants as dead
use Rattle.st_model.specs.declared.demand.Demand.{Demand}
use Rattle.st_model.specs.declared.kind.Kind.{Kind}
use Rattle.st_model.specs.declared.kind.Kind.TheVariants as kind
use Rattle.st_model.specs.Values.{Value, Small, Ref, integer}
use Rattle.st_model.specs.Objects.{Object, PageObject, NilObject, SmallIntegerClass, is_pointers, is_words, has_bytes, is_method, first_unit, size_of, with_field, with_units}
use Rattle.st_model.specs.Formed.{fresh_with}
use Rattle.st_model.specs.declared.device.Device.{Device}
use Rattle.st_model.specs.Surroundings.{Change, held_by, newest_of, changed_world, named_by}
use Rattle.st_model.specs.Machine.{ObjectMemory, Registers, State, Transition, Died, Went, Step, is_there, all_there, next_of, has_room, free_space, answer, die, ◌>>=◌, ◌>>◌}

-- the registers

unfoldable pub get_active : {H : Type 0} → Step H Value
get_active = record { run = λ s. Went s.registers.active s }

unfoldable pub get_home : {H : Type 0} → Step H Value
get_home = record { run = λ s. Went s.registers.home s }

unfoldable pub get_method : {H : Type 0} → Step H Value
get_method = record { run = λ s. Went s.registers.method s }

unfoldable pub get_receiver : {H : Type 0} → Step H Value
get_receiver = record { run = λ s. Went s.registers.receiver s }

unfoldable pub get_ip : {H : Type 0} → Step H ℤ
get_ip = record { run = λ s. Went s.registers.ip s }

unfoldable pub get_sp : {H : Type 0} → Step H ℕ
get_sp = record { run = λ s. Went s.registers.sp s }

unfoldable pub set_ip : {H : Type 0} → ℤ → Step H Unit
set_ip n = record { run = λ s. Went tt (record s { registers = record s.registers { ip = n } }) }

unfoldable pub set_sp : {H : Type 0} → ℕ → Step H Unit
set_sp n = record { run = λ s. Went tt (record s { registers = record s.registers { sp = n } }) }

-- the memory

-- no machine meets a name without an object; it would die of a wrong kind
unfoldable pub found : {H : Type 0} → Option Object → Step H Object
found None = die dead.Kind
found (Some o) = answer o

-- as many as the object has
abbrev pub fit_units : List ℕ → Option Object → Bool
fit_units us None = false
fit_units us (Some o) = length us == length o.units

unfoldable pub registers_set : {H : Type 0} → Registers → State H → Bool → Transition (State H) Unit
registers_set r s false = Died dead.Kind
registers_set r s true = Went tt (record s { registers = r })

-- what lies round the machine

-- what a device holds
unfoldable pub get_device : {H : Type 0} → Device → Step H Value
get_device d = record { run = λ s. Went (held_by s.world.devices d) s }

-- the newest pending signal
unfoldable pub newest_signal : {H : Type 0} → Step H (Option Value)
newest_signal = record { run = λ s. Went (newest_of s.world.devices.pending) s }

unfoldable pub count_signals : {H : Type 0} → Step H ℕ
count_signals = record { run = λ s. Went (length s.world.devices.pending) s }

-- the oldest waiting word
unfoldable pub oldest_word : {H : Type 0} → Step H (Option ℕ)
oldest_word = record { run = λ s. Went (slice_get s.world.waiting 0) s }

unfoldable pub count_words : {H : Type 0} → Step H ℕ
count_words = record { run = λ s. Went (length s.world.waiting) s }

unfoldable pub get_mouse_x : {H : Type 0} → Step H ℕ
get_mouse_x = record { run = λ s. Went s.world.mouse_x s }

unfoldable pub get_mouse_y : {H : Type 0} → Step H ℕ
get_mouse_y = record { run = λ s. Went s.world.mouse_y s }

unfoldable pub get_second_clock : {H : Type 0} → Step H ℕ
get_second_clock = record { run = λ s. Went s.world.second_clock s }

unfoldable pub get_millisecond_clock : {H : Type 0} → Step H ℕ
get_millisecond_clock = record { run = λ s. Went s.world.millisecond_clock s }

-- the millisecond at which the timer is due
unfoldable pub get_due : {H : Type 0} → Step H ℕ
get_due = record { run = λ s. Went s.world.timer_due s }

unfoldable pub world_changed : {H : Type 0} → Change → State H → Bool → Transition (State H) Unit
world_changed c s false = Died dead.Kind
world_changed c s true = Went tt (record s { world = changed_world c s.world })

-- what was found by its name, if anything was
unfoldable pub named_or_not : Option ℕ → Option Value
named_or_not None = None
named_or_not (Some n) = Some (Ref n)

-- the same SmallInteger, or the same object
abbrev pub same_value : Value → Value → Bool
same_value (Small a) (Small b) = a == b
same_value (Ref a) (Ref b) = a == b
same_value v w = false

-- conditions, and of what a step dies where they do not hold

unfoldable pub or_die : {H A : Type 0} → Dead → Option A → Step H A
or_die cause None = die cause
or_die cause (Some a) = answer a

unfoldable pub check : {H : Type 0} → Dead → Bool → Step H Unit
check cause true = answer tt
check cause false = die cause

-- the integer that a field must hold
unfoldable pub integer_or_die : {H : Type 0} → Value → Step H ℤ
integer_or_die (Small n) = answer (integer n)
integer_or_die (Ref n) = die dead.NotSmall

-- pops n words that were looked at, of which none is below the stack
unfoldable pub drop_words : {H : Type 0} → ℕ → Step H Unit
drop_words n = do
  sp ← get_sp
  check dead.Sp (nat_le (5 + n) sp)
  set_sp (sp - n)

-- The byte at this place, counted from 0 over header and literals too. There is none before the first bytecode.
abbrev pub code_byte : Object → ℤ → Option ℕ
code_byte o (pos i) = if nat_lt i (first_unit o) then None else if nat_lt 16381 i then None else slice_get o.units (i - first_unit o)
code_byte o (negsuc i) = None

-- d bytes on, to a place from 0 to 16382
unfoldable pub jump : {H : Type 0} → ℤ → Step H Unit
jump d = do
  ip ← get_ip
  check dead.Ip (int_le (pos 0) (ip +ℤ d))
  check dead.Ip (int_le (ip +ℤ d) (pos 16382))
  set_ip (ip +ℤ d)

module _ {H : Type 0} (m : ObjectMemory H) where
  unfoldable pub object_named : ℕ → Step H Object
  unfolding found
  object_named n = record { run = λ s. (found (m.read s.memory n)).run s }

  unfoldable pub object : Value → Step H Object
  object (Small n) = die dead.Small
  object (Ref n) = object_named n

  -- What a step keeps is there: a value that is stored, a class, a register. No machine meets another; it would die of a
  -- wrong kind.

  unfoldable pub stored_at : ℕ → ℕ → Value → State H → Option Object → Bool → Transition (State H) Unit
  stored_at n i x s None known = Died dead.Kind
  stored_at n i x s (Some o) false = Died dead.Kind
  stored_at n i x s (Some o) true = Went tt (record s { memory = m.replace s.memory n (with_field o i x) })

  unfoldable pub store_at : ℕ → ℕ → Value → Step H Unit
  store_at n i x = record { run = λ s. stored_at n i x s (m.read s.memory n) (is_there m s.memory x) }

  -- the object with x in field i takes its place
  unfoldable pub set_field : Value → ℕ → Value → Step H Unit
  set_field (Small n) i x = die dead.Small
  set_field (Ref n) i x = store_at n i x

  unfoldable pub exchanged_there : ℕ → ℕ → State H → Bool → Transition (State H) Unit
  exchanged_there a b s false = Died dead.Kind
  exchanged_there a b s true = Went tt (record s { memory = m.exchange s.memory a b })

  unfoldable pub exchange_named : ℕ → ℕ → Step H Unit
  exchange_named a b = record { run = λ s. exchanged_there a b s (is_there m s.memory (Ref a) && is_there m s.memory (Ref b)) }

  -- what the two objects are, class and body, is exchanged: each name then has what the other one had
  unfoldable pub exchange : Value → Value → Step H Unit
  exchange (Ref a) (Ref b) = exchange_named a b
  exchange v w = die dead.Small

  unfoldable pub units_set : ℕ → List ℕ → State H → Option Object → Bool → Transition (State H) Unit
  units_set n us s None fit = Died dead.Kind
  units_set n us s (Some o) false = Died dead.Field
  units_set n us s (Some o) true = Went tt (record s { memory = m.replace s.memory n (with_units o us) })

  unfoldable pub set_units_at : ℕ → List ℕ → Step H Unit
  set_units_at n us = record { run = λ s. units_set n us s (m.read s.memory n) (fit_units us (m.read s.memory n)) }

  -- the object with these words or bytes takes its place; they are as many as it has
  unfoldable pub set_units : Value → List ℕ → Step H Unit
  set_units (Small n) us = die dead.Small
  set_units (Ref n) us = set_units_at n us

  -- a new object of a class, whose fields are nil
  abbrev pub new_of : H → ℕ → Kind → ℕ → ℕ → Object
  new_of h class k size literals = fresh_with (Ref (m.named h NilObject)) class k size literals

  unfoldable pub made : Object → State H → Bool → Bool → Transition (State H) Value
  made o s false room = Died dead.Kind
  made o s true true = Went (Ref (m.next s.memory)) (record s { memory = m.append s.memory o })
  made o s true false = Went (Ref (m.named s.memory NilObject)) s

  unfoldable pub make_named : ℕ → Kind → ℕ → ℕ → Step H Value
  make_named class k size literals = record {
    run = λ s.
        made (new_of s.memory class k size literals) s (is_there m s.memory (Ref class)) (has_room m s.head s.memory (new_of s.memory class k size literals));
  }

  -- One object more, of this class, kind, size and number of literals. A bounded memory makes none where there is no room
  -- for it, and answers nil.
  unfoldable pub make : Value → Kind → ℕ → ℕ → Step H Value
  make (Small n) k size literals = die dead.Small
  make (Ref class) k size literals = make_named class k size literals

  -- a new object of kind Pointers, with n fields of nil
  unfoldable pub new_object : Value → ℕ → Step H Value
  new_object class n = make class kind.Pointers n 0

  abbrev pub are_there : H → Registers → Bool
  are_there h r = is_there m h r.active && (is_there m h r.home && (is_there m h r.method && is_there m h r.receiver))

  unfoldable pub set_registers : Registers → Step H Unit
  set_registers r = record { run = λ s. registers_set r s (are_there s.memory r) }

  -- the change is made; what it names is there, as what the registers name is
  unfoldable pub change_world : Change → Step H Unit
  change_world c = record { run = λ s. world_changed c s (all_there m s.memory (named_by c)) }

  -- the entries and words that are free
  unfoldable pub get_free : Step H Demand
  get_free = record { run = λ s. Went (free_space m s) s }

  -- pointers; they are halved

  -- the kept object that bears a pointer
  unfoldable pub object_at : ℕ → Step H (Option Value)
  object_at k = record { run = λ s. Went (named_or_not (m.borne_by s.memory k)) s }

  -- the instance of the class that bears the least pointer above this one
  unfoldable pub next_instance : Value → ℕ → Step H (Option Value)
  next_instance (Small n) after = answer None
  next_instance (Ref class) after = record { run = λ s. Went (named_or_not (next_of m s.memory class after)) s }

  -- an object of the page
  unfoldable pub of_page : PageObject → Step H Value
  of_page q = record { run = λ s. Went (Ref (m.named s.memory q)) s }

  unfoldable pub class_of : Value → Step H Value
  class_of (Small n) = of_page SmallIntegerClass
  class_of (Ref n) = object_named n >>= (λ o. answer (Ref o.class))

  -- the kind of an object
  unfoldable pub fetch_kind : Value → Step H Kind
  fetch_kind v = do
    o ← object v
    answer o.kind

  -- how many fields, words or bytes it has; a Method's header and literals count as bytes
  unfoldable pub fetch_size : Value → Step H ℕ
  fetch_size v = do
    o ← object v
    answer (size_of o)

  -- fields

  -- field i of an object of kind Pointers
  unfoldable pub fetch_field : Value → ℕ → Step H Value
  fetch_field v i = do
    o ← object v
    check dead.Kind (is_pointers o.kind)
    or_die dead.Field (slice_get o.fields i)

  -- x into field i of an object of kind Pointers
  unfoldable pub store_field : Value → ℕ → Value → Step H Unit
  store_field v i x = do
    o ← object v
    check dead.Kind (is_pointers o.kind)
    check dead.Field (nat_lt i (length o.fields))
    set_field v i x

  unfoldable pub fetch_integer : Value → ℕ → Step H ℤ
  fetch_integer v i = fetch_field v i >>= integer_or_die

  -- how many fields an object of kind Pointers has
  unfoldable pub count_fields : Value → Step H ℕ
  count_fields v = do
    o ← object v
    check dead.Kind (is_pointers o.kind)
    answer (length o.fields)

  -- n fields from one on, in their order
  unfoldable pub fetch_fields : Value → ℕ → ℕ → Step H (List Value)
  fetch_fields v from zero = answer []
  fetch_fields v from (suc n) = do
    x ← fetch_field v from
    xs ← fetch_fields v (suc from) n
    answer (x ∷ xs)

  -- these into the fields from one on
  unfoldable pub store_fields : Value → ℕ → List Value → Step H Unit
  store_fields v to [] = answer tt
  store_fields v to (x ∷ xs) = store_field v to x >> store_fields v (suc to) xs

  -- n fields of one object are stored into fields of another, once all of them are fetched
  unfoldable pub transfer : ℕ → Value → ℕ → Value → ℕ → Step H Unit
  transfer n source from target to = fetch_fields source from n >>= store_fields target to

  -- words and bytes

  -- Word i of an object of kind Words. Whoever stores a word or a byte sees to it that it is below 65536 or 256.
  unfoldable pub fetch_word : Value → ℕ → Step H ℕ
  fetch_word v i = do
    o ← object v
    check dead.Kind (is_words o.kind)
    or_die dead.Field (slice_get o.units i)

  unfoldable pub store_word : Value → ℕ → ℕ → Step H Unit
  store_word v i x = do
    o ← object v
    check dead.Kind (is_words o.kind)
    check dead.Field (nat_lt i (length o.units))
    set_units v (slice_set o.units i x)

  -- byte i of an object of kind Bytes or Method; a method's header and literals count, but aren't read or stored so
  unfoldable pub fetch_byte : Value → ℕ → Step H ℕ
  fetch_byte v i = do
    o ← object v
    check dead.Kind (has_bytes o.kind)
    check dead.Field (nat_le (first_unit o) i)
    or_die dead.Field (slice_get o.units (i - first_unit o))

  unfoldable pub store_byte : Value → ℕ → ℕ → Step H Unit
  store_byte v i x = do
    o ← object v
    check dead.Kind (has_bytes o.kind)
    check dead.Field (nat_le (first_unit o) i)
    check dead.Field (nat_lt (i - first_unit o) (length o.units))
    set_units v (slice_set o.units (i - first_unit o) x)

  -- n bytes from one on, in their order
  unfoldable pub fetch_bytes : Value → ℕ → ℕ → Step H (List ℕ)
  fetch_bytes v from zero = answer []
  fetch_bytes v from (suc n) = do
    b ← fetch_byte v from
    bs ← fetch_bytes v (suc from) n
    answer (b ∷ bs)

  -- these into the bytes from one on
  unfoldable pub store_bytes : Value → ℕ → List ℕ → Step H Unit
  store_bytes v to [] = answer tt
  store_bytes v to (b ∷ bs) = store_byte v to b >> store_bytes v (suc to) bs

  -- the stack

  -- x into the field of a context, where that is a place of its stack: within its fields, and at most 16388
  unfoldable pub put : Value → ℕ → Value → Step H Unit
  put c at x = do
    n ← count_fields c
    check dead.Sp (nat_lt at n)
    check dead.Sp (nat_le at 16388)
    store_field c at x

  -- x above the top of the active context's stack
  unfoldable pub push : Value → Step H Unit
  push x = do
    c ← get_active
    sp ← get_sp
    put c (sp + 1) x
    set_sp (sp + 1)

  -- the word at the top; the stack begins with field 6
  unfoldable pub top : Step H Value
  top = do
    sp ← get_sp
    check dead.Sp (nat_lt 5 sp)
    c ← get_active
    fetch_field c sp

  -- the word k words below the top
  unfoldable pub under : ℕ → Step H Value
  under k = do
    sp ← get_sp
    check dead.Sp (nat_lt (5 + k) sp)
    c ← get_active
    fetch_field c (sp - k)

  -- The top word and the n below it are there. Where the lowest and the highest are, so are those between them.
  unfoldable pub look_at_words : ℕ → Step H Unit
  look_at_words n = do
    lowest ← under n
    highest ← top
    answer tt

  -- the word at the top, which stays in its field
  unfoldable pub pop : Step H Value
  pop = do
    v ← top
    sp ← get_sp
    set_sp (sp - 1)
    answer v

  -- methods

  -- literal i, counted from 0; the header stands before it
  unfoldable pub literal : Value → ℕ → Step H Value
  literal v i = do
    o ← object v
    check dead.Kind (is_method o.kind)
    or_die dead.Field (slice_get o.fields (i + 1))

  -- field i of a method: its header, or literal i - 1
  unfoldable pub fetch_method_field : Value → ℕ → Step H Value
  fetch_method_field v i = do
    o ← object v
    check dead.Kind (is_method o.kind)
    or_die dead.Field (slice_get o.fields i)

  -- x into it; whoever stores a header sees to it that it counts as many literals as the one before
  unfoldable pub store_method_field : Value → ℕ → Value → Step H Unit
  store_method_field v i x = do
    o ← object v
    check dead.Kind (is_method o.kind)
    check dead.Field (nat_lt i (length o.fields))
    set_field v i x

  -- byte ip of a method, where that is one of its bytecodes and at most 16381
  unfoldable pub byte_at : Value → ℤ → Step H ℕ
  byte_at v ip = do
    o ← object v
    check dead.Kind (is_method o.kind)
    or_die dead.Ip (code_byte o ip)

  -- the byte at the instruction pointer, which moves on
  unfoldable pub next_byte : Step H ℕ
  next_byte = do
    v ← get_method
    ip ← get_ip
    b ← byte_at v ip
    set_ip (ip +ℤ pos 1)
    answer b
