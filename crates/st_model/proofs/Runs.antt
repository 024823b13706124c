-- What steps over the table come to.
use Rattle.std.proofs.Common.{◌≡◌, ℕ, suc, zero, ◌<◌, ◌≤◌, List, [], ◌∷◌, length, Bool, true, false, Option, Some, None, refl, ap, arith, is_some, length-set}
use Rattle.std.specs.Prelude.{ℤ, ◌-◌, ◌==◌, slice_get, slice_set, unwrap_or, nat_lt, nat_le}
use Rattle.std.proofs.lemmas.Bool.Decides.{nat_tests}
use Rattle.st_model.specs.declared.dead.Dead.{Dead}
use Rattle.st_model.specs.declared.dead.Dead.TheVariants as dead
use Rattle.st_model.specs.Values.{Value, Small, Ref, is_small}
use Rattle.st_model.specs.Objects.{PageObject, place_of, Object, with_field, with_units, first_unit, is_pointers, is_words, is_method, has_bytes}
use Rattle.st_model.specs.declared.device.Device.{Device}
use Rattle.st_model.specs.Surroundings.{Change, held_by, newest_of, changed_world, named_by}
use Rattle.st_model.specs.Machine.{ObjectMemory, Registers, State, is_there, all_there, Transition, Died, Went, Step, after, answer, die, ◌>>=◌, ◌>>◌, or_left, tried}
use Rattle.st_model.specs.Steps.{get_active, get_home, get_method, get_receiver, get_ip, get_sp, set_ip, set_sp, registers_set, set_registers, are_there, of_page, found, object_named, object, stored_at, store_at, set_field, exchanged_there, exchange_named, exchange, fit_units, units_set, set_units_at, set_units, store_word, store_byte, get_device, newest_signal, count_signals, oldest_word, get_mouse_x, get_mouse_y, get_second_clock, get_millisecond_clock, world_changed, change_world, or_die, check, fetch_field, store_field, store_method_field, integer_or_die}
use Rattle.st_model.specs.Table.{Table, table, entry, changed, exchanged}
use Rattle.st_model.specs.Values.{integer_of}
use Rattle.st_model.specs.Contexts.{home_by}
use Rattle.st_model.specs.Formed.{IsWord}
use Rattle.st_model.specs.View.{IsKnown, is_live, object_of, with_stored, with_exchanged, with_unit, nothing}
use Rattle.std.proofs.lemmas.Bool.{and_from}

pub run-then : {A B : Type 0} (m : Step Table A) (f : A → Step Table B) (s : State Table) → (m >>= f).run s ≡ after (m.run s) (λ a t. (f a).run t)
unfolding ◌>>=◌
run-then m f s = refl

pub run-next : {A B : Type 0} (m : Step Table A) (n : Step Table B) (s : State Table) → (m >> n).run s ≡ after (m.run s) (λ a t. n.run t)
unfolding ◌>>◌ ◌>>=◌
run-next m n s = refl

pub after-went : {S A B : Type 0} (a : A) (s : S) (f : A → S → Transition S B) → after (Went a s) f ≡ f a s
unfolding after
after-went a s f = refl

pub after-died : {S A B : Type 0} (k : Dead) (f : A → S → Transition S B) → after (Died k) f ≡ Died k
unfolding after
after-died k f = refl

pub run-answer : {A : Type 0} (a : A) (s : State Table) → (answer a).run s ≡ Went a s
unfolding answer
run-answer a s = refl

pub run-die : {A : Type 0} (k : Dead) (s : State Table) → (die {A = A} k).run s ≡ Died k
unfolding die
run-die k s = refl

pub run-active : (s : State Table) → get_active.run s ≡ Went s.registers.active s
unfolding get_active
run-active s = refl

pub run-home : (s : State Table) → get_home.run s ≡ Went s.registers.home s
unfolding get_home
run-home s = refl

pub run-method : (s : State Table) → get_method.run s ≡ Went s.registers.method s
unfolding get_method
run-method s = refl

pub run-receiver : (s : State Table) → get_receiver.run s ≡ Went s.registers.receiver s
unfolding get_receiver
run-receiver s = refl

pub run-ip : (s : State Table) → get_ip.run s ≡ Went s.registers.ip s
unfolding get_ip
run-ip s = refl

pub run-sp : (s : State Table) → get_sp.run s ≡ Went s.registers.sp s
unfolding get_sp
run-sp s = refl

pub run-set_ip : (n : ℤ) (s : State Table) → (set_ip n).run s ≡ Went tt (record s { registers = record s.registers { ip = n } })
unfolding set_ip
run-set_ip n s = refl

pub run-set_sp : (n : ℕ) (s : State Table) → (set_sp n).run s ≡ Went tt (record s { registers = record s.registers { sp = n } })
unfolding set_sp
run-set_sp n s = refl

set_there : (r : Registers) (s : State Table) (b : Bool) → b ≡ true → registers_set r s b ≡ Went tt (record s { registers = r })
unfolding registers_set
set_there r s true e = refl
set_there r s false e = cc

pub run-set_registers : (m : ObjectMemory Table) (r : Registers) (s : State Table) → are_there m s.memory r ≡ true
    → (set_registers m r).run s ≡ Went tt (record s { registers = r })
unfolding set_registers
run-set_registers m r s e = set_there r s (are_there m s.memory r) e

pub run-of_page : (q : PageObject) (s : State Table) → (of_page table q).run s ≡ Went (Ref (place_of q)) s
unfolding of_page
run-of_page q s = refl

pub run-passed : (k : Dead) (b : Bool) (s : State Table) → b ≡ true → (check k b).run s ≡ Went tt s
unfolding check answer
run-passed k true s e = refl
run-passed k false s e = cc

pub run-failed : (k : Dead) (b : Bool) (s : State Table) → b ≡ false → (check k b).run s ≡ Died k
unfolding check die
run-failed k true s e = cc
run-failed k false s e = refl

pub check-below : (k : Dead) (a b : ℕ) (s : State Table) → a < b → (check k (nat_lt a b)).run s ≡ Went tt s
check-below k a b s l = run-passed k (nat_lt a b) s (grind (arith, nat_tests))

pub check-not_below : (k : Dead) (a b : ℕ) (s : State Table) → b ≤ a → (check k (nat_lt a b)).run s ≡ Died k
check-not_below k a b s l = run-failed k (nat_lt a b) s (grind (arith, nat_tests))

pub check-at_most : (k : Dead) (a b : ℕ) (s : State Table) → a ≤ b → (check k (nat_le a b)).run s ≡ Went tt s
check-at_most k a b s l = run-passed k (nat_le a b) s (grind (arith, nat_tests))

pub check-above : (k : Dead) (a b : ℕ) (s : State Table) → b < a → (check k (nat_le a b)).run s ≡ Died k
check-above k a b s l = run-failed k (nat_le a b) s (grind (arith, nat_tests))

pub run-some : {A : Type 0} (k : Dead) (x : Option A) (a : A) (s : State Table) → x ≡ Some a → (or_die k x).run s ≡ Went a s
unfolding or_die answer
run-some k None a s e = cc
run-some k (Some b) a s e = let q : b ≡ a = cc in ap (λ x. Went x s) q

pub run-none : {A : Type 0} (k : Dead) (x : Option A) (s : State Table) → x ≡ None → (or_die k x).run s ≡ Died k
unfolding or_die die
run-none k None s e = refl
run-none k (Some b) s e = cc

pub run-small : (v : Value) (s : State Table) → is_small v ≡ true → (object table v).run s ≡ Died dead.Small
unfolding object die
run-small (Small n) s e = refl
run-small (Ref n) s e = cc

read_live : (x : Option Object) (s : State Table) → is_some x ≡ true → (found x).run s ≡ Went (unwrap_or x nothing) s
unfolding found answer
read_live None s e = cc
read_live (Some o) s e = refl

pub run-live : (v : Value) (s : State Table) → is_live s.memory v ≡ true → (object table v).run s ≡ Went (object_of s.memory v) s
unfolding object object_named is_live object_of
run-live (Small n) s e = cc
run-live (Ref n) s e = read_live (entry s.memory n) s e

read_gone : (x : Option Object) (s : State Table) → is_some x ≡ false → (found x).run s ≡ Died dead.Kind
unfolding found die
read_gone None s e = refl
read_gone (Some o) s e = cc

pub run-gone : (v : Value) (s : State Table) → is_small v ≡ false → is_live s.memory v ≡ false → (object table v).run s ≡ Died dead.Kind
unfolding object object_named is_live
run-gone (Small n) s small e = cc
run-gone (Ref n) s small e = read_gone (entry s.memory n) s e

stored_live : (n i : ℕ) (x : Value) (s : State Table) (a : Option Object) → is_some a ≡ true
    → stored_at table n i x s a true ≡ Went tt (record s { memory = changed s.memory n (with_field (unwrap_or a nothing) i x) })
unfolding stored_at
stored_live n i x s None e = cc
stored_live n i x s (Some o) e = refl

-- what is known is there
pub known_there : (t : Table) (v : Value) → IsKnown t v → IsWord v → is_there table t v ≡ true
unfolding is_live
known_there t (Small n) known word = grind (arith, nat_tests)
known_there t (Ref n) known word = known refl

pub run-set_field : (v : Value) (i : ℕ) (x : Value) (s : State Table) → is_live s.memory v ≡ true → is_there table s.memory x ≡ true
    → (set_field table v i x).run s ≡ Went tt (record s { memory = with_stored s.memory v i x })
unfolding set_field store_at is_live object_of with_stored
run-set_field (Small n) i x s e k = cc
run-set_field (Ref n) i x s e k = rw k (stored_live n i x s (entry s.memory n) e)

-- a field of a live object of kind Pointers is stored
pub run-store : (v : Value) (i : ℕ) (x : Value) (s : State Table) → is_live s.memory v ≡ true → is_pointers (object_of s.memory v).kind ≡ true
    → i < length (object_of s.memory v).fields → IsKnown s.memory x → IsWord x → (store_field table v i x).run s ≡ Went tt (record s { memory = with_stored s.memory v i x })
unfolding store_field
run-store v i x s live kind range known word =
    let r : nat_lt i (length (object_of s.memory v).fields) ≡ true = grind (arith, nat_tests) in
    simp (run-then, run-next, after-went, run-live v s live, run-passed dead.Kind _ s kind, run-passed dead.Field _ s r, run-set_field v i x s live (known_there s.memory x known word)) refl

-- the header or a literal of a live method is stored
pub run-store_method_field : (v : Value) (i : ℕ) (x : Value) (s : State Table) → is_live s.memory v ≡ true → is_method (object_of s.memory v).kind ≡ true
    → i < length (object_of s.memory v).fields → IsKnown s.memory x → IsWord x → (store_method_field table v i x).run s ≡ Went tt (record s { memory = with_stored s.memory v i x })
unfolding store_method_field
run-store_method_field v i x s live kind range known word =
    let r : nat_lt i (length (object_of s.memory v).fields) ≡ true = grind (arith, nat_tests) in
    simp (run-then, run-next, after-went, run-live v s live, run-passed dead.Kind _ s kind, run-passed dead.Field _ s r, run-set_field v i x s live (known_there s.memory x known word)) refl

there_exchanged : (a b : ℕ) (s : State Table) (x : Bool) → x ≡ true → exchanged_there table a b s x ≡ Went tt (record s { memory = exchanged s.memory a b })
unfolding exchanged_there
there_exchanged a b s true e = refl
there_exchanged a b s false e = cc

pub run-exchange : (v w : Value) (s : State Table) → is_live s.memory v ≡ true → is_live s.memory w ≡ true
    → (exchange table v w).run s ≡ Went tt (record s { memory = with_exchanged s.memory v w })
unfolding exchange exchange_named is_live with_exchanged
run-exchange (Small a) w s e f = cc
run-exchange (Ref a) (Small b) s e f = cc
run-exchange (Ref a) (Ref b) s e f = there_exchanged a b s _ (and_from _ _ e f)

units_live : (n : ℕ) (us : List ℕ) (s : State Table) (a : Option Object) → is_some a ≡ true → length us ≡ length (unwrap_or a nothing).units
    → units_set table n us s a (fit_units us a) ≡ Went tt (record s { memory = changed s.memory n (with_units (unwrap_or a nothing) us) })
unfolding units_set
units_live n us s None e f = cc
units_live n us s (Some o) e f = let b : (length us == length o.units) ≡ true = grind (arith, nat_tests) in rw b refl

set_unit : (v : Value) (i x : ℕ) (s : State Table) → is_live s.memory v ≡ true
    → (set_units table v (slice_set (object_of s.memory v).units i x)).run s ≡ Went tt (record s { memory = with_unit s.memory v i x })
unfolding set_units set_units_at is_live object_of with_unit
set_unit (Small n) i x s e = cc
set_unit (Ref n) i x s e = units_live n _ s (entry s.memory n) e (length-set _ i x)

-- a word of a live object of kind Words is stored
pub run-store_word : (v : Value) (i x : ℕ) (s : State Table) → is_live s.memory v ≡ true → is_words (object_of s.memory v).kind ≡ true
    → i < length (object_of s.memory v).units → (store_word table v i x).run s ≡ Went tt (record s { memory = with_unit s.memory v i x })
unfolding store_word
run-store_word v i x s live kind range =
    let r : nat_lt i (length (object_of s.memory v).units) ≡ true = grind (arith, nat_tests) in
    simp (run-then, run-next, after-went, run-live v s live, run-passed dead.Kind _ s kind, run-passed dead.Field _ s r, set_unit v i x s live) refl

-- a byte of a live object of kind Bytes or Method is stored, counted from the object's first byte on
pub run-store_byte : (v : Value) (i x : ℕ) (s : State Table) → is_live s.memory v ≡ true → has_bytes (object_of s.memory v).kind ≡ true
    → first_unit (object_of s.memory v) ≤ i → i - first_unit (object_of s.memory v) < length (object_of s.memory v).units
    → (store_byte table v i x).run s ≡ Went tt (record s { memory = with_unit s.memory v (i - first_unit (object_of s.memory v)) x })
unfolding store_byte
run-store_byte v i x s live kind above range =
    let a : nat_le (first_unit (object_of s.memory v)) i ≡ true = grind (arith, nat_tests) in
    let r : nat_lt (i - first_unit (object_of s.memory v)) (length (object_of s.memory v).units) ≡ true = grind (arith, nat_tests) in
    simp (run-then, run-next, after-went, run-live v s live, run-passed dead.Kind _ s kind, run-passed dead.Field _ s a, run-passed dead.Field _ s r, set_unit v (i - first_unit (object_of s.memory v)) x s live) refl

pub run-device : (d : Device) (s : State Table) → (get_device d).run s ≡ Went (held_by s.world.devices d) s
unfolding get_device
run-device d s = refl

pub run-newest_signal : (s : State Table) → newest_signal.run s ≡ Went (newest_of s.world.devices.pending) s
unfolding newest_signal
run-newest_signal s = refl

pub run-count_signals : (s : State Table) → count_signals.run s ≡ Went (length s.world.devices.pending) s
unfolding count_signals
run-count_signals s = refl

pub run-oldest_word : (s : State Table) → oldest_word.run s ≡ Went (slice_get s.world.waiting 0) s
unfolding oldest_word
run-oldest_word s = refl

pub run-mouse_x : (s : State Table) → get_mouse_x.run s ≡ Went s.world.mouse_x s
unfolding get_mouse_x
run-mouse_x s = refl

pub run-mouse_y : (s : State Table) → get_mouse_y.run s ≡ Went s.world.mouse_y s
unfolding get_mouse_y
run-mouse_y s = refl

pub run-second_clock : (s : State Table) → get_second_clock.run s ≡ Went s.world.second_clock s
unfolding get_second_clock
run-second_clock s = refl

pub run-millisecond_clock : (s : State Table) → get_millisecond_clock.run s ≡ Went s.world.millisecond_clock s
unfolding get_millisecond_clock
run-millisecond_clock s = refl

changed_there : (c : Change) (s : State Table) (b : Bool) → b ≡ true → world_changed c s b ≡ Went tt (record s { world = changed_world c s.world })
unfolding world_changed
changed_there c s true e = refl
changed_there c s false e = cc

pub run-change_world : (m : ObjectMemory Table) (c : Change) (s : State Table) → all_there m s.memory (named_by c) ≡ true
    → (change_world m c).run s ≡ Went tt (record s { world = changed_world c s.world })
unfolding change_world
run-change_world m c s e = changed_there c s _ e

-- a step that is tried
pub run-tried_went : {A : Type 0} (m : Step Table A) (s t : State Table) (a : A) → m.run s ≡ Went a t → (tried m).run s ≡ Went (Some a) t
unfolding tried
run-tried_went m s t a e = ap (or_left s) e

pub run-tried_died : {A : Type 0} (m : Step Table A) (s : State Table) (k : Dead) → m.run s ≡ Died k → (tried m).run s ≡ Went None s
unfolding tried
run-tried_died m s k e = ap (or_left s) e

pub run-integer : (v : Value) (s : State Table) → is_small v ≡ true → (integer_or_die v).run s ≡ Went (integer_of v) s
unfolding integer_or_die answer
run-integer (Small n) s e = refl
run-integer (Ref n) s e = cc

pub run-no_integer : (v : Value) (s : State Table) → is_small v ≡ false → (integer_or_die v).run s ≡ Died dead.NotSmall
unfolding integer_or_die die
run-no_integer (Small n) s e = cc
run-no_integer (Ref n) s e = refl

pub run-block_home : (c v : Value) (s : State Table) → is_small v ≡ true → (home_by table c v).run s ≡ (fetch_field table c 5).run s
unfolding home_by
run-block_home c (Small n) s e = refl
run-block_home c (Ref n) s e = cc

pub run-method_home : (c v : Value) (s : State Table) → is_small v ≡ false → (home_by table c v).run s ≡ Went c s
unfolding home_by answer
run-method_home c (Small n) s e = cc
run-method_home c (Ref n) s e = refl

pub get-past : {A : Type 0} (xs : List A) (i : ℕ) → length xs ≤ i → slice_get xs i ≡ None
get-past [] i l = refl
get-past (x ∷ xs) zero l = absurd (omega arith)
get-past (x ∷ xs) (suc i) l = get-past xs i (omega arith)

pub ruleset runs = (run-then, run-next, after-went, after-died, run-answer, run-die, run-active, run-home, run-method, run-receiver, run-ip, run-sp, run-set_ip, run-set_sp, run-set_registers, run-device, run-newest_signal, run-count_signals, run-oldest_word, run-mouse_x, run-mouse_y, run-second_clock, run-millisecond_clock, run-change_world, run-of_page, run-passed, run-failed, run-some, run-none, run-small, run-live, run-gone, run-set_field, run-integer, run-no_integer, run-block_home, run-method_home, get-past)

pub ruleset stores = (run-store, run-store_method_field, run-store_word, run-store_byte, run-exchange)

-- checks of numbers
pub ruleset tests = (check-below, check-not_below, check-at_most, check-above)
