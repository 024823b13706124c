-- Steps that only look at one object.
use Rattle.std.proofs.Common.{◌≡◌, ℕ, ◌+◌, ◌-◌, Bool, true, false, length, Result, Ok, Err, refl, sym, ap, ◌∙◌}
use Rattle.std.specs.Prelude.{ℤ, pos, slice_get, nat_le, Option, Some, None, if◌then◌else◌}
use Rattle.st_model.specs.declared.dead.Dead.{Dead}
use Rattle.st_model.specs.declared.dead.Dead.TheVariants as dead
use Rattle.st_model.specs.declared.kind.Kind.{Kind}
use Rattle.st_model.specs.Values.{Value, Small, Ref}
use Rattle.st_model.specs.declared.page.PageObject.TheVariants.{SmallIntegerClass}
use Rattle.st_model.specs.Objects.{Object, is_pointers, is_words, is_method, has_bytes, first_unit, place_of, nil}
use Rattle.st_model.specs.Machine.{State, Transition, Died, Went, Step, after, answer, die, empty_world, ◌>>=◌, ◌>>◌}
use Rattle.st_model.specs.Steps.{object, object_named, found, check, or_die, of_page, fetch_field, count_fields, class_of, literal, fetch_method_field, byte_at, code_byte, fetch_word, fetch_byte}
use Rattle.st_model.specs.Methods.{method_header, literal_from_last, from_last}
use Rattle.st_model.specs.Table.{Table, table, entry}
use Rattle.st_model.specs.inside.Calls.{Reads, transition_of}

-- what a step gives that leaves the state as it is

abbrev pub Got : Type 0 → Type 0
Got A = Transition (Unit {0}) A

abbrev pub here : {A : Type 0} → State Table → Got A → Transition (State Table) A
here s (Died k) = Died k
here s (Went a u) = Went a s

abbrev pub result_got : {A B : Type 0} → (B → A) → Result B Dead → Got A
result_got f (Ok v) = Went (f v) tt
result_got f (Err k) = Died k

here_result : {A B : Type 0} (f : B → A) (r : Result B Dead) (s : State Table) → here s (result_got f r) ≡ transition_of f r s
here_result f (Ok v) s = refl
here_result f (Err k) s = refl

got_is : {A B : Type 0} (g : Got A) (f : B → A) (r : Result B Dead) (s : State Table) → here s g ≡ transition_of f r s → g ≡ result_got f r
got_is (Died k) f (Ok v) s e = cc
got_is (Died k) f (Err c) s e = let q : k ≡ c = cc in ap Died q
got_is (Went a u) f (Ok v) s e = let q : a ≡ f v = cc in ap (λ x. Went x tt) q
got_is (Went a u) f (Err c) s e = cc

-- a state over a table
abbrev pub some_state : Table → State Table
some_state t = record { memory = t; registers = record { active = nil; home = nil; method = nil; receiver = nil; ip = pos 0; sp = 0 }; world = empty_world nil; head = record { entries = 0; words = 0; globals = None; symbols = None } }

-- the step gives this of each table
abbrev pub Looks : {A : Type 0} → Step Table A → (Table → Got A) → Type 0
Looks m g = (s : State Table) → m.run s ≡ here s (g s.memory)

module _ {A B : Type 0} (m : Step Table A) (g : Table → Got A) (f : B → A) (looks : Looks m g) where
  pub reads_got : (t : Table) (r : Result B Dead) → Reads m f t r → g t ≡ result_got f r
  reads_got t r h = got_is (g t) f r (some_state t) (sym (looks (some_state t)) ∙ h (some_state t) refl)

  pub got_reads : (t : Table) (r : Result B Dead) → g t ≡ result_got f r → Reads m f t r
  got_reads t r e = λ s over. looks s ∙ ap (λ u. here s (g u)) over ∙ ap (here s) e ∙ here_result f r s

  -- it answers the same over a table of which it gives the same
  pub reads_moved : (t u : Table) (r : Result B Dead) → g u ≡ g t → Reads m f t r → Reads m f u r
  reads_moved t u r same h = got_reads u r (same ∙ reads_got t r h)

-- a look at an object of the right kind

abbrev pub or_got : {A : Type 0} → Dead → Option A → Got A
or_got cause None = Died cause
or_got cause (Some a) = Went a tt

abbrev pub checked : {A : Type 0} → Bool → Got A → Got A
checked true g = g
checked false g = Died dead.Kind

abbrev pub looked : {A : Type 0} → (Kind → Bool) → (Object → Option A) → Dead → Option Object → Got A
looked test f cause None = Died dead.Kind
looked test f cause (Some o) = checked (test o.kind) (or_got cause (f o))

abbrev pub look_at : {A : Type 0} → (Kind → Bool) → (Object → Option A) → Dead → Value → Table → Got A
look_at test f cause (Small n) t = Died dead.Small
look_at test f cause (Ref n) t = looked test f cause (entry t n)

pub or_die_looks : {A : Type 0} (cause : Dead) (x : Option A) (s : State Table) → (or_die cause x).run s ≡ here s (or_got cause x)
unfolding or_die die answer
or_die_looks cause None s = refl
or_die_looks cause (Some a) s = refl

checked_looks : {A : Type 0} (b : Bool) (cause : Dead) (x : Option A) (s : State Table) → (check dead.Kind b >> or_die cause x).run s ≡ here s (checked b (or_got cause x))
unfolding ◌>>◌ ◌>>=◌ after check die answer
checked_looks true cause x s = or_die_looks cause x s
checked_looks false cause x s = refl

module _ {A : Type 0} (test : Kind → Bool) (f : Object → Option A) (cause : Dead) where
  found_looks : (e : Option Object) (s : State Table) → (found e >>= (λ o. check dead.Kind (test o.kind) >> or_die cause (f o))).run s ≡ here s (looked test f cause e)
  unfolding found ◌>>=◌ after die answer
  found_looks None s = refl
  found_looks (Some o) s = checked_looks (test o.kind) cause (f o) s

  pub step_looks : (v : Value) → Looks (object table v >>= (λ o. check dead.Kind (test o.kind) >> or_die cause (f o))) (look_at test f cause v)
  unfolding object object_named die ◌>>=◌ after
  step_looks (Small n) s = refl
  step_looks (Ref n) s = found_looks (entry s.memory n) s

pub fetch_looks : (v : Value) (i : ℕ) → Looks (fetch_field table v i) (look_at is_pointers (λ o. slice_get o.fields i) dead.Field v)
unfolding fetch_field
fetch_looks v i = step_looks is_pointers (λ o. slice_get o.fields i) dead.Field v

pub count_looks : (v : Value) → Looks (count_fields table v) (look_at is_pointers (λ o. Some (length o.fields)) dead.Field v)
unfolding count_fields or_die
count_looks v = step_looks is_pointers (λ o. Some (length o.fields)) dead.Field v

pub header_looks : (v : Value) → Looks (method_header table v) (look_at is_method (λ o. slice_get o.fields 0) dead.Field v)
unfolding method_header
header_looks v = step_looks is_method (λ o. slice_get o.fields 0) dead.Field v

pub literal_looks : (v : Value) (i : ℕ) → Looks (literal table v i) (look_at is_method (λ o. slice_get o.fields (i + 1)) dead.Field v)
unfolding literal
literal_looks v i = step_looks is_method (λ o. slice_get o.fields (i + 1)) dead.Field v

pub method_field_looks : (v : Value) (i : ℕ) → Looks (fetch_method_field table v i) (look_at is_method (λ o. slice_get o.fields i) dead.Field v)
unfolding fetch_method_field
method_field_looks v i = step_looks is_method (λ o. slice_get o.fields i) dead.Field v

pub last_looks : (v : Value) (k : ℕ) → Looks (literal_from_last table v k) (look_at is_method (λ o. from_last o k) dead.Field v)
unfolding literal_from_last
last_looks v k = step_looks is_method (λ o. from_last o k) dead.Field v

pub byte_looks : (v : Value) (ip : ℤ) → Looks (byte_at table v ip) (look_at is_method (λ o. code_byte o ip) dead.Ip v)
unfolding byte_at
byte_looks v ip = step_looks is_method (λ o. code_byte o ip) dead.Ip v

-- byte i of an object, where that is none of its header or literals
abbrev pub byte_in : ℕ → Object → Option ℕ
byte_in i o = if nat_le (first_unit o) i then slice_get o.units (i - first_unit o) else None

pub word_looks : (v : Value) (i : ℕ) → Looks (fetch_word table v i) (look_at is_words (λ o. slice_get o.units i) dead.Field v)
unfolding fetch_word
word_looks v i = step_looks is_words (λ o. slice_get o.units i) dead.Field v

twice_checked : (b c : Bool) (x : Option ℕ) (s : State Table) → (check dead.Kind b >> (check dead.Field c >> or_die dead.Field x)).run s ≡ here s (checked b (or_got dead.Field (if c then x else None)))
unfolding ◌>>◌ ◌>>=◌ after check die answer
twice_checked true true x s = or_die_looks dead.Field x s
twice_checked true false x s = refl
twice_checked false c x s = refl

found_byte : (e : Option Object) (i : ℕ) (s : State Table) → (found e >>= (λ o. check dead.Kind (has_bytes o.kind) >> (check dead.Field (nat_le (first_unit o) i) >> or_die dead.Field (slice_get o.units (i - first_unit o))))).run s ≡ here s (looked has_bytes (byte_in i) dead.Field e)
unfolding found ◌>>=◌ after die answer
found_byte None i s = refl
found_byte (Some o) i s = twice_checked (has_bytes o.kind) (nat_le (first_unit o) i) (slice_get o.units (i - first_unit o)) s

pub fetch_byte_looks : (v : Value) (i : ℕ) → Looks (fetch_byte table v i) (look_at has_bytes (byte_in i) dead.Field v)
unfolding fetch_byte object object_named die ◌>>=◌ after
fetch_byte_looks (Small n) i s = refl
fetch_byte_looks (Ref n) i s = found_byte (entry s.memory n) i s

abbrev pub class_in : Option Object → Got Value
class_in None = Died dead.Kind
class_in (Some o) = Went (Ref o.class) tt

abbrev pub class_look : Value → Table → Got Value
class_look (Small n) t = Went (Ref (place_of SmallIntegerClass)) tt
class_look (Ref n) t = class_in (entry t n)

class_found : (e : Option Object) (s : State Table) → after ((found e).run s) (λ o t. Went (Ref o.class) t) ≡ here s (class_in e)
unfolding found after die answer
class_found None s = refl
class_found (Some o) s = refl

pub class_looks : (v : Value) → Looks (class_of table v) (class_look v)
unfolding class_of of_page object_named ◌>>=◌ answer
class_looks (Small n) s = refl
class_looks (Ref n) s = class_found (entry s.memory n) s
