-- Home contexts, and registers that are set and stored.
use Rattle.std.proofs.Common.{◌≡◌, ◌<◌, ℕ, Bool, true, false, refl, sym, subst, ap, ◌∙◌, arith}
use Rattle.std.proofs.lemmas.Bool.Decides.{nat_tests}
use Rattle.std.specs.Prelude.{◌&&◌, if◌then◌else◌, ◌/◌, ◌%◌, ◌==◌}
use Rattle.st_model.specs.declared.word.Word.{Word}
use Rattle.st_model.specs.Values.{Value, Small, Ref, is_small, word, value_of}
use Rattle.st_model.specs.Machine.{ObjectMemory, Registers, Head, State, Went, is_there}
use Rattle.st_model.specs.Steps.{fetch_field, registers_set, set_registers, are_there}
use Rattle.st_model.specs.Contexts.{home_by}
use Rattle.st_model.specs.Table.{Table}
use Rattle.st_model.proofs.Runs.{run-answer}
use Rattle.st_frames.specs.declared.registers.Registers.{Registers as Words}
use Rattle.st_frames.specs.inside.Rows.{row_state, registers_in, fetched_in}
use Rattle.st_frames.specs.inside.Narrow.{IsNarrow}
use Rattle.st_frames.specs.declared.fetched.Fetched.{Fetched}

pub home-block : (m : ObjectMemory Table) (c v : Value) (s : State Table) → is_small v ≡ true → (home_by m c v).run s ≡ (fetch_field m c 5).run s
unfolding home_by
home-block m c (Small n) s e = refl
home-block m c (Ref n) s e = cc

pub home-method : (m : ObjectMemory Table) (c v : Value) (s : State Table) → is_small v ≡ false → (home_by m c v).run s ≡ Went c s
unfolding home_by
home-method m c (Small n) s e = cc
home-method m c (Ref n) s e = run-answer c s

pub ruleset homes = (home-block, home-method)

set_by : (t : Table) (a : Head) (r q : Words) (b : Bool) → q.world.now ≡ r.world.now → b ≡ true → registers_set (registers_in q) (row_state t a r) b ≡ Went tt (row_state t a q)
unfolding registers_set row_state
set_by t a r q true w e = λ i. Went tt (record { memory = t; registers = registers_in q; world = sym w i; head = a })
set_by t a r q false w e = cc

pub registers-set : (m : ObjectMemory Table) (t : Table) (a : Head) (r q : Words) (f : Fetched) → registers_in q ≡ fetched_in f → q.world.now ≡ r.world.now → are_there m t (fetched_in f) ≡ true
    → (set_registers m (fetched_in f)).run (row_state t a r) ≡ Went tt (row_state t a q)
unfolding set_registers row_state
registers-set m t a r q f same w e =
    subst (λ (x : Registers). registers_set x (row_state t a r) (are_there m t x) ≡ Went tt (row_state t a q)) same
    (set_by t a r q (are_there m t (registers_in q)) w (ap (λ (x : Registers). are_there m t x) same ∙ e))

-- SmallIntegers that are there have 15 bits

narrow_if : (m : ObjectMemory Table) (t : Table) (b : Bool) (n : ℕ) → is_there m t (if b then Small n else Ref n) ≡ true → is_small (if b then Small n else Ref n) ≡ true → n < 32768
narrow_if m t true n e s = grind (arith, nat_tests, e)
narrow_if m t false n e s = cc

pub narrow : (m : ObjectMemory Table) (t : Table) (w : Word) → is_there m t (word w) ≡ true → IsNarrow w
unfolding value_of
narrow m t w e s = let l = narrow_if m t (w.0 % 2 == 1) (w.0 / 2) e s in omega (arith, l)

first_of : (a b : Bool) → (a && b) ≡ true → a ≡ true
first_of true b e = refl
first_of false b e = cc

rest_of : (a b : Bool) → (a && b) ≡ true → b ≡ true
rest_of true b e = e
rest_of false b e = cc

pub active-there : (m : ObjectMemory Table) (t : Table) (r : Registers) → are_there m t r ≡ true → is_there m t r.active ≡ true
active-there m t r e = first_of (is_there m t r.active) (is_there m t r.home && (is_there m t r.method && is_there m t r.receiver)) e

others_there : (m : ObjectMemory Table) (t : Table) (r : Registers) → are_there m t r ≡ true → (is_there m t r.home && (is_there m t r.method && is_there m t r.receiver)) ≡ true
others_there m t r e = rest_of (is_there m t r.active) (is_there m t r.home && (is_there m t r.method && is_there m t r.receiver)) e

pub home-there : (m : ObjectMemory Table) (t : Table) (r : Registers) → are_there m t r ≡ true → is_there m t r.home ≡ true
home-there m t r e = first_of (is_there m t r.home) (is_there m t r.method && is_there m t r.receiver) (others_there m t r e)

last_there : (m : ObjectMemory Table) (t : Table) (r : Registers) → are_there m t r ≡ true → (is_there m t r.method && is_there m t r.receiver) ≡ true
last_there m t r e = rest_of (is_there m t r.home) (is_there m t r.method && is_there m t r.receiver) (others_there m t r e)

pub method-there : (m : ObjectMemory Table) (t : Table) (r : Registers) → are_there m t r ≡ true → is_there m t r.method ≡ true
method-there m t r e = first_of (is_there m t r.method) (is_there m t r.receiver) (last_there m t r e)

pub receiver-there : (m : ObjectMemory Table) (t : Table) (r : Registers) → are_there m t r ≡ true → is_there m t r.receiver ≡ true
receiver-there m t r e = rest_of (is_there m t r.method) (is_there m t r.receiver) (last_there m t r e)

pub ruleset placed = (active-there, home-there, method-there, receiver-there)

module _ (m : ObjectMemory Table) (t : Table) (f : Fetched) (e : are_there m t (fetched_in f) ≡ true) where
  pub active-narrow : IsNarrow f.active
  active-narrow = narrow m t f.active (active-there m t (fetched_in f) e)

  pub home-narrow : IsNarrow f.home
  home-narrow = narrow m t f.home (home-there m t (fetched_in f) e)

  pub method-narrow : IsNarrow f.method
  method-narrow = narrow m t f.method (method-there m t (fetched_in f) e)

  pub receiver-narrow : IsNarrow f.receiver
  receiver-narrow = narrow m t f.receiver (receiver-there m t (fetched_in f) e)

pub ruleset sets = (registers-set)
