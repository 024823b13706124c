-- A byte is fetched at a place from 0 to 16381 alone, and the instruction pointer moves on.
use Rattle.std.proofs.Common.{◌≡◌, ◌≤◌, ℕ, Bool, true, false, Option, Some, None, refl, sym, ap, arith}
use Rattle.std.specs.Prelude.{ℤ, pos, negsuc, ◌+ℤ◌, ◌≤ℤ◌, ◌-◌, nat_lt, slice_get, if◌then◌else◌}
use Rattle.std.proofs.lemmas.Int.{ints}
use Rattle.std.proofs.lemmas.Bool.Decides.{nat_tests}
use Rattle.st_model.specs.declared.dead.Dead.{Dead}
use Rattle.st_model.specs.declared.dead.Dead.TheVariants as dead
use Rattle.st_model.specs.Values.{Value, word}
use Rattle.st_model.specs.Objects.{Object, is_method, first_unit}
use Rattle.st_model.specs.Machine.{ObjectMemory, Head, State, Transition, Died, Went, after, answer, die, ◌>>=◌, ◌>>◌}
use Rattle.st_model.specs.Steps.{object, check, or_die, code_byte, byte_at, next_byte}
use Rattle.st_model.specs.Table.{Table}
use Rattle.st_model.proofs.Runs.{run-then, run-next, after-went, after-died, run-answer, run-set_ip}
use Rattle.st_frames.specs.declared.registers.Registers.{Registers as Words}
use Rattle.st_frames.specs.inside.Rows.{row_state, registers_in}
use Rattle.st_frames.proofs.Doing.{row-ip, row-method}

pub record IsCodePlace (ip : ℤ) : Type 0 where
  pub low : pos 0 ≤ℤ ip
  pub high : ip ≤ℤ pos 16381

place_if : (i : ℕ) (x : Option ℕ) (b : ℕ) (p q : Bool) → nat_lt 16381 i ≡ q → (if p then None else if q then None else x) ≡ Some b → IsCodePlace (pos i)
place_if i x b true q e f = cc
place_if i x b false true e f = cc
place_if i x b false false e f = let l : i ≤ 16381 = grind (arith, nat_tests) in record { low = omega (arith, ints); high = omega (arith, ints) }

code_place : (o : Object) (ip : ℤ) (b : ℕ) → code_byte o ip ≡ Some b → IsCodePlace ip
code_place o (pos i) b e = place_if i (slice_get o.units (i - first_unit o)) b (nat_lt i (first_unit o)) (nat_lt 16381 i) refl e
code_place o (negsuc i) b e = cc

there : (k : Dead) (x : Option ℕ) (b : ℕ) (s t : State Table) → (or_die k x).run s ≡ Went b t → x ≡ Some b
unfolding or_die answer die
there k None b s t e = cc
there k (Some a) b s t e = cc

checked : (o : Object) (p : Bool) (ip : ℤ) (b : ℕ) (s t : State Table) → after ((check dead.Kind p).run s) (λ u t'. (or_die dead.Ip (code_byte o ip)).run t') ≡ Went b t → IsCodePlace ip
unfolding check answer die after
checked o true ip b s t e = code_place o ip b (there dead.Ip (code_byte o ip) b s t e)
checked o false ip b s t e = cc

found_byte : (q : Transition (State Table) Object) (ip : ℤ) (b : ℕ) (t : State Table)
    → after q (λ o t'. after ((check dead.Kind (is_method o.kind)).run t') (λ u t''. (or_die dead.Ip (code_byte o ip)).run t'')) ≡ Went b t → IsCodePlace ip
unfolding after
found_byte (Died k) ip b t e = cc
found_byte (Went o s) ip b t e = checked o (is_method o.kind) ip b s t e

pub byte_place : (m : ObjectMemory Table) (v : Value) (ip : ℤ) (b : ℕ) (s t : State Table) → (byte_at m v ip).run s ≡ Went b t → IsCodePlace ip
unfolding byte_at ◌>>=◌ ◌>>◌
byte_place m v ip b s t e = found_byte ((object m v).run s) ip b t e

module _ (m : ObjectMemory Table) (t : Table) (a : Head) (r : Words) where
  pub byte-went : (b : ℕ) (i : ℤ) → ((s : State Table) → s.memory ≡ t → (byte_at m (word r.method) r.ip).run s ≡ Went b s) → i ≡ r.ip +ℤ pos 1
      → (next_byte m).run (row_state t a r) ≡ Went b (record (row_state t a r) { registers = record (registers_in r) { ip = i } })
  unfolding next_byte row_state
  byte-went b i e f = simp (run-then, run-next, after-went, row-method t a r, row-ip t a r, e (row_state t a r) refl, run-set_ip, run-answer) (ap (λ x. Went b (record (row_state t a r) { registers = record (registers_in r) { ip = x } })) (sym f))

  pub byte-died : (k : Dead) → ((s : State Table) → s.memory ≡ t → (byte_at m (word r.method) r.ip).run s ≡ Died k) → (next_byte m).run (row_state t a r) ≡ Died k
  unfolding next_byte row_state
  byte-died k e = simp (run-then, run-next, after-went, row-method t a r, row-ip t a r, e (row_state t a r) refl, after-died) refl
