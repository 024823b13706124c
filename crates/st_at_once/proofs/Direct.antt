-- What is near at hand is read and stored as the table does it.
use Rattle.std.proofs.Common.{◌≡◌, ℕ, ◌+◌, ◌-◌, ◌≤◌, Bool, true, false, Option, Some, None, length, refl, sym, ap, ◌∙◌, subst, arith}
use Rattle.std.specs.Prelude.{ℤ, pos, negsuc, nat_abs, slice_get, if◌then◌else◌, nat_lt, ◌≤ℤ◌}
use Rattle.std.proofs.lemmas.Int.{ints}
use Rattle.std.proofs.lemmas.Bool.Decides.{nat_tests}
use Rattle.st_model.specs.declared.dead.Dead.TheVariants as dead
use Rattle.st_model.specs.Values.{Value}
use Rattle.st_model.specs.Objects.{Object, first_unit}
use Rattle.st_model.specs.Machine.{State, Died, Went, is_there}
use Rattle.st_model.specs.Steps.{literal, code_byte, byte_at, store_field}
use Rattle.st_model.specs.Table.{Table, table}
use Rattle.st_model.specs.View.{Has, object_of}
use Rattle.st_model.proofs.Runs.{run-then, run-next, after-went, run-live, run-passed, run-some}
use Rattle.st_at_once.specs.inside.Known.{IsCodeAt, HasLiteral}
use Rattle.st_memory.proofs.Wide.{run_set_gone}

-- a bytecode

module _ (o : Object) (b : ℕ) where
  code_if : (p q : Bool) (x : Option ℕ) → p ≡ false → q ≡ false → (if p then None else if q then None else x) ≡ x
  code_if false false x e f = refl
  code_if false true x e f = cc
  code_if true q x e f = cc

  code_here : (ip : ℤ) → pos (first_unit o) ≤ℤ ip → ip ≤ℤ pos 16381 → slice_get o.units (nat_abs ip - first_unit o) ≡ Some b → code_byte o ip ≡ Some b
  code_here (pos i) low high e =
      let p : nat_lt i (first_unit o) ≡ false = let l : first_unit o ≤ i = omega (arith, ints, low) in grind (arith, nat_tests) in
      let q : nat_lt 16381 i ≡ false = let l : i ≤ 16381 = omega (arith, ints, high) in grind (arith, nat_tests) in
      code_if (nat_lt i (first_unit o)) (nat_lt 16381 i) (slice_get o.units (i - first_unit o)) p q ∙ e
  code_here (negsuc i) low high e = absurd (omega (arith, ints, low))

code_table : (s : State Table) (v : Value) (ip : ℤ) (b : ℕ) → IsCodeAt s.memory v ip → slice_get (object_of s.memory v).units (nat_abs ip - first_unit (object_of s.memory v)) ≡ Some b
    → (byte_at table v ip).run s ≡ Went b s
unfolding byte_at
code_table s v ip b c e =
    simp (run-then, run-next, after-went, run-live v s c.live, run-passed dead.Kind _ s c.kind, run-some dead.Ip _ b s (code_here (object_of s.memory v) b ip c.low c.high e)) refl

pub code_read : (t : Table) (v w : Value) (ip : ℤ) (b : ℕ) → v ≡ w → IsCodeAt t v ip → slice_get (object_of t v).units (nat_abs ip - first_unit (object_of t v)) ≡ Some b
    → (s : State Table) → s.memory ≡ t → (byte_at table w ip).run s ≡ Went b s
code_read t v w ip b same c e s over =
    rw (sym same) (code_table s v ip b (subst (λ u. IsCodeAt u v ip) (sym over) c)
    (subst (λ u. slice_get (object_of u v).units (nat_abs ip - first_unit (object_of u v)) ≡ Some b) (sym over) e))

-- a literal

literal_table : (s : State Table) (v : Value) (i : ℕ) (x : Value) → HasLiteral s.memory v i → slice_get (object_of s.memory v).fields (i + 1) ≡ Some x → (literal table v i).run s ≡ Went x s
unfolding literal
literal_table s v i x h e =
    simp (run-then, run-next, after-went, run-live v s h.live, run-passed dead.Kind _ s h.kind, run-some dead.Field _ x s e) refl

pub literal_read : (t : Table) (v w : Value) (i : ℕ) (x y : Value) → v ≡ w → HasLiteral t v i → slice_get (object_of t v).fields (i + 1) ≡ Some x → y ≡ x
    → (s : State Table) → s.memory ≡ t → (literal table w i).run s ≡ Went y s
literal_read t v w i x y same h e f s over =
    rw (sym same, f) (literal_table s v i x (subst (λ u. HasLiteral u v i) (sym over) h)
    (subst (λ u. slice_get (object_of u v).fields (i + 1) ≡ Some x) (sym over) e))

-- what isn't there isn't stored

absent_table : (v : Value) (i : ℕ) (x : Value) (s : State Table) → Has s.memory v i 1 → is_there table s.memory x ≡ false → (store_field table v i x).run s ≡ Died dead.Kind
unfolding store_field
absent_table v i x s has e =
    let l = has.fields in
    let r : nat_lt i (length (object_of s.memory v).fields) ≡ true = grind (arith, nat_tests) in
    simp (run-then, run-next, after-went, run-live v s has.live, run-passed dead.Kind _ s has.kind, run-passed dead.Field _ s r, run_set_gone v i x s has.live e) refl

pub store_absent : (t : Table) (v w : Value) (i : ℕ) (x : Value) → v ≡ w → Has t v i 1 → is_there table t x ≡ false
    → (s : State Table) → s.memory ≡ t → (store_field table w i x).run s ≡ Died dead.Kind
store_absent t v w i x same has e s over =
    rw (sym same) (absent_table v i x s (subst (λ u. Has u v i 1) (sym over) has) (ap (λ u. is_there table u x) over ∙ e))
