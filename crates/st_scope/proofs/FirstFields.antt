-- The first field for which a test holds, sought from field 0 up.
use Rattle.std.proofs.Common.{◌≡◌, ℕ, ◌-◌, ◌+◌, ◌<◌, ◌≤◌, zero, suc, Bool, true, false, Some, None, Ok, Err, refl, ◌∙◌, subst, arith}
use Rattle.st_model.specs.declared.dead.Dead.{Dead}
use Rattle.st_model.specs.declared.oop.Oop.{Oop}
use Rattle.st_model.specs.Values.{Value, value}
use Rattle.st_model.specs.Machine.{State, Step, answer, ◌>>=◌}
use Rattle.st_model.specs.Steps.{fetch_field, count_fields}
use Rattle.st_model.specs.Table.{Table, table}
use Rattle.st_model.specs.inside.Calls.{Reads, itself}
use Rattle.st_model.proofs.Runs.{run-then, after-went, after-died, run-answer}
use Rattle.st_scope.specs.Tables.{found_or, first_from, first_field}
use Rattle.st_scope.specs.Texts.{found}

-- what the fields from one on give is what all of them give
pub record LeftFields (o : Oop) (test : Value → Step Table Bool) (n i : ℕ) (t : Table) : Type 0 where
  pub same : (s : State Table) → s.memory ≡ t → (first_field table (value o) test).run s ≡ (first_from table (value o) test i (n - i)).run s

module _ (o : Oop) (test : Value → Step Table Bool) (t : Table) where
  pub uncounted : (k : Dead) → Reads (count_fields table (value o)) itself t (Err k) → Reads (first_field table (value o) test) found t (Err k)
  unfolding first_field
  uncounted k e s f = simp (run-then, e s f, after-died) refl

  pub all_left : (n : ℕ) → Reads (count_fields table (value o)) itself t (Ok n) → LeftFields o test n 0 t
  unfolding first_field
  all_left n e =
      let z : n ≡ n - 0 = omega arith in
      record { same = λ s f. subst (λ k. (first_field table (value o) test).run s ≡ (first_from table (value o) test 0 k).run s) z (simp (run-then, e s f, after-went) refl) }

  none_from : (left i : ℕ) (s : State Table) → left ≡ 0 → (first_from table (value o) test i left).run s ≡ (answer None).run s
  unfolding first_from
  none_from zero i s e = refl
  none_from (suc left) i s e = cc

  pub none_left : (n i : ℕ) → n ≤ i → LeftFields o test n i t → Reads (first_field table (value o) test) found t (Ok None)
  none_left n i l h s f = h.same s f ∙ (none_from (n - i) i s (omega (arith, l)) ∙ run-answer None s)

  turn_from : (left k i : ℕ) (s : State Table) → left ≡ suc k
      → (first_from table (value o) test i left).run s ≡ (fetch_field table (value o) i >>= (λ v. test v >>= (λ holds. found_or holds v (first_from table (value o) test (suc i) k)))).run s
  unfolding first_from
  turn_from zero k i s e = cc
  turn_from (suc left) k i s e = let q : left ≡ k = omega (arith, e) in rw q refl

  module _ (n i : ℕ) (l : i < n) (h : LeftFields o test n i t) where
    turn : (s : State Table) → s.memory ≡ t → (first_field table (value o) test).run s
        ≡ (fetch_field table (value o) i >>= (λ v. test v >>= (λ holds. found_or holds v (first_from table (value o) test (suc i) (n - (i + 1)))))).run s
    turn s f = h.same s f ∙ turn_from (n - i) (n - (i + 1)) i s (omega (arith, l))

    pub field_dies : (k : Dead) → Reads (fetch_field table (value o) i) value t (Err k) → Reads (first_field table (value o) test) found t (Err k)
    field_dies k e s f = turn s f ∙ simp (run-then, e s f, after-died) refl

    pub field_holds : (v : Oop) → Reads (fetch_field table (value o) i) value t (Ok v) → (b : Bool) → b ≡ true → Reads (test (value v)) itself t (Ok b) → Reads (first_field table (value o) test) found t (Ok (Some v))
    unfolding found_or answer
    field_holds v e b q g s f = turn s f ∙ simp (run-then, e s f, after-went, g s f, q) refl

    pub field_passed : (v : Oop) → Reads (fetch_field table (value o) i) value t (Ok v) → (b : Bool) → b ≡ false → Reads (test (value v)) itself t (Ok b) → LeftFields o test n (i + 1) t
    unfolding found_or
    field_passed v e b q g =
        let next : suc i ≡ i + 1 = omega arith in
        record { same = λ s f. turn s f ∙ subst (λ j. (fetch_field table (value o) i >>= (λ v. test v >>= (λ holds. found_or holds v (first_from table (value o) test (suc i) (n - (i + 1)))))).run s ≡ (first_from table (value o) test j (n - (i + 1))).run s) next (simp (run-then, e s f, after-went, g s f, q) refl) }
