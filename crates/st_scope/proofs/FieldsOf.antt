-- All fields of an object, one after the other.
use Rattle.std.proofs.Common.{◌≡◌, ℕ, zero, suc, ◌-◌, ◌+◌, ◌<◌, ◌≤◌, List, [], ◌∷◌, ◌++◌, Bool, false, Ok, Err, refl, sym, subst, arith}
use Rattle.std.proofs.lemmas.List.{map-append}
use Rattle.st_model.specs.declared.dead.Dead.{Dead}
use Rattle.st_model.specs.declared.oop.Oop.{Oop}
use Rattle.st_model.specs.Values.{Value, Ref, value}
use Rattle.st_model.specs.Machine.{State, Went, Died, answer, ◌>>=◌}
use Rattle.st_model.specs.Steps.{same_value, fetch_field, fetch_fields}
use Rattle.st_model.specs.Table.{Table, table}
use Rattle.st_model.specs.inside.Calls.{Reads}
use Rattle.st_model.proofs.Runs.{run-then, run-of_page, after-went, run-answer}
use Rattle.st_scope.specs.inside.Meanings.{values}
use Rattle.st_scope.specs.Variables.{fields_unless, fields_or_none, name_unless, name_of, pool_unless, pool_or_none}
use Rattle.st_scope.specs.Tables.{bytes_of}
use Rattle.st_scope.proofs.Lineages.{is_nil, is_other}
use Rattle.st_scope.proofs.Passing.{Left, all_left, none_left, left_dies, passed_more}

module _ (o : Value) (n : ℕ) (t : Table) where
  -- the fields up to one, and the step that fetches those from there on
  abbrev pub LeftFields : ℕ → List Oop → Type 0
  LeftFields i os = Left (fetch_fields table o 0 n) (fetch_fields table o i (n - i)) (values os) t

  pub fields_begin : LeftFields 0 []
  fields_begin =
      let z : n ≡ n - 0 = omega arith in
      subst (λ k. Left (fetch_fields table o 0 n) (fetch_fields table o 0 k) [] t) z (all_left (fetch_fields table o 0 n) t)

  none_from : (left i : ℕ) (s : State Table) → left ≡ 0 → (fetch_fields table o i left).run s ≡ Went [] s
  unfolding fetch_fields answer
  none_from zero i s e = refl
  none_from (suc left) i s e = cc

  turn_from : (left k i : ℕ) (s : State Table) → left ≡ suc k → (fetch_fields table o i left).run s ≡ (fetch_field table o i >>= (λ x. fetch_fields table o (suc i) k >>= (λ xs. answer (x ∷ xs)))).run s
  unfolding fetch_fields
  turn_from zero k i s e = cc
  turn_from (suc left) k i s e = let q : left ≡ k = omega (arith, e) in rw q refl

  module _ (i : ℕ) (os : List Oop) (h : LeftFields i os) where
    pub fields_end : n ≤ i → (s : State Table) → s.memory ≡ t → (fetch_fields table o 0 n).run s ≡ Went (values os) s
    fields_end l = none_left (fetch_fields table o 0 n) (fetch_fields table o i (n - i)) (values os) t h (λ s e. none_from (n - i) i s (omega (arith, l)))

    module _ (l : i < n) where
      turn : (s : State Table) → s.memory ≡ t → (fetch_fields table o i (n - i)).run s ≡ (fetch_field table o i >>= (λ x. fetch_fields table o (i + 1) (n - (i + 1)) >>= (λ xs. answer (x ∷ xs)))).run s
      turn s f =
          let next : suc i ≡ i + 1 = omega arith in
          subst (λ j. (fetch_fields table o i (n - i)).run s ≡ (fetch_field table o i >>= (λ x. fetch_fields table o j (n - (i + 1)) >>= (λ xs. answer (x ∷ xs)))).run s) next
          (turn_from (n - i) (n - (i + 1)) i s (omega (arith, l)))

      pub field_dies : (k : Dead) → Reads (fetch_field table o i) value t (Err k) → (s : State Table) → s.memory ≡ t → (fetch_fields table o 0 n).run s ≡ Died k
      field_dies k r = left_dies (fetch_fields table o 0 n) (fetch_fields table o i (n - i)) (values os) t h (fetch_field table o i) value _ turn k r

      pub field_passed : (x : Oop) → Reads (fetch_field table o i) value t (Ok x) → LeftFields (i + 1) (os ++ x ∷ [])
      field_passed x r =
          subst (λ vs. Left (fetch_fields table o 0 n) (fetch_fields table o (i + 1) (n - (i + 1))) vs t) (sym (map-append value os (x ∷ [])))
          (passed_more (fetch_fields table o 0 n) (fetch_fields table o i (n - i)) (values os) t h (fetch_field table o i) value (λ v. v ∷ []) (fetch_fields table o (i + 1) (n - (i + 1))) turn x r)

-- NIL IN PLACE OF AN OBJECT

module _ (o : Oop) (s : State Table) where
  pub no_fields : o.0 ≡ 2 → (fields_or_none table (value o)).run s ≡ Went [] s
  unfolding fields_or_none fields_unless
  no_fields q = simp (run-then, run-of_page, after-went, is_nil o q, run-answer) refl

  pub its_fields : (o.0 ≡ 2 → ⊥) → (fields_or_none table (value o)).run s ≡ (fields_unless table (value o) false).run s
  unfolding fields_or_none
  its_fields q = simp (run-then, run-of_page, after-went, is_other o q) refl

  pub no_name : o.0 ≡ 2 → (name_of table (value o)).run s ≡ Went [] s
  unfolding name_of name_unless
  no_name q = simp (run-then, run-of_page, after-went, is_nil o q, run-answer) refl

  pub its_name : (o.0 ≡ 2 → ⊥) → (name_of table (value o)).run s ≡ (bytes_of table (value o)).run s
  unfolding name_of name_unless
  its_name q = simp (run-then, run-of_page, after-went, is_other o q) refl

  pub pool_by : (nil : Bool) → same_value (value o) (Ref 1) ≡ nil → (pool_or_none table (value o)).run s ≡ (pool_unless table (value o) nil).run s
  unfolding pool_or_none
  pool_by nil e = simp (run-then, run-of_page, after-went, e) refl
