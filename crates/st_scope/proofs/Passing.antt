-- Lists that a step gives part after part: what was passed, and the step that gives the rest.
use Rattle.std.proofs.Common.{◌≡◌, List, [], ◌++◌, Ok, Err, refl, sym, ap, ◌∙◌}
use Rattle.std.proofs.lemmas.List.{append_assoc, append-nil}
use Rattle.st_model.specs.declared.dead.Dead.{Dead}
use Rattle.st_model.specs.Machine.{State, Transition, Went, Died, Step, after, answer, ◌>>=◌}
use Rattle.st_model.specs.Table.{Table}
use Rattle.st_model.specs.inside.Calls.{Reads}
use Rattle.st_model.proofs.Runs.{run-then, after-went, after-died}

module _ {A : Type 0} where
  -- what was passed, before what comes
  abbrev pub behind : List A → Transition (State Table) (List A) → Transition (State Table) (List A)
  behind passed x = after x (λ xs s. Went (passed ++ xs) s)

  -- the whole step gives what was passed and what the rest gives
  pub record Left (whole rest : Step Table (List A)) (passed : List A) (t : Table) : Type 0 where
    pub same : (s : State Table) → s.memory ≡ t → whole.run s ≡ behind passed (rest.run s)

  behind_none : (x : Transition (State Table) (List A)) → x ≡ behind [] x
  unfolding after
  behind_none (Died k) = refl
  behind_none (Went xs s) = refl

  behind_died : (passed : List A) (k : Dead) → behind passed (Died k) ≡ Died k
  unfolding after
  behind_died passed k = refl

  behind_more : (passed more : List A) (x : Transition (State Table) (List A)) → behind passed (after x (λ xs s. (answer (more ++ xs)).run s)) ≡ behind (passed ++ more) x
  unfolding after answer
  behind_more passed more (Died k) = refl
  behind_more passed more (Went xs s) = ap (λ xs. Went xs s) (sym (append_assoc passed more xs))

  pub all_left : (m : Step Table (List A)) (t : Table) → Left m m [] t
  all_left m t = record { same = λ s f. behind_none (m.run s) }

  module _ (whole rest : Step Table (List A)) (passed : List A) (t : Table) (h : Left whole rest passed t) where
    pub none_left : ((s : State Table) → s.memory ≡ t → rest.run s ≡ Went [] s) → (s : State Table) → s.memory ≡ t → whole.run s ≡ Went passed s
    unfolding after
    none_left none s f = h.same s f ∙ (ap (behind passed) (none s f) ∙ ap (λ xs. Went xs s) (append-nil passed))

    module _ {X Y : Type 0} (first : Step Table X) (f : Y → X) where
      pub left_dies : (next : X → Step Table (List A)) → ((s : State Table) → s.memory ≡ t → rest.run s ≡ (first >>= next).run s)
          → (k : Dead) → Reads first f t (Err k) → (s : State Table) → s.memory ≡ t → whole.run s ≡ Died k
      left_dies next turn k r s e = h.same s e ∙ (ap (behind passed) (turn s e ∙ simp (run-then, r s e, after-died) refl) ∙ behind_died passed k)

      module _ (more : X → List A) (next : Step Table (List A))
          (turn : (s : State Table) → s.memory ≡ t → rest.run s ≡ (first >>= (λ x. next >>= (λ xs. answer (more x ++ xs)))).run s) where
        pub passed_more : (y : Y) → Reads first f t (Ok y) → Left whole next (passed ++ more (f y)) t
        passed_more y r = record { same = λ s e. h.same s e ∙ (ap (behind passed) (turn s e ∙ simp (run-then, r s e, after-went) refl) ∙ behind_more passed (more (f y)) (next.run s)) }
