-- What functions that take memory find, call after call.
use Rattle.std.proofs.Common.{◌≡◌, Result, Ok, Err, subst, sym, ◌∙◌, refl}
use Rattle.st_model.specs.declared.dead.Dead.{Dead}
use Rattle.st_model.specs.Machine.{State, Step, ◌>>=◌}
use Rattle.st_model.specs.Table.{Table}
use Rattle.st_model.specs.inside.Calls.{Reads}
use Rattle.st_model.proofs.Runs.{run-then, after-went, after-died}
use Rattle.st_scope.specs.declared.unread.Unread.{Unread}
use Rattle.st_scope.specs.declared.unread.Unread.TheVariants.{Dies, OutOfMemory}
use Rattle.st_scope.specs.inside.Findings.{Finds}

module _ {A B : Type 0} (m : Step Table A) (f : B → A) (t : Table) (r : Result B Unread) where
  pub finds_death : (k : Dead) → r ≡ Err (Dies k) → Reads m f t (Err k) → Finds m f t r
  finds_death k e h = subst (λ x. Finds m f t x) (sym e) h

  pub finds_nothing : r ≡ Err OutOfMemory → Finds m f t r
  finds_nothing e = subst (λ x. Finds m f t x) (sym e) tt

-- two steps that run alike
pub finds_same : {A B : Type 0} (f : B → A) (t : Table) (m n : Step Table A) → ((s : State Table) → s.memory ≡ t → n.run s ≡ m.run s) → (r : Result B Unread) → Finds m f t r → Finds n f t r
finds_same f t m n same (Ok v) h = λ s e. same s e ∙ h s e
finds_same f t m n same (Err (Dies k)) h = λ s e. same s e ∙ h s e
finds_same f t m n same (Err OutOfMemory) h = tt

module _ {A B X Y : Type 0} (f : B → A) (g : Y → X) (t : Table) (r : Result B Unread) (first : Step Table X) (next : X → Step Table A) where
  -- the first step dies
  pub first_dies : (k : Dead) → r ≡ Err (Dies k) → Reads first g t (Err k) → Finds (first >>= next) f t r
  first_dies k e h = finds_death (first >>= next) f t r k e (λ s q. simp (run-then, h s q, after-died) refl)

  -- it dies, or there was no memory
  pub first_fails : (u : Unread) → r ≡ Err u → Finds first g t (Err u) → Finds (first >>= next) f t r
  first_fails (Dies k) e h = first_dies k e h
  first_fails OutOfMemory e h = finds_nothing (first >>= next) f t r e

  -- what comes behind it
  pub then_finds : (y : Y) → Reads first g t (Ok y) → Finds (next (g y)) f t r → Finds (first >>= next) f t r
  then_finds y h k = finds_same f t (next (g y)) (first >>= next) (λ s q. simp (run-then, h s q, after-went) refl) r k
