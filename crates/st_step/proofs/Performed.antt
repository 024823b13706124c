-- What is no 83 and no 84; and how a selector is performed with the fields of an Array, by the condition on that.
use Rattle.std.proofs.Common.{◌≡◌, ◌≢◌, ◌<◌, ◌≤◌, ◌+◌, ℕ, refl, Option, None}
use Rattle.std.specs.Prelude.{◌-◌}
use Rattle.st_model.specs.declared.dead.Dead.{Dead}
use Rattle.st_model.specs.declared.dead.Dead.TheVariants as dead
use Rattle.st_model.specs.declared.primitive.Primitive.{Primitive}
use Rattle.st_model.specs.declared.primitive.Primitive.TheVariants as named
use Rattle.st_model.specs.Values.{Value, word}
use Rattle.st_model.specs.declared.page.PageObject.TheVariants.{ArrayClass}
use Rattle.st_model.specs.Outcomes.{Outcome}
use Rattle.st_model.specs.Machine.{ObjectMemory, Head, State, Transition, Died, Went, answer, after, ◌>>=◌, ◌>>◌}
use Rattle.st_model.specs.Steps.{count_fields, top, under}
use Rattle.st_model.specs.Primitives.{check_class}
use Rattle.st_model.specs.Executing.{respond_by, spread_array, perform, spreading, perform_fields, primitive_perform_with, perform_by}
use Rattle.st_model.specs.Table.{Table}
use Rattle.st_model.proofs.Runs.{check-below, check-not_below, run-tried_went, run-tried_died}
use Rattle.st_frames.specs.declared.registers.Registers.{Registers as Words}
use Rattle.st_frames.specs.inside.Rows.{row_state}
use Rattle.st_frames.proofs.Doing.{row-memory, row-active, row-sp}

-- one that performs nothing
pub plain : (m : ObjectMemory Table) (n : ℕ) (p : Primitive) (s : State Table) → p ≢ named.Perform → p ≢ named.PerformWith → (perform_by m n p).run s ≡ (respond_by m n p).run s
unfolding perform_by
plain m n named.Perform s h k = absurd (h refl)
plain m n named.PerformWith s h k = absurd (k refl)
plain m n p s h k = refl

-- 84 that is tried
module _ (m : ObjectMemory Table) (v w b : Value) (s : State Table)
    (receiver : (under m 2).run s ≡ Went v s) (selector : (under m 1).run s ≡ Went w s) (array : (top m).run s ≡ Went b s) where
  pub spread-performs : (z : Transition (State Table) (Option Outcome)) (n : ℕ) → (spreading m b).run s ≡ Went n s → (perform m v w n (spread_array m b n)).run s ≡ z → (primitive_perform_with m).run s ≡ z
  unfolding primitive_perform_with perform_fields ◌>>=◌ after
  spread-performs z n e k = rw (receiver, selector, array, run-tried_went (spreading m b) s s n e) k

  pub spread-fails : (k : Dead) → (spreading m b).run s ≡ Died k → (primitive_perform_with m).run s ≡ Went None s
  unfolding primitive_perform_with perform_fields ◌>>=◌ after answer
  spread-fails k e = rw (receiver, selector, array, run-tried_died (spreading m b) s k e) refl

-- the fields of an Array that the active context has room for, or hasn't
module _ (m : ObjectMemory Table) (b : Value) (n f : ℕ) (t : Table) (a : Head) (r : Words) (class : (check_class m b ArrayClass).run (row_state t a r) ≡ Went tt (row_state t a r))
    (count : (s : State Table) → s.memory ≡ t → (count_fields m b).run s ≡ Went n s) (fields : (s : State Table) → s.memory ≡ t → (count_fields m (word r.active)).run s ≡ Went f s) where
  pub spread-fits : r.sp - 2 + n < f → (spreading m b).run (row_state t a r) ≡ Went n (row_state t a r)
  unfolding spreading ◌>>=◌ ◌>>◌ after answer
  spread-fits l =
      rw (class, count (row_state t a r) (row-memory t a r), row-active t a r, fields (row_state t a r) (row-memory t a r), row-sp t a r, check-below dead.Sp (r.sp - 2 + n) f (row_state t a r) l) refl

  pub spread-over : f ≤ r.sp - 2 + n → (spreading m b).run (row_state t a r) ≡ Died dead.Sp
  unfolding spreading ◌>>=◌ ◌>>◌ after answer
  spread-over l =
      rw (class, count (row_state t a r) (row-memory t a r), row-active t a r, fields (row_state t a r) (row-memory t a r), row-sp t a r, check-not_below dead.Sp (r.sp - 2 + n) f (row_state t a r) l) refl
