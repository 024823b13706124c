-- A table of names by its pointer.
use Rattle.std.proofs.Common.{◌≡◌, ◌≢◌, ℕ, Bool, true, false, Some, None, refl, arith}
use Rattle.std.specs.Prelude.{◌==◌, if◌then◌else◌}
use Rattle.std.proofs.lemmas.Bool.Decides.{nat_tests}
use Rattle.st_model.specs.declared.dead.Dead.TheVariants as dead
use Rattle.st_model.specs.Values.{value_of}
use Rattle.st_model.specs.Machine.{State, Died, Went, answer, die}
use Rattle.st_model.specs.Steps.{or_die}
use Rattle.st_model.specs.Table.{Table}
use Rattle.st_model.specs.View.{table_of}

there_if : (w : ℕ) (b : Bool) (s : State Table) → b ≡ false → (or_die dead.Field (if b then None else Some (value_of w))).run s ≡ Went (value_of w) s
unfolding or_die answer
there_if w true s e = cc
there_if w false s e = refl

none_if : (w : ℕ) (b : Bool) (s : State Table) → b ≡ true → (or_die dead.Field (if b then None else Some (value_of w))).run s ≡ Died dead.Field
unfolding or_die die
none_if w true s e = refl
none_if w false s e = cc

pub table_there : (w : ℕ) (s : State Table) → w ≢ 0 → (or_die dead.Field (table_of w)).run s ≡ Went (value_of w) s
table_there w s other = there_if w (w == 0) s (grind (arith, nat_tests, other))

pub table_none : (w : ℕ) (s : State Table) → w ≡ 0 → (or_die dead.Field (table_of w)).run s ≡ Died dead.Field
table_none w s zero = none_if w (w == 0) s (grind (arith, nat_tests))

pub ruleset tables = (table_there, table_none)
