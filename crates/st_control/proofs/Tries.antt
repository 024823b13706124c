-- The integers of SmallIntegers, and what a primitive answers of them.
use Rattle.std.proofs.Common.{◌≡◌, Option, Some, None, sym, refl, arith}
use Rattle.std.specs.Prelude.{ℤ, FitsSigned}
use Rattle.std.specs.Int.{w16, cast_signed, cast_unsigned}
use Rattle.std.proofs.lemmas.Int.{ints, to_z-of_z}
use Rattle.st_ints.specs.inside.Answers.{IsSmall}
use Rattle.st_model.specs.declared.dead.Dead.{Dead}
use Rattle.st_model.specs.Machine.{State, Died, Went, answer, die}
use Rattle.st_model.specs.Steps.{or_die}
use Rattle.st_model.specs.Table.{Table}
use Rattle.st_model.proofs.Runs.{run-integer, run-no_integer, run-some, run-none}
use Rattle.st_frames.proofs.Doing.{rows, pages}

-- a SmallInteger's integer that is passed on
pub passed : (z : ℤ) → IsSmall z → cast_signed w16 (cast_unsigned w16 z) ≡ z
passed z h = let f : FitsSigned w16 z = omega (arith, ints, h.low, h.high) in to_z-of_z w16 z f

pub ruleset integers = (rows, run-integer, run-no_integer, passed)

pub ruleset passing = (rows, passed, to_z-of_z)

pub some_answer : {A : Type 0} (cause : Dead) (o : Option A) (a : A) (s : State Table) → Some a ≡ o → (or_die cause o).run s ≡ Went a s
unfolding or_die answer
some_answer cause None a s e = cc
some_answer cause (Some b) a s e = run-some cause (Some b) a s (sym e)

pub no_answer : {A : Type 0} (cause : Dead) (o : Option A) (s : State Table) → None ≡ o → (or_die cause o).run s ≡ Died cause
unfolding or_die die
no_answer cause None s e = refl
no_answer cause (Some b) s e = cc

pub ruleset answers = (some_answer, no_answer, passed, to_z-of_z)

pub ruleset values = (rows, pages, passed)
