-- Tallies, and the symbol table that a head names.
use Rattle.std.proofs.Common.{◌≡◌, ℕ, Bool, true, false, Option, Some, None, Ok, Result, refl, sym}
use Rattle.std.specs.Prelude.{◌==◌, if◌then◌else◌}
use Rattle.st_model.specs.declared.dead.Dead.{Dead}
use Rattle.st_model.specs.declared.dead.Dead.TheVariants as dead
use Rattle.st_model.specs.Values.{Value, Small, Ref, value_of, is_small}
use Rattle.st_model.specs.Machine.{State, Went, Died, Step, answer, die, ◌>>=◌}
use Rattle.st_model.specs.Primitives.{bits_or_die}
use Rattle.st_model.specs.Table.{Table, table}
use Rattle.st_model.specs.inside.Calls.{Reads, itself}
use Rattle.st_model.specs.View.{table_of}
use Rattle.st_scope.specs.Shapes.{check_symbol_table, check_symbols}

-- the bits of a tally aren't looked at
pub tally-small : {A : Type 0} (v : Value) (f : ℕ → Step Table A) (n : Step Table A) (s : State Table) → is_small v ≡ true → ((b : ℕ) → f b ≡ n) → (bits_or_die v >>= f).run s ≡ n.run s
unfolding bits_or_die answer ◌>>=◌
tally-small (Small b) f n s e same = rw (same b) refl
tally-small (Ref b) f n s e same = cc

pub tally-other : {A : Type 0} (v : Value) (f : ℕ → Step Table A) (s : State Table) → is_small v ≡ false → (bits_or_die v >>= f).run s ≡ Died dead.NotSmall
unfolding bits_or_die die ◌>>=◌
tally-other (Small b) f s e = cc
tally-other (Ref b) f s e = refl

pub bits-gone : (v : Value) (s : State Table) → is_small v ≡ false → (bits_or_die v).run s ≡ Died dead.NotSmall
unfolding bits_or_die die
bits-gone (Small b) s e = cc
bits-gone (Ref b) s e = refl

abbrev bits : Value → ℕ
bits (Small n) = n
bits (Ref n) = 0

pub bits-there : (v : Value) (s : State Table) → is_small v ≡ true → (bits_or_die v).run s ≡ Went (bits v) s
unfolding bits_or_die answer
bits-there (Small b) s e = refl
bits-there (Ref b) s e = cc

pub ruleset tallies = (bits-gone, bits-there)

module _ (symbols : Option Value) (t : Table) (w : ℕ) (e : table_of w ≡ symbols) where
  none_if : (b : Bool) → (if b then None else Some (value_of w)) ≡ symbols → b ≡ true → symbols ≡ None
  none_if true e z = sym e
  none_if false e z = cc

  some_if : (b : Bool) → (if b then None else Some (value_of w)) ≡ symbols → b ≡ false → symbols ≡ Some (value_of w)
  some_if true e z = cc
  some_if false e z = sym e

  pub no-symbols : (w == 0) ≡ true → Reads (check_symbols table symbols) itself t (Ok tt)
  unfolding check_symbols answer
  no-symbols z s f = rw (none_if (w == 0) e z) refl

  pub some-symbols : (r : Result Unit Dead) → (w == 0) ≡ false → Reads (check_symbol_table table (value_of w)) itself t r → Reads (check_symbols table symbols) itself t r
  unfolding check_symbols
  some-symbols r z h s f = rw (some_if (w == 0) e z) (h s f)

pub ruleset symbol_tables = (no-symbols, some-symbols)
