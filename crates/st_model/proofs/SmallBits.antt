-- What a word counts, of the bits of its number: where it is no SmallInteger, the step dies.
use Rattle.std.proofs.Common.{◌≡◌, ℕ, Bool, true, false, refl}
use Rattle.std.specs.Prelude.{◌/◌, ◌%◌, ◌==◌, if◌then◌else◌}
use Rattle.st_model.specs.declared.dead.Dead.TheVariants as dead
use Rattle.st_model.specs.Values.{Small, Ref, value_of, is_small}
use Rattle.st_model.specs.Machine.{State, Died, Went, answer, die}
use Rattle.st_model.specs.Table.{Table}
use Rattle.st_model.specs.Primitives.{bits_or_die}

bits_small : (b : Bool) (n : ℕ) (s : State Table) → is_small (if b then Small n else Ref n) ≡ true → (bits_or_die (if b then Small n else Ref n)).run s ≡ Went n s
unfolding bits_or_die answer
bits_small true n s e = refl
bits_small false n s e = cc

bits_large : (b : Bool) (n : ℕ) (s : State Table) → is_small (if b then Small n else Ref n) ≡ false → (bits_or_die (if b then Small n else Ref n)).run s ≡ Died dead.NotSmall
unfolding bits_or_die die
bits_large true n s e = cc
bits_large false n s e = refl

pub bits-small : (w : ℕ) (s : State Table) → is_small (value_of w) ≡ true → (bits_or_die (value_of w)).run s ≡ Went (w / 2) s
unfolding value_of
bits-small w s e = bits_small (w % 2 == 1) (w / 2) s e

pub bits-large : (w : ℕ) (s : State Table) → is_small (value_of w) ≡ false → (bits_or_die (value_of w)).run s ≡ Died dead.NotSmall
unfolding value_of
bits-large w s e = bits_large (w % 2 == 1) (w / 2) s e

pub ruleset bits = (bits-small, bits-large)
