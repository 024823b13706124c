-- The bits of a header's word, and of a header extension's.
use Rattle.std.proofs.Common.{◌≡◌, ◌≤◌, ℕ, Bool, true, false, refl, arith}
use Rattle.std.specs.Prelude.{if◌then◌else◌, ◌/◌, ◌%◌, ◌==◌}
use Rattle.st_model.specs.Values.{Value, Small, Ref, value_of, is_small}
use Rattle.st_model.specs.declared.dead.Dead.TheVariants as dead
use Rattle.st_model.specs.Machine.{State, Died, Went, answer, die}
use Rattle.st_model.specs.Formed.{literals_of}
use Rattle.st_model.specs.Methods.{bits_of, literal_count, primitive_number, extension_arguments}
use Rattle.st_model.specs.Table.{Table}

bits_small : (b : Bool) (n : ℕ) → is_small (if b then Small n else Ref n) ≡ true → bits_of (if b then Small n else Ref n) ≡ n
bits_small true n e = refl
bits_small false n e = cc

bits_large : (b : Bool) (n : ℕ) → is_small (if b then Small n else Ref n) ≡ false → bits_of (if b then Small n else Ref n) ≡ 0
bits_large true n e = cc
bits_large false n e = refl

pub bits-small : (w : ℕ) → is_small (value_of w) ≡ true → bits_of (value_of w) ≡ w / 2
unfolding value_of
bits-small w e = bits_small (w % 2 == 1) (w / 2) e

pub bits-large : (w : ℕ) → is_small (value_of w) ≡ false → bits_of (value_of w) ≡ 0
unfolding value_of
bits-large w e = bits_large (w % 2 == 1) (w / 2) e

pub ruleset bits = (bits-small, bits-large)

bits_most : (b : Bool) (n : ℕ) → bits_of (if b then Small n else Ref n) ≤ n
bits_most true n = omega arith
bits_most false n = omega arith

-- a word of 16 bits has a header of 15
pub bits-most : (w : ℕ) → bits_of (value_of w) ≤ w / 2
unfolding value_of
bits-most w = bits_most (w % 2 == 1) (w / 2)

pub ruleset widths = (bits-most)

-- a header of a Method counts its literals
pub literal_count-small : (v : Value) → is_small v ≡ true → literal_count v ≡ literals_of v
literal_count-small (Small n) e = refl
literal_count-small (Ref n) e = cc

pub ruleset counts = (literal_count-small)

primitive_small : (b : Bool) (n : ℕ) (s : State Table) → is_small (if b then Small n else Ref n) ≡ true → (primitive_number (if b then Small n else Ref n)).run s ≡ Went (n % 256) s
unfolding primitive_number answer
primitive_small true n s e = refl
primitive_small false n s e = cc

primitive_large : (b : Bool) (n : ℕ) (s : State Table) → is_small (if b then Small n else Ref n) ≡ false → (primitive_number (if b then Small n else Ref n)).run s ≡ Died dead.NotSmall
unfolding primitive_number die
primitive_large true n s e = cc
primitive_large false n s e = refl

pub primitive-small : (w : ℕ) (s : State Table) → is_small (value_of w) ≡ true → (primitive_number (value_of w)).run s ≡ Went (w / 2 % 256) s
unfolding value_of
primitive-small w s e = primitive_small (w % 2 == 1) (w / 2) s e

pub primitive-large : (w : ℕ) (s : State Table) → is_small (value_of w) ≡ false → (primitive_number (value_of w)).run s ≡ Died dead.NotSmall
unfolding value_of
primitive-large w s e = primitive_large (w % 2 == 1) (w / 2) s e

pub ruleset primitives = (primitive-small, primitive-large)

-- the number of arguments that a header extension names

arguments_small : (b : Bool) (n : ℕ) (s : State Table) → is_small (if b then Small n else Ref n) ≡ true → (extension_arguments (if b then Small n else Ref n)).run s ≡ Went (n / 256 % 32) s
unfolding extension_arguments answer
arguments_small true n s e = refl
arguments_small false n s e = cc

arguments_large : (b : Bool) (n : ℕ) (s : State Table) → is_small (if b then Small n else Ref n) ≡ false → (extension_arguments (if b then Small n else Ref n)).run s ≡ Died dead.NotSmall
unfolding extension_arguments die
arguments_large true n s e = cc
arguments_large false n s e = refl

pub arguments-small : (w : ℕ) (s : State Table) → is_small (value_of w) ≡ true → (extension_arguments (value_of w)).run s ≡ Went (w / 2 / 256 % 32) s
unfolding value_of
arguments-small w s e = arguments_small (w % 2 == 1) (w / 2) s e

pub arguments-large : (w : ℕ) (s : State Table) → is_small (value_of w) ≡ false → (extension_arguments (value_of w)).run s ≡ Died dead.NotSmall
unfolding value_of
arguments-large w s e = arguments_large (w % 2 == 1) (w / 2) s e

pub ruleset arguments = (arguments-small, arguments-large)
