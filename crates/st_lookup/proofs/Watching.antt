-- What is watched of the value of a pointer.
use Rattle.std.proofs.Common.{◌≡◌, ℕ, List, Bool, true, false, refl}
use Rattle.std.specs.Prelude.{◌/◌, ◌%◌, ◌==◌, if◌then◌else◌}
use Rattle.st_model.specs.Values.{Small, Ref, value_of}
use Rattle.st_lookup.specs.inside.Remembered.{on, IsOn, IsOff}

off_if : (bits : List ℕ) (b : Bool) (n : ℕ) → on bits n ≡ false → IsOff bits (if b then Small n else Ref n)
off_if bits true n e = tt
off_if bits false n e = e

on_if : (bits : List ℕ) (b : Bool) (n : ℕ) → on bits n ≡ true → IsOn bits (if b then Small n else Ref n)
on_if bits true n e = refl
on_if bits false n e = e

pub off_value : (bits : List ℕ) (w : ℕ) → on bits (w / 2) ≡ false → IsOff bits (value_of w)
unfolding value_of
off_value bits w e = off_if bits (w % 2 == 1) (w / 2) e

pub on_value : (bits : List ℕ) (w : ℕ) → on bits (w / 2) ≡ true → IsOn bits (value_of w)
unfolding value_of
on_value bits w e = on_if bits (w % 2 == 1) (w / 2) e

pub ruleset values = (off_value, on_value)
