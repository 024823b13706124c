-- What holds either way a test goes.
use Rattle.std.proofs.Common.{◌≡◌, Bool, true, false, refl}

pub by_test : {P : Type 0} (t : Bool) → (t ≡ true → P) → (t ≡ false → P) → P
by_test true passed failed = passed refl
by_test false passed failed = failed refl
