-- What is held, by name.
use Rattle.std.specs.Prelude.{ℕ, ◌==◌, Bool, List, [], ◌∷◌}
use Rattle.st_model.specs.Values.{Value}
use Rattle.st_model.specs.Machine.{device_roots}
use Rattle.st_model.specs.Settled.{or, any_names}
use Rattle.st_model.specs.View.{Held}

abbrev pub register_roots : Held → List Value
register_roots h = h.active ∷ h.home ∷ h.method ∷ h.receiver ∷ []

-- the name is nil's, or that of what is held
abbrev pub names_held : Held → ℕ → Bool
names_held h n = or (any_names (register_roots h) n) (or (any_names (device_roots h.devices) n) (n == 1))
