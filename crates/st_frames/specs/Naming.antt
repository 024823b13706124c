-- What a memory holds of the world (chapter 29): the objects that it names are roots.
use Rattle.std.specs.Prelude.{◌≡◌, ◌-◌, ◌++◌, length, replicate}
use Rattle.st_model.specs.Objects.{nil}
use Rattle.st_model.specs.Machine.{Devices, World}
use Rattle.st_model.specs.View.{Held}

-- devices as a memory holds them: it has 4096 places for pending signals, with nil at those behind the last one
abbrev pub filled : Devices → Devices
filled d = record d { pending = d.pending ++ replicate (4096 - length d.pending) nil }

-- what the world names is held at its places
abbrev pub IsNaming : Held → World → Type 0
IsNaming h w = h.devices ≡ filled w.devices

-- what is held, with what this world names at its places; the registers are as before
abbrev pub naming : Held → World → Held
naming h w = record h { devices = filled w.devices }
