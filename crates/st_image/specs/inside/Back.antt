-- When an image is read back.
use Rattle.std.specs.Prelude.{◌≡◌}
use Rattle.st_model.specs.Machine.{State, Went}
use Rattle.st_model.specs.Table.{Table, table}
use Rattle.st_model.specs.View.{View}
use Rattle.st_model.specs.Contexts.{fetch_scheduled_registers}
use Rattle.st_model.specs.Start.{idle_state}

-- the registers of the scheduler's active process can be fetched from what a memory contains
abbrev pub CanStart : View → Type 0
CanStart v = (s : State Table) × ((fetch_scheduled_registers table).run (idle_state v) ≡ Went tt s)
