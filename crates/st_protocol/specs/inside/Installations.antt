-- What an installer answers, and what it leaves.
use Rattle.std.specs.Prelude.{◌≡◌, ⊤}
use Rattle.st_model.specs.Table.{Table}
use Rattle.st_model.specs.Machine.{State}
use Rattle.st_model.specs.Show.{Shows}
use Rattle.st_model.specs.View.{View}
use Rattle.st_protocol.specs.Installing.{Installed, Refused, Accepted}
use Rattle.st_protocol.specs.declared.installation.Installation.{Installation}
use Rattle.st_protocol.specs.declared.installation.Installation.TheVariants as installation

-- It answers what comes of the definition, unless there was no memory, and the new state is shown.
abbrev pub InstallsAs : Installed → Installation → State Table → Type 0
InstallsAs (Refused why) (installation.Accepted selector) c = ⊥
InstallsAs (Refused why) (installation.Refused cause) c = cause ≡ why
InstallsAs (Refused why) installation.OutOfMemory c = ⊤
InstallsAs (Accepted name t) (installation.Accepted selector) c = (selector.items ≡ name) × Shows c t
InstallsAs (Accepted name t) (installation.Refused cause) c = ⊥
InstallsAs (Accepted name t) installation.OutOfMemory c = ⊤

-- where nothing was installed, all is as before
abbrev pub Unchanged : Installation → View → View → Type 0
Unchanged (installation.Accepted selector) old new = ⊤
Unchanged (installation.Refused cause) old new = new ≡ old
Unchanged installation.OutOfMemory old new = new ≡ old
