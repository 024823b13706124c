use Rattle.std.proofs.Common.{◌∙◌}
use Rattle.st_model.specs.Show.{raised}
use Rattle.st_model.specs.Start.{idle_state}
use Rattle.st_kernel_text.specs.Texts.{account}
use Rattle.st_first_objects.specs.First.{first_view}
use Rattle.st_install.specs.Defining.{installed}
use Rattle.st_kernel.specs.Built.{no_side}
use Rattle.st_kernel.proofs.Whole.{with_room, roomless}
use Rattle.st_kernel.proofs.Lost.{lost_from, bare_from}
use Rattle.st_kernel.proofs.FirstBirths.{placed, fixed, first_scheduled, first_holds}
use Rattle.st_kernel.proofs.laws.lost_starts_are_missing.Goals as goal

pub returns-clause-lost : goal.returns-clause-lost
returns-clause-lost c text n room e =
    let a = account text in
    let first = placed a room in
    lost_from (fixed a first) (first_scheduled a first) a.cause n a.parts 1 (raised (idle_state (first_view a))) no_side (first_holds a first)
    (with_room installed a text (λ i. a) room ∙ e)

pub returns-clause-bare : goal.returns-clause-bare
returns-clause-bare c text n room e = let a = account text in bare_from a.cause n a.parts 1 0 (roomless installed a text (λ i. a) room ∙ e)
