-- The laws are lemmas.
use Rattle.st_install.proofs.GoesLaw.{ready_installs}
use Rattle.st_install.proofs.GainsLaw.{gains}
use Rattle.st_install.proofs.GainsStaying.{gains_stay}
use Rattle.st_install.proofs.laws.install_gains.Goals as goal

pub returns : goal.returns
returns z = record { installs = ready_installs; gains = gains; stay = gains_stay }
